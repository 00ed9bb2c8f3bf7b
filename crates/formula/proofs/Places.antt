-- What stands at the places that the faults tell, and that each is the first of its kind.
use Rattle.std.proofs.Common.{◌≡◌, ℕ, ◌+◌, ◌<◌, ◌≤◌, Bool, true, false, leb, ◌⊎◌, List, [], ◌∷◌, ◌++◌, length, drop, is_some, Some, None, decimal, Option, sym, refl, ap, ◌∙◌, subst, inl, inr, ⊎_elim, append_assoc, append-nil, arith, length-append}
use Rattle.std.specs.Option.{option_or}
use Rattle.std.proofs.lemmas.List.{drop_at, drop-drop, drop_all}
use Rattle.std.proofs.lemmas.Bool.{leb-false, lt-leb, cases_lt}
use Rattle.std.proofs.lemmas.Option.{none-some}
use Rattle.text.specs.Refusals.{ask}
use Rattle.theory.specs.Mixes.{whole}
use Rattle.theory.specs.Formulas.{Comparison, below, at_most, above, at_least, Formula, PathFormula, truth, label, negation, conjunction, probability, next, until_within, until, extremal, most_steps}
use Rattle.grammar.specs.Words.{Stands}
use Rattle.grammar.specs.Spelling.{sign, print_bound, print, print_path, FewDigits, Spelled, SpelledPath}
use Rattle.grammar.specs.Languages.{NumberWord}
use Rattle.grammar.proofs.Chains.{heads}
use Rattle.grammar.proofs.Parts.{digit_inside}
use Rattle.grammar.proofs.Readings.{only}
use Rattle.formula.specs.Questions.{first_large, path_first_large, unbounded, first_unbounded, path_first_unbounded}
use Rattle.formula.specs.Places.{ProbabilityAt, before_steps, LargeNumber, UnboundedUntil, FirstAt}

-- the least place of which P holds, if it holds of any
abbrev pub FirstIfAny : (ℕ → Type 0) → Option ℕ → Type 0
FirstIfAny P None = (p : ℕ) → P p → ⊥
FirstIfAny P (Some p) = FirstAt P p

-- the first part of what stands in a text stands there
front : (u v : List ℕ) {t : List ℕ} {a e : ℕ} → Stands (u ++ v) t a e → Stands u t a (a + length u)
front u v {t} {a} {e} s =
    let rest : drop (a + length u) t ≡ v ++ drop e t = sym (drop-drop (length u) a t) ∙ ap (drop (length u)) (s.splits ∙ append_assoc u v (drop e t)) ∙ drop_at u (v ++ drop e t) (length u) refl in
    record {
      splits = s.splits ∙ append_assoc u v (drop e t) ∙ ap (λ z. u ++ z) (sym rest);
      place = refl;
      within = omega (arith, s.place, s.within, length-append u v);
    }

-- the second part stands after it
back : (u v : List ℕ) {t : List ℕ} {a e : ℕ} → Stands (u ++ v) t a e → Stands v t (a + length u) e
back u v {t} {a} {e} s = record {
  splits = sym (drop-drop (length u) a t) ∙ ap (drop (length u)) (s.splits ∙ append_assoc u v (drop e t)) ∙ drop_at u (v ++ drop e t) (length u) refl;
  place = omega (arith, s.place, length-append u v);
  within = s.within;
}

-- the first part ends where the whole does, or before
front_end : (u v : List ℕ) {t : List ℕ} {a e : ℕ} → Stands (u ++ v) t a e → a + length u ≤ e
front_end u v s = omega (arith, s.place, length-append u v)

-- what stands in a text ends behind its own length
own_end : {w t : List ℕ} {a e : ℕ} → Stands w t a e → Stands w t a (a + length w)
own_end {w} {t} {a} {e} s = subst (λ (z : ℕ). Stands w t a z) s.place s

-- no byte of a word is `P`
abbrev NoP : List ℕ → Type 0
NoP [] = Unit {0}
NoP (x ∷ xs) = (x ≡ 80 → ⊥) × NoP xs

-- nor is one of two words
no_p_append : (u v : List ℕ) → NoP u → NoP v → NoP (u ++ v)
no_p_append [] v h k = k
no_p_append (x ∷ u) v h k = (h.0, no_p_append u v h.1 k)

-- no digit of a number is one
no_p_digits : (u w : List ℕ) → NumberWord (u ++ w) → NoP w
no_p_digits u [] h = tt
no_p_digits u (c ∷ j) h =
    let d = digit_inside u c j h in
    ((λ e. omega (arith, e, d.1)), no_p_digits (u ++ (c ∷ [])) j (subst NumberWord (sym (append_assoc u (c ∷ []) j)) h))

-- nor is a byte of a comparison
no_p_sign : (c : Comparison) → NoP (sign c)
no_p_sign below = ((λ e. omega (arith, e)), tt)
no_p_sign at_most = ((λ e. omega (arith, e)), ((λ e. omega (arith, e)), tt))
no_p_sign above = ((λ e. omega (arith, e)), tt)
no_p_sign at_least = ((λ e. omega (arith, e)), ((λ e. omega (arith, e)), tt))

-- nor one of a bound
no_p_bound : (c : Comparison) (b : ℕ) → FewDigits b → NoP (print_bound c b)
no_p_bound c b l = no_p_append (sign c) (decimal b) (no_p_sign c) (no_p_digits [] (decimal b) (b, l, refl))

-- a `P` in a text stands outside of each word there that has none
outside : (w : List ℕ) {t : List ℕ} {a e q : ℕ} → NoP w → Stands w t a e → Stands (80 ∷ []) t q (q + 1) → (q < a) ⊎ (e ≤ q)
outside [] {t} {a} {e} {q} n s y = ⊎_elim (λ h. inl h) (λ h. inr (omega (arith, s.place, h))) (cases_lt q a)
outside (x ∷ w) {t} {a} {e} {q} n s y =
    ⊎_elim
    (λ h. ⊎_elim
    (λ k. inl k)
    (λ k. let here : a ≡ q = omega (arith, h, k) in absurd (n.0 (heads (sym s.splits ∙ ap (λ z. drop z t) here ∙ y.splits))))
    (cases_lt q a))
    (λ h. inr h)
    (outside w n.1 (back (x ∷ []) w s) y)

-- in which part of a formula a `P` stands
module _ {t : List ℕ} {q : ℕ} (y : Stands (80 ∷ []) t q (q + 1)) where
  -- outside of a byte that is none
  beside : (x : ℕ) (w : List ℕ) {a e : ℕ} → (x ≡ 80 → ⊥) → Stands (x ∷ w) t a e → (q < a) ⊎ (a + 1 ≤ q)
  beside x w n s = outside (x ∷ []) (n, tt) (front (x ∷ []) w s) y

  -- none stands in `true`
  in_truth : {at e : ℕ} → Stands (print truth) t at e → at ≤ q → q < e → ⊥
  in_truth s l m =
      ⊎_elim
      (λ h. omega (arith, h, l))
      (λ h. omega (arith, h, m))
      (outside (print truth) ((λ e. omega (arith, e)), ((λ e. omega (arith, e)), ((λ e. omega (arith, e)), ((λ e. omega (arith, e)), tt)))) s y)

  -- nor in a letter
  in_label : (i : ℕ) {at e : ℕ} → Stands (print (label i)) t at e → at ≤ q → q < e → ⊥
  in_label i s l m = ⊎_elim (λ h. omega (arith, h, l)) (λ h. omega (arith, h, m)) (outside (print (label i)) ((λ e. omega (arith, e)), tt) s y)

  -- in `!f` it stands in f
  in_negation : (f : Formula) {at e : ℕ} → Stands (print (negation f)) t at e → at ≤ q → at + 1 ≤ q
  in_negation f s l = ⊎_elim (λ h. absurd (omega (arith, h, l))) (λ h. h) (beside 33 (print f) (λ e. omega (arith, e)) s)

  -- in `(f&g)` in f or in g
  in_conjunction : (f g : Formula) {at e : ℕ} → Stands (print (conjunction f g)) t at e → at ≤ q → q < e →
      ((at + 1 ≤ q) × (q < at + 1 + length (print f))) ⊎ ((at + 1 + length (print f) + 1 ≤ q) × (q < at + 1 + length (print f) + 1 + length (print g)))
  in_conjunction f g {at} {e} s l m =
      let rest = back (40 ∷ []) _ s in
      let middle = back (print f) _ rest in
      let right = back (38 ∷ []) _ middle in
      ⊎_elim
      (λ h. absurd (omega (arith, h, l)))
      (λ h. ⊎_elim
      (λ k. inl (h, k))
      (λ k. ⊎_elim
      (λ j. inr (k, j))
      (λ j. absurd (omega (arith, j, m)))
      (outside (41 ∷ []) ((λ z. omega (arith, z)), tt) (back (print g) (41 ∷ []) right) y))
      (beside 38 _ (λ z. omega (arith, z)) middle))
      (beside 40 _ (λ z. omega (arith, z)) s)

  -- in a probability it is its own, or stands in the path
  in_probability : (c : Comparison) (b : ℕ) (r : PathFormula) {at e : ℕ} → FewDigits b → Stands (print (probability c b r)) t at e → at ≤ q → q < e →
      (q ≡ at) ⊎ ((at + 1 + length (print_bound c b) + 1 ≤ q) × (q < at + 1 + length (print_bound c b) + 1 + length (print_path r)))
  in_probability c b r {at} {e} few s l m =
      let rest = back (80 ∷ []) _ s in
      let opening = back (print_bound c b) _ rest in
      let path = back (91 ∷ []) _ opening in
      ⊎_elim
      (λ h. inl (omega (arith, h, l)))
      (λ h. ⊎_elim
      (λ k. absurd (omega (arith, k, h)))
      (λ k. ⊎_elim
      (λ j. inr (k, j))
      (λ j. absurd (omega (arith, j, m)))
      (outside (93 ∷ []) ((λ z. omega (arith, z)), tt) (back (print_path r) (93 ∷ []) path) y))
      (beside 91 _ (λ z. omega (arith, z)) opening))
      (outside (print_bound c b) (no_p_bound c b few) (front (print_bound c b) _ rest) y)

  -- in `Xf` it stands in f
  in_next : (f : Formula) {at e : ℕ} → Stands (print_path (next f)) t at e → at ≤ q → at + 1 ≤ q
  in_next f s l = ⊎_elim (λ h. absurd (omega (arith, h, l))) (λ h. h) (beside 88 (print f) (λ e. omega (arith, e)) s)

  -- in an until with steps in one of its two parts
  in_until_within : (k : ℕ) (f g : Formula) {at e : ℕ} → FewDigits k → Stands (print_path (until_within k f g)) t at e →
      (q < at + length (print f)) ⊎ (at + length (print f) + 1 + length (print_bound at_most k) ≤ q)
  in_until_within k f g {at} {e} few s =
      let middle = back (print f) _ s in
      let rest = back (85 ∷ []) _ middle in
      ⊎_elim
      (λ h. inl h)
      (λ h. ⊎_elim (λ j. absurd (omega (arith, j, h))) (λ j. inr j) (outside (print_bound at_most k) (no_p_bound at_most k few) (front (print_bound at_most k) _ rest) y))
      (beside 85 _ (λ z. omega (arith, z)) middle)

  -- and so in one without
  in_until : (f g : Formula) {at e : ℕ} → Stands (print_path (until f g)) t at e → (q < at + length (print f)) ⊎ (at + length (print f) + 1 ≤ q)
  in_until f g {at} {e} s = beside 85 _ (λ z. omega (arith, z)) (back (print f) _ s)

-- the first of two places is one of the two
or_some : (a b : Option ℕ) (p : ℕ) → option_or a b ≡ Some p → (a ≡ Some p) ⊎ (b ≡ Some p)
or_some None b p e = inr e
or_some (Some x) b p e = inl e

-- a question that finds a place was answered no, and the place is its own
ask_some : (b : Bool) (x p : ℕ) → ask b x ≡ Some p → (b ≡ false) × (x ≡ p)
ask_some true x p e = absurd cc
ask_some false x p e = (refl, cc)

-- there is a place, at q or before
abbrev Before : Option ℕ → ℕ → Type 0
Before o q = (p : ℕ) × (o ≡ Some p) × (p ≤ q)

-- the first of two places is there if the first is
or_left : (a b : Option ℕ) (q : ℕ) → Before a q → Before (option_or a b) q
or_left None b q (p, e, l) = absurd cc
or_left (Some x) b q h = h

-- or if the second is, and the first is not behind q
or_right : (a b : Option ℕ) (q : ℕ) → ((p : ℕ) → a ≡ Some p → p ≤ q) → Before b q → Before (option_or a b) q
or_right None b q l h = h
or_right (Some x) b q l h = (x, refl, l x refl)

-- a question that is answered no finds its place
ask_no : (b : Bool) (x q : ℕ) → b ≡ false → x ≤ q → Before (ask b x) q
ask_no b x q e l = (x, ap (λ z. ask z x) e, l)

-- where the steps of an until stand
steps_place : (c : Comparison) (b : ℕ) (f : Formula) → length (before_steps c b (print f)) ≡ 1 + length (print_bound c b) + 1 + length (print f) + 1 + length (sign at_most)
steps_place c b f = omega (arith, length-append (print_bound c b) (91 ∷ (print f ++ (85 ∷ sign at_most))), length-append (print f) (85 ∷ sign at_most))

-- no value is none
none_is : {X : Type 0} (x : Option X) → is_some x ≡ false → x ≡ None
none_is None e = refl
none_is (Some x) e = absurd cc

module _ (t : List ℕ) where
  -- where a formula stands in a text, the place of its first large number is that of one, and lies there
  mutual
    large_stands : (f : Formula) (at e p : ℕ) → Spelled f → Stands (print f) t at e → first_large at f ≡ Some p → LargeNumber t p × (p ≤ e)
    large_stands truth at e p l s q = absurd (none-some p q)
    large_stands (label i) at e p l s q = absurd (none-some p q)
    large_stands (negation f) at e p l s q = large_stands f (at + 1) e p l (back (33 ∷ []) _ s) q
    large_stands (conjunction f g) at e p l s q =
        let rest = back (40 ∷ []) _ s in
        let right = back (38 ∷ []) _ (back (print f) _ rest) in
        ⊎_elim
        (λ h. let (n, m) = large_stands f (at + 1) _ p l.0 (front (print f) _ rest) h in (n, omega (arith, m, front_end (print f) _ rest)))
        (λ h. let (n, m) = large_stands g (at + 1 + length (print f) + 1) _ p l.1 (front (print g) _ right) h in (n, omega (arith, m, front_end (print g) _ right)))
        (or_some _ _ p q)
    large_stands (probability c b r) at e p l s q =
        let own : ProbabilityAt t at c b r = record { spelled = l; stands = own_end s } in
        let rest = back (80 ∷ []) _ s in
        let path = back (91 ∷ []) _ (back (print_bound c b) _ rest) in
        ⊎_elim
        (λ h.
        let (no_fit, here) = ask_some (leb b whole) (at + 1 + length (sign c)) p h in
        (inl (b, record { from = at; comparison = c; path = r; stands = own; place = omega (arith, here) }, leb-false b whole no_fit), omega (arith, here, length-append (sign c) (decimal b), front_end (print_bound c b) _ rest)))
        (λ h. let (n, m) = path_large_stands c b at r (at + 1 + length (print_bound c b) + 1) _ p l.1 own refl (front (print_path r) _ path) h in (n, omega (arith, m, front_end (print_path r) _ path)))
        (or_some _ _ p q)

    -- the same of the path of a probability that stands in the text from `from` on
    path_large_stands : (c : Comparison) (b from : ℕ) (r : PathFormula) (at e p : ℕ) → SpelledPath r → ProbabilityAt t from c b r → at ≡ from + 1 + length (print_bound c b) + 1
        → Stands (print_path r) t at e → path_first_large at r ≡ Some p → LargeNumber t p × (p ≤ e)
    path_large_stands c b from (next f) at e p l own i s q = large_stands f (at + 1) e p l (back (88 ∷ []) _ s) q
    path_large_stands c b from (until_within k f g) at e p l own i s q =
        let middle = back (print f) _ s in
        let rest = back (85 ∷ []) _ middle in
        ⊎_elim
        (λ h. let (n, m) = large_stands f at _ p l.1 (front (print f) _ s) h in (n, omega (arith, m, front_end (print f) _ s)))
        (λ h. ⊎_elim
        (λ h'.
        let (no_fit, here) = ask_some (leb k most_steps) (at + length (print f) + 1 + length (sign at_most)) p h' in
        (inr (k, record { from = from; comparison = c; bound = b; left = f; right = g; stands = own; place = omega (arith, here, i, steps_place c b f) }, leb-false k most_steps no_fit), omega (arith, here, length-append (sign at_most) (decimal k), front_end (print_bound at_most k) _ rest)))
        (λ h'. large_stands g (at + length (print f) + 1 + length (print_bound at_most k)) e p l.2 (back (print_bound at_most k) _ rest) h')
        (or_some _ _ p h))
        (or_some _ _ p q)
    path_large_stands c b from (until f g) at e p l own i s q =
        ⊎_elim
        (λ h. let (n, m) = large_stands f at _ p l.0 (front (print f) _ s) h in (n, omega (arith, m, front_end (print f) _ s)))
        (λ h. large_stands g (at + length (print f) + 1) e p l.1 (back (85 ∷ []) _ (back (print f) _ s)) h)
        (or_some _ _ p q)

  -- a `P` over an until that may not stand there, at its own place
  own_p : (c : Comparison) (b : ℕ) (r : PathFormula) (at e p : ℕ) → ProbabilityAt t at c b r → at ≤ e → unbounded c b r at ≡ Some p → UnboundedUntil t p × (p ≤ e)
  own_p c b (next f) at e p own m q = absurd (none-some p q)
  own_p c b (until_within k f g) at e p own m q = absurd (none-some p q)
  own_p c b (until f g) at e p own m q =
      let (none, here) = ask_some (is_some (extremal c b)) at p q in
      (record { comparison = c; bound = b; left = f; right = g; stands = subst (λ (z : ℕ). ProbabilityAt t z c b (until f g)) here own; unbounded = none_is (extremal c b) none }, omega (arith, here, m))

  -- the place of its first `P` over an until that may not stand there is that of one, and lies there
  mutual
    p_stands : (f : Formula) (at e p : ℕ) → Spelled f → Stands (print f) t at e → first_unbounded at f ≡ Some p → UnboundedUntil t p × (p ≤ e)
    p_stands truth at e p l s q = absurd (none-some p q)
    p_stands (label i) at e p l s q = absurd (none-some p q)
    p_stands (negation f) at e p l s q = p_stands f (at + 1) e p l (back (33 ∷ []) _ s) q
    p_stands (conjunction f g) at e p l s q =
        let rest = back (40 ∷ []) _ s in
        let right = back (38 ∷ []) _ (back (print f) _ rest) in
        ⊎_elim
        (λ h. let (n, m) = p_stands f (at + 1) _ p l.0 (front (print f) _ rest) h in (n, omega (arith, m, front_end (print f) _ rest)))
        (λ h. let (n, m) = p_stands g (at + 1 + length (print f) + 1) _ p l.1 (front (print g) _ right) h in (n, omega (arith, m, front_end (print g) _ right)))
        (or_some _ _ p q)
    p_stands (probability c b r) at e p l s q =
        let path = back (91 ∷ []) _ (back (print_bound c b) _ (back (80 ∷ []) _ s)) in
        ⊎_elim
        (λ h. own_p c b r at e p (record { spelled = l; stands = own_end s }) (omega (arith, s.place)) h)
        (λ h. let (n, m) = path_p_stands r (at + 1 + length (print_bound c b) + 1) _ p l.1 (front (print_path r) _ path) h in (n, omega (arith, m, front_end (print_path r) _ path)))
        (or_some _ _ p q)

    -- the same of a path formula
    path_p_stands : (r : PathFormula) (at e p : ℕ) → SpelledPath r → Stands (print_path r) t at e → path_first_unbounded at r ≡ Some p → UnboundedUntil t p × (p ≤ e)
    path_p_stands (next f) at e p l s q = p_stands f (at + 1) e p l (back (88 ∷ []) _ s) q
    path_p_stands (until_within k f g) at e p l s q =
        ⊎_elim
        (λ h. let (n, m) = p_stands f at _ p l.1 (front (print f) _ s) h in (n, omega (arith, m, front_end (print f) _ s)))
        (λ h. p_stands g (at + length (print f) + 1 + length (print_bound at_most k)) e p l.2 (back (print_bound at_most k) _ (back (85 ∷ []) _ (back (print f) _ s))) h)
        (or_some _ _ p q)
    path_p_stands (until f g) at e p l s q =
        ⊎_elim
        (λ h. let (n, m) = p_stands f at _ p l.0 (front (print f) _ s) h in (n, omega (arith, m, front_end (print f) _ s)))
        (λ h. p_stands g (at + length (print f) + 1) e p l.1 (back (85 ∷ []) _ (back (print f) _ s)) h)
        (or_some _ _ p q)

-- the steps of an until, over which this probability stands at a, stand at q and are too many
abbrev OwnSteps : Comparison → ℕ → PathFormula → ℕ → ℕ → Type 0
OwnSteps c b (next f) a q = ⊥
OwnSteps c b (until_within k f g) a q = (q ≡ a + length (before_steps c b (print f))) × (most_steps < k)
OwnSteps c b (until f g) a q = ⊥

-- a number at q is large that is the bound of this formula, which stands at a, or the steps of its until
abbrev OwnLarge : Formula → ℕ → ℕ → Type 0
OwnLarge truth a q = ⊥
OwnLarge (label i) a q = ⊥
OwnLarge (negation f) a q = ⊥
OwnLarge (conjunction f g) a q = ⊥
OwnLarge (probability c b r) a q = ((q ≡ a + length (80 ∷ sign c)) × (whole < b)) ⊎ OwnSteps c b r a q

-- the path is an until without steps that may not stand under this bound
abbrev OwnPath : Comparison → ℕ → PathFormula → Type 0
OwnPath c b (next f) = ⊥
OwnPath c b (until_within k f g) = ⊥
OwnPath c b (until f g) = extremal c b ≡ None

-- this formula is a probability over one
abbrev OwnUnbounded : Formula → Type 0
OwnUnbounded truth = ⊥
OwnUnbounded (label i) = ⊥
OwnUnbounded (negation f) = ⊥
OwnUnbounded (conjunction f g) = ⊥
OwnUnbounded (probability c b r) = OwnPath c b r

-- what of a formula d that begins with `P` and stands in the text from a on is found in a formula around it
module _ {t : List ℕ} (d : Formula) {a z : ℕ} (ld : Spelled d) (sd : Stands (print d) t a z) (y : Stands (80 ∷ []) t a (a + 1)) where
  -- the formula that stands there is d
  same : (f : Formula) {at e : ℕ} → Spelled f → Stands (print f) t at e → a ≡ at → d ≡ f
  same f {at} {e} l s i = only d ld f (drop z t) (drop e t) l (sym sd.splits ∙ ap (λ k. drop k t) i ∙ s.splits)

  module _ (q : ℕ) (own : OwnLarge d a q) (later : a ≤ q) where
    -- a large number of a probability's own is found at its place, or one before it
    own_large : (c : Comparison) (b : ℕ) (r : PathFormula) {at e : ℕ} → Spelled (probability c b r) → Stands (print (probability c b r)) t at e → a ≡ at → Before (first_large at (probability c b r)) q
    own_large c b r {at} {e} l s i = by_own (subst (λ k. OwnLarge k a q) (same (probability c b r) l s i) own)
      where
        rest : Stands (print_bound c b ++ (91 ∷ (print_path r ++ (93 ∷ [])))) t (at + 1) e
        rest = back (80 ∷ []) _ s

        path : Stands (print_path r ++ (93 ∷ [])) t (at + 1 + length (print_bound c b) + 1) e
        path = back (91 ∷ []) _ (back (print_bound c b) _ rest)

        bound_first : (p : ℕ) → ask (leb b whole) (at + 1 + length (sign c)) ≡ Some p → p ≡ at + 1 + length (sign c)
        bound_first p h = sym (ask_some (leb b whole) (at + 1 + length (sign c)) p h).1

        by_steps : (r : PathFormula) → SpelledPath r → Stands (print_path r ++ (93 ∷ [])) t (at + 1 + length (print_bound c b) + 1) e → OwnSteps c b r a q → Before (path_first_large (at + 1 + length (print_bound c b) + 1) r) q
        by_steps (next f) lr s' h = absurd h
        by_steps (until f g) lr s' h = absurd h
        by_steps (until_within k f g) lr s' h =
            or_right (first_large (at + 1 + length (print_bound c b) + 1) f) _ q
            (λ p h'. let (n, m) = large_stands t f (at + 1 + length (print_bound c b) + 1) _ p lr.1 (front (print f) _ (front (print_path (until_within k f g)) _ s')) h' in omega (arith, m, h.0, i, steps_place c b f))
            (or_left _ _ q (ask_no (leb k most_steps) _ q (lt-leb k most_steps h.1) (omega (arith, h.0, i, steps_place c b f))))

        after_bound : OwnSteps c b r a q → at + 1 + length (sign c) ≤ q
        after_bound h = by r h
          where
            by : (r : PathFormula) → OwnSteps c b r a q → at + 1 + length (sign c) ≤ q
            by (next f) h = absurd h
            by (until f g) h = absurd h
            by (until_within k f g) h = omega (arith, h.0, i, steps_place c b f, length-append (sign c) (decimal b))

        by_own : OwnLarge (probability c b r) a q → Before (first_large at (probability c b r)) q
        by_own h =
            ⊎_elim
            (λ k. or_left _ _ q (ask_no (leb b whole) _ q (lt-leb b whole k.1) (omega (arith, k.0, i))))
            (λ k. or_right (ask (leb b whole) (at + 1 + length (sign c))) _ q (λ p j. omega (arith, bound_first p j, after_bound k)) (by_steps r l.1 path k))
            h

    -- a large number of d's is found in a formula around it, or one before it
    mutual
      large_before : (f : Formula) (at e : ℕ) → Spelled f → Stands (print f) t at e → at ≤ a → a < e → Before (first_large at f) q
      large_before truth at e l s m n = absurd (in_truth y s m n)
      large_before (label i) at e l s m n = absurd (in_label y i s m n)
      large_before (negation f) at e l s m n = large_before f (at + 1) e l (back (33 ∷ []) _ s) (in_negation y f s m) n
      large_before (conjunction f g) at e l s m n =
          let rest = back (40 ∷ []) _ s in
          let right = back (38 ∷ []) _ (back (print f) _ rest) in
          ⊎_elim
          (λ h. or_left (first_large (at + 1) f) _ q (large_before f (at + 1) _ l.0 (front (print f) _ rest) h.0 h.1))
          (λ h. or_right (first_large (at + 1) f) _ q
          (λ p k. let (_, j) = large_stands t f (at + 1) _ p l.0 (front (print f) _ rest) k in omega (arith, j, h.0, later))
          (large_before g (at + 1 + length (print f) + 1) _ l.1 (front (print g) _ right) h.0 h.1))
          (in_conjunction y f g s m n)
      large_before (probability c b r) at e l s m n =
          let path = back (91 ∷ []) _ (back (print_bound c b) _ (back (80 ∷ []) _ s)) in
          ⊎_elim
          (λ h. own_large c b r l s h)
          (λ h. or_right (ask (leb b whole) (at + 1 + length (sign c))) _ q
          (λ p k. omega (arith, (ask_some (leb b whole) (at + 1 + length (sign c)) p k).1, h.0, later, length-append (sign c) (decimal b)))
          (path_large_before r (at + 1 + length (print_bound c b) + 1) _ l.1 (front (print_path r) _ path) h.0 h.1))
          (in_probability y c b r l.0 s m n)

      -- the same of a path formula
      path_large_before : (r : PathFormula) (at e : ℕ) → SpelledPath r → Stands (print_path r) t at e → at ≤ a → a < e → Before (path_first_large at r) q
      path_large_before (next f) at e l s m n = large_before f (at + 1) e l (back (88 ∷ []) _ s) (in_next y f s m) n
      path_large_before (until_within k f g) at e l s m n =
          let rest = back (85 ∷ []) _ (back (print f) _ s) in
          ⊎_elim
          (λ h. or_left (first_large at f) _ q (large_before f at _ l.1 (front (print f) _ s) m h))
          (λ h. or_right (first_large at f) _ q
          (λ p j. let (_, i) = large_stands t f at _ p l.1 (front (print f) _ s) j in omega (arith, i, h, later))
          (or_right (ask (leb k most_steps) (at + length (print f) + 1 + length (sign at_most))) _ q
          (λ p j. omega (arith, (ask_some (leb k most_steps) (at + length (print f) + 1 + length (sign at_most)) p j).1, h, later, length-append (sign at_most) (decimal k)))
          (large_before g (at + length (print f) + 1 + length (print_bound at_most k)) e l.2 (back (print_bound at_most k) _ rest) h n)))
          (in_until_within y k f g l.0 s)
      path_large_before (until f g) at e l s m n =
          ⊎_elim
          (λ h. or_left (first_large at f) _ q (large_before f at _ l.0 (front (print f) _ s) m h))
          (λ h. or_right (first_large at f) _ q
          (λ p j. let (_, i) = large_stands t f at _ p l.0 (front (print f) _ s) j in omega (arith, i, h, later))
          (large_before g (at + length (print f) + 1) e l.1 (back (85 ∷ []) _ (back (print f) _ s)) h n))
          (in_until y f g s)

  module _ (own : OwnUnbounded d) where
    -- a probability over an until that may not stand there is found at its own place
    own_unbounded : (c : Comparison) (b : ℕ) (r : PathFormula) (at : ℕ) → a ≡ at → OwnPath c b r → Before (unbounded c b r at) a
    own_unbounded c b (next f) at i h = absurd h
    own_unbounded c b (until_within k f g) at i h = absurd h
    own_unbounded c b (until f g) at i h = ask_no (is_some (extremal c b)) at a (ap is_some h) (omega (arith, i))

    -- the place of a probability is not behind it
    own_first : (c : Comparison) (b : ℕ) (r : PathFormula) (at p : ℕ) → unbounded c b r at ≡ Some p → at ≤ a → p ≤ a
    own_first c b (next f) at p h m = absurd (none-some p h)
    own_first c b (until_within k f g) at p h m = absurd (none-some p h)
    own_first c b (until f g) at p h m = omega (arith, (ask_some (is_some (extremal c b)) at p h).1, m)

    -- where d is one, it is found in a formula around it, or one before it
    mutual
      p_before : (f : Formula) (at e : ℕ) → Spelled f → Stands (print f) t at e → at ≤ a → a < e → Before (first_unbounded at f) a
      p_before truth at e l s m n = absurd (in_truth y s m n)
      p_before (label i) at e l s m n = absurd (in_label y i s m n)
      p_before (negation f) at e l s m n = p_before f (at + 1) e l (back (33 ∷ []) _ s) (in_negation y f s m) n
      p_before (conjunction f g) at e l s m n =
          let rest = back (40 ∷ []) _ s in
          let right = back (38 ∷ []) _ (back (print f) _ rest) in
          ⊎_elim
          (λ h. or_left (first_unbounded (at + 1) f) _ a (p_before f (at + 1) _ l.0 (front (print f) _ rest) h.0 h.1))
          (λ h. or_right (first_unbounded (at + 1) f) _ a
          (λ p k. let (_, j) = p_stands t f (at + 1) _ p l.0 (front (print f) _ rest) k in omega (arith, j, h.0))
          (p_before g (at + 1 + length (print f) + 1) _ l.1 (front (print g) _ right) h.0 h.1))
          (in_conjunction y f g s m n)
      p_before (probability c b r) at e l s m n =
          let path = back (91 ∷ []) _ (back (print_bound c b) _ (back (80 ∷ []) _ s)) in
          ⊎_elim
          (λ h. or_left (unbounded c b r at) _ a (own_unbounded c b r at h (subst OwnUnbounded (same (probability c b r) l s h) own)))
          (λ h. or_right (unbounded c b r at) _ a
          (λ p k. own_first c b r at p k m)
          (path_p_before r (at + 1 + length (print_bound c b) + 1) _ l.1 (front (print_path r) _ path) h.0 h.1))
          (in_probability y c b r l.0 s m n)

      -- the same of a path formula
      path_p_before : (r : PathFormula) (at e : ℕ) → SpelledPath r → Stands (print_path r) t at e → at ≤ a → a < e → Before (path_first_unbounded at r) a
      path_p_before (next f) at e l s m n = p_before f (at + 1) e l (back (88 ∷ []) _ s) (in_next y f s m) n
      path_p_before (until_within k f g) at e l s m n =
          let rest = back (85 ∷ []) _ (back (print f) _ s) in
          ⊎_elim
          (λ h. or_left (first_unbounded at f) _ a (p_before f at _ l.1 (front (print f) _ s) m h))
          (λ h. or_right (first_unbounded at f) _ a
          (λ p j. let (_, i) = p_stands t f at _ p l.1 (front (print f) _ s) j in omega (arith, i, h))
          (p_before g (at + length (print f) + 1 + length (print_bound at_most k)) e l.2 (back (print_bound at_most k) _ rest) h n))
          (in_until_within y k f g l.0 s)
      path_p_before (until f g) at e l s m n =
          ⊎_elim
          (λ h. or_left (first_unbounded at f) _ a (p_before f at _ l.0 (front (print f) _ s) m h))
          (λ h. or_right (first_unbounded at f) _ a
          (λ p j. let (_, i) = p_stands t f at _ p l.0 (front (print f) _ s) j in omega (arith, i, h))
          (p_before g (at + length (print f) + 1) e l.1 (back (85 ∷ []) _ (back (print f) _ s)) h n))
          (in_until y f g s)

-- a place is the first of its kind, if it is of the kind, and one is found at each of the kind or before
firsts : (P : ℕ → Type 0) (o : Option ℕ) → ((p : ℕ) → o ≡ Some p → P p) → ((q : ℕ) → P q → Before o q) → FirstIfAny P o
firsts P None is found = λ p h. let (q, e, l) = found p h in absurd (none-some q e)
firsts P (Some p) is found = record {
  here = is p refl;
  least = λ q h. let (p', e, l) = found q h in let i : p ≡ p' = cc in omega (arith, i, l);
}

-- the theorem of the places
pub places : (f : Formula) → Spelled f → FirstIfAny (LargeNumber (print f)) (first_large 0 f) × FirstIfAny (UnboundedUntil (print f)) (first_unbounded 0 f)
places f l = (
  firsts (LargeNumber (print f)) (first_large 0 f) (λ p h. (large_stands (print f) f 0 (length (print f)) p l all h).0) large,
  firsts (UnboundedUntil (print f)) (first_unbounded 0 f) (λ p h. (p_stands (print f) f 0 (length (print f)) p l all h).0) unbounded_found,
)
  where
    all : Stands (print f) (print f) 0 (length (print f))
    all = record { splits = sym (append-nil (print f)) ∙ ap (λ z. print f ++ z) (sym (drop_all (length (print f)) (print f) (omega arith))); place = omega arith; within = omega arith }

    large : (q : ℕ) → LargeNumber (print f) q → Before (first_large 0 f) q
    large q (inl (b, s, n)) =
        large_before (probability s.comparison b s.path) s.stands.spelled s.stands.stands (front (80 ∷ []) _ s.stands.stands) q (inl (s.place, n)) (omega (arith, s.place)) f 0 (length (print f)) l all (omega arith) (omega (arith, s.stands.stands.within))
    large q (inr (k, s, n)) =
        large_before (probability s.comparison s.bound (until_within k s.left s.right)) s.stands.spelled s.stands.stands (front (80 ∷ []) _ s.stands.stands) q (inr (s.place, n)) (omega (arith, s.place)) f 0 (length (print f)) l all (omega arith) (omega (arith, s.stands.stands.within))

    unbounded_found : (q : ℕ) → UnboundedUntil (print f) q → Before (first_unbounded 0 f) q
    unbounded_found q s =
        p_before (probability s.comparison s.bound (until s.left s.right)) s.stands.spelled s.stands.stands (front (80 ∷ []) _ s.stands.stands) s.unbounded f 0 (length (print f)) l all (omega arith) (omega (arith, s.stands.stands.within))
