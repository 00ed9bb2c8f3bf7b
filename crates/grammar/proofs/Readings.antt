-- A text has at most one reading.
use Rattle.std.proofs.Common.{◌≡◌, ℕ, ◌+◌, ◌<◌, List, [], ◌∷◌, ◌++◌, Some, None, Option, sym, refl, ap, ◌∙◌, subst, append_assoc, arith}
use Rattle.std.proofs.lemmas.List.{append_cancel_left}
use Rattle.theory.specs.Formulas.{Comparison, Formula, PathFormula, truth, label, negation, conjunction, probability, next, until_within, until}
use Rattle.grammar.specs.Words.{Language}
use Rattle.grammar.specs.Spelling.{print, print_path, print_bound, FewDigits, Spelled, SpelledPath, OneReading}
use Rattle.grammar.specs.Languages.{StateWord, PathWord, FewSteps, print_steps}
use Rattle.grammar.proofs.Chains.{Free, heads, tails}
use Rattle.grammar.proofs.Parts.{NotDigit, apart_same, bound_apart, bound_same, steps_apart, steps_same}

-- an until with the steps that it has, if any
abbrev pub until_of : Option ℕ → Formula → Formula → PathFormula
until_of None f g = until f g
until_of (Some k) f g = until_within k f g

-- its text
pub print_until : (s : Option ℕ) (f g : Formula) → print_path (until_of s f g) ≡ print f ++ (85 ∷ (print_steps s ++ print g))
print_until None f g = refl
print_until (Some k) f g = refl

-- it can be spelled if its parts can
pub spelled_until : (s : Option ℕ) (f g : Formula) → FewSteps s → Spelled f → Spelled g → SpelledPath (until_of s f g)
spelled_until None f g h lf lg = (lf, lg)
spelled_until (Some k) f g h lf lg = (h, lf, lg)

-- what begins with a byte of which P holds
abbrev Begins : (ℕ → Type 0) → Language
Begins P w = (c : ℕ) × (r : List ℕ) × (w ≡ c ∷ r) × P c

-- the first byte of a formula: no digit, and neither `<` nor `X`
pub record First (h : ℕ) : Type 0 where
  pub digit : NotDigit h
  pub less : h ≡ 60 → ⊥
  pub next : h ≡ 88 → ⊥

-- every formula begins with such a byte
pub first_byte : (f : Formula) → Begins First (print f)
first_byte truth = (116, _, refl, record { digit = λ a b. omega arith; less = λ e. omega arith; next = λ e. omega arith })
first_byte (label i) = (97 + i, _, refl, record { digit = λ a b. omega arith; less = λ e. omega arith; next = λ e. omega arith })
first_byte (negation f) = (33, _, refl, record { digit = λ a b. omega arith; less = λ e. omega arith; next = λ e. omega arith })
first_byte (conjunction f g) = (40, _, refl, record { digit = λ a b. omega arith; less = λ e. omega arith; next = λ e. omega arith })
first_byte (probability c b p) = (80, _, refl, record { digit = λ a b. omega arith; less = λ e. omega arith; next = λ e. omega arith })

-- the same of a formula with more behind it
first_more : (f : Formula) (x : List ℕ) → Begins First (print f ++ x)
first_more f x = let (h, r, e, p) = first_byte f in (h, r ++ x, ap (λ z. z ++ x) e, p)

-- no formula begins with `X`
pub no_next : (f : Formula) (x r : List ℕ) → print f ++ x ≡ 88 ∷ r → ⊥
no_next f x r e = let (h, k, p, n) = first_byte f in n.next (heads (ap (λ z. z ++ x) (sym p) ∙ e))

-- a byte in the front of a word of first bytes is one
begins_first : (c : ℕ) (y : List ℕ) → Begins First (c ∷ y) → First c
begins_first c y (h, r, e, p) = subst First (sym (heads e)) p

-- `t` begins just `true`
pub is_truth : (g : Formula) (y r : List ℕ) → Spelled g → print g ++ y ≡ 116 ∷ r → g ≡ truth
is_truth truth y r l e = refl
is_truth (label i) y r l e = absurd (omega (arith, heads e, l))
is_truth (negation g) y r l e = absurd (omega (arith, heads e))
is_truth (conjunction g g') y r l e = absurd (omega (arith, heads e))
is_truth (probability c b p) y r l e = absurd (omega (arith, heads e))

-- a letter begins just itself
pub is_label : (g : Formula) (y r : List ℕ) (i : ℕ) → i < 16 → print g ++ y ≡ (97 + i) ∷ r → g ≡ label i
is_label truth y r i l e = absurd (omega (arith, heads e, l))
is_label (label j) y r i l e = ap label (let h : j ≡ i = omega (arith, heads e) in h)
is_label (negation g) y r i l e = absurd (omega (arith, heads e))
is_label (conjunction g g') y r i l e = absurd (omega (arith, heads e))
is_label (probability c b p) y r i l e = absurd (omega (arith, heads e))

-- `!` begins the negations
pub is_negation : (g : Formula) (y r : List ℕ) → print g ++ y ≡ 33 ∷ r → (f : Formula) × (g ≡ negation f)
is_negation truth y r e = absurd (omega (arith, heads e))
is_negation (label i) y r e = absurd (omega (arith, heads e))
is_negation (negation g) y r e = (g, refl)
is_negation (conjunction g g') y r e = absurd (omega (arith, heads e))
is_negation (probability c b p) y r e = absurd (omega (arith, heads e))

-- `(` begins the conjunctions
pub is_conjunction : (g : Formula) (y r : List ℕ) → print g ++ y ≡ 40 ∷ r → (f : Formula) × (f' : Formula) × (g ≡ conjunction f f')
is_conjunction truth y r e = absurd (omega (arith, heads e))
is_conjunction (label i) y r e = absurd (omega (arith, heads e))
is_conjunction (negation g) y r e = absurd (omega (arith, heads e))
is_conjunction (conjunction g g') y r e = (g, g', refl)
is_conjunction (probability c b p) y r e = absurd (omega (arith, heads e))

-- `P` begins the probabilities
pub is_probability : (g : Formula) (y r : List ℕ) → print g ++ y ≡ 80 ∷ r → (c : Comparison) × (b : ℕ) × (p : PathFormula) × (g ≡ probability c b p)
is_probability truth y r e = absurd (omega (arith, heads e))
is_probability (label i) y r e = absurd (omega (arith, heads e))
is_probability (negation g) y r e = absurd (omega (arith, heads e))
is_probability (conjunction g g') y r e = absurd (omega (arith, heads e))
is_probability (probability c b p) y r e = (c, b, p, refl)

-- what comes after equal words is equal
after : (u v x y : List ℕ) → u ≡ v → u ++ x ≡ v ++ y → x ≡ y
after u v x y p e = append_cancel_left u x y (e ∙ ap (λ z. z ++ y) (sym p))

-- the formula f is the only one whose text a text begins with, if that of f begins it
abbrev Only : Formula → Type 0
Only f = (g : Formula) (x y : List ℕ) → Spelled g → print f ++ x ≡ print g ++ y → f ≡ g

-- so it is with `(f&f')`
only_conjunction : (f f' : Formula) → Only f → Only f' → Only (conjunction f f')
only_conjunction f f' p p' g x y l e =
    let (h, h', is) = is_conjunction g y _ (sym e) in
    let l' : Spelled h × Spelled h' = subst Spelled is l in
    let e₁ : print f ++ (38 ∷ (print f' ++ (41 ∷ x))) ≡ print h ++ (38 ∷ (print h' ++ (41 ∷ y))) = simp append_assoc at (tails (e ∙ ap (λ z. print z ++ y) is)) in
    let s : f ≡ h = p h _ _ l'.0 e₁ in
    let s' : f' ≡ h' = p' h' _ _ l'.1 (tails (after _ _ _ _ (ap print s) e₁)) in
    let same : conjunction f f' ≡ conjunction h h' = cc in
    same ∙ sym is

-- and with an until
only_until : (s s' : Option ℕ) (f f' g g' : Formula) (x y : List ℕ) → Only f → Only f' → FewSteps s → FewSteps s' → Spelled g → Spelled g'
    → print_path (until_of s f f') ++ x ≡ print_path (until_of s' g g') ++ y → until_of s f f' ≡ until_of s' g g'
only_until s s' f f' g g' x y p p' h h' l l' e =
    let e₁ : print f ++ (85 ∷ (print_steps s ++ (print f' ++ x))) ≡ print g ++ (85 ∷ (print_steps s' ++ (print g' ++ y))) =
    simp append_assoc at (ap (λ z. z ++ x) (sym (print_until s f f')) ∙ e ∙ ap (λ z. z ++ y) (print_until s' g g')) in
    let left : f ≡ g = p g _ _ l e₁ in
    let e₂ = tails (after _ _ _ _ (ap print left) e₁) in
    let texts : print_steps s ≡ print_steps s' = apart_same {M = Begins First} (steps_apart (λ c z b. (begins_first c z b).digit) (λ c z b. (begins_first c z b).less)) (print_steps s) (print_steps s') _ _ (s, h, refl) (s', h', refl) (first_more f' x) (first_more g' y) e₂ in
    let steps : s ≡ s' = steps_same s s' h h' texts in
    let right : f' ≡ g' = p' g' x y l' (after _ _ _ _ texts e₂) in
    cc

-- a probability with more behind it
probability_more : (c : Comparison) (b : ℕ) (p : PathFormula) (x : List ℕ) → print (probability c b p) ++ x ≡ 80 ∷ (print_bound c b ++ (91 ∷ (print_path p ++ (93 ∷ x))))
probability_more c b p x =
    ap (λ z. 80 ∷ z) (append_assoc (print_bound c b) (91 ∷ (print_path p ++ (93 ∷ []))) x ∙ ap (λ z. print_bound c b ++ (91 ∷ z)) (append_assoc (print_path p) (93 ∷ []) x))

-- the text of a formula is no beginning of another's
mutual
  pub only : (f : Formula) → Spelled f → Only f
  only truth lf g x y lg e = sym (is_truth g y _ lg (sym e))
  only (label i) lf g x y lg e = sym (is_label g y _ i lf (sym e))
  only (negation f) lf g x y lg e =
      let (h, is) = is_negation g y _ (sym e) in
      ap negation (only f lf h x y (subst Spelled is lg) (tails (e ∙ ap (λ z. print z ++ y) is))) ∙ sym is
  only (conjunction f f') lf g x y lg e = only_conjunction f f' (only f lf.0) (only f' lf.1) g x y lg e
  only (probability c b p) lf g x y lg e =
      let (c', b', p', is) = is_probability g y _ (sym e) in
      let l' : FewDigits b' × SpelledPath p' = subst Spelled is lg in
      let e₁ : print_bound c b ++ (91 ∷ (print_path p ++ (93 ∷ x))) ≡ print_bound c' b' ++ (91 ∷ (print_path p' ++ (93 ∷ y))) = tails (sym (probability_more c b p x) ∙ e ∙ ap (λ z. print z ++ y) is ∙ probability_more c' b' p' y) in
      let texts : print_bound c b ≡ print_bound c' b' = apart_same {M = Begins (λ h. h ≡ 91)} (bound_apart {M = Begins (λ h. h ≡ 91)} (λ d z w a o. omega (arith, heads w.2, w.3))) (print_bound c b) (print_bound c' b') _ _ ((c, b), lf.0, refl) ((c', b'), l'.0, refl) (91, _, refl, refl) (91, _, refl, refl) e₁ in
      let bounds : (c ≡ c') × (b ≡ b') = bound_same c c' b b' lf.0 l'.0 texts in
      let c_is = bounds.0 in
      let b_is = bounds.1 in
      let paths : p ≡ p' = only_path p lf.1 p' _ _ l'.1 (tails (after _ _ _ _ texts e₁)) in
      let same : probability c b p ≡ probability c' b' p' = cc in
      same ∙ sym is

  -- nor is that of a path formula
  pub only_path : (p : PathFormula) → SpelledPath p → (q : PathFormula) (x y : List ℕ) → SpelledPath q → print_path p ++ x ≡ print_path q ++ y → p ≡ q
  only_path (next f) lf (next g) x y lg e = ap next (only f lf g x y lg (tails e))
  only_path (next f) lf (until g g') x y lg e = absurd (no_next g _ _ (sym (e ∙ append_assoc (print g) _ y)))
  only_path (next f) lf (until_within k g g') x y lg e = absurd (no_next g _ _ (sym (e ∙ append_assoc (print g) _ y)))
  only_path (until f f') lf (next g) x y lg e = absurd (no_next f _ _ (sym (append_assoc (print f) _ x) ∙ e))
  only_path (until_within k f f') lf (next g) x y lg e = absurd (no_next f _ _ (sym (append_assoc (print f) _ x) ∙ e))
  only_path (until f f') lf (until g g') x y lg e = only_until None None f f' g g' x y (only f lf.0) (only f' lf.1) tt tt lg.0 lg.1 e
  only_path (until f f') lf (until_within k g g') x y lg e = only_until None (Some k) f f' g g' x y (only f lf.0) (only f' lf.1) tt lg.0 lg.1 lg.2 e
  only_path (until_within k f f') lf (until g g') x y lg e = only_until (Some k) None f f' g g' x y (only f lf.1) (only f' lf.2) lf.0 tt lg.0 lg.1 e
  only_path (until_within k f f') lf (until_within j g g') x y lg e = only_until (Some k) (Some j) f f' g g' x y (only f lf.1) (only f' lf.2) lf.0 lg.0 lg.1 lg.2 e

-- a text has at most one reading
pub one_reading : OneReading
one_reading f g lf lg e = only f lf g [] [] lg (ap (λ z. z ++ []) e)

-- the texts of state formulas are a free language
pub free_state : Free StateWord
free_state u v x y (f, lf, ef) (g, lg, eg) e =
    ef ∙ ap print (only f lf g x y lg (ap (λ z. z ++ x) (sym ef) ∙ e ∙ ap (λ z. z ++ y) eg)) ∙ sym eg

-- so are those of path formulas
pub free_path : Free PathWord
free_path u v x y (p, lp, ep) (q, lq, eq) e =
    ep ∙ ap print_path (only_path p lp q x y lq (ap (λ z. z ++ x) (sym ep) ∙ e ∙ ap (λ z. z ++ y) eq)) ∙ sym eq
