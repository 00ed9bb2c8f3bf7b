-- Bytes, comparisons, bounds and steps in a text.
use Rattle.std.proofs.Common.{◌≡◌, ℕ, ◌+◌, ◌-◌, ◌<◌, ◌≤◌, true, false, ltb, List, [], ◌∷◌, ◌++◌, length, get_or, take, drop, Some, None, Ok, decimal, sym, refl, ap, ◌∙◌, ⊎_elim, append_assoc, add-zero, arith, lit<, length-append, length-drop}
use Rattle.std.proofs.lemmas.List.{drop_more, get_or-drop, take_rest, take-append-drop, length-take-le, nil_from_length, append_cancel_left}
use Rattle.std.proofs.lemmas.Bool.{and_parts, and_cases, ltb-true, ltb-false, eqb-true, eqb-false}
use Rattle.std.proofs.lemmas.Fmt.{decimal_digit}
use Rattle.theory.specs.Formulas.{below}
use Rattle.grammar.specs.Words.{Language, Shut, Stands, Read, Refused}
use Rattle.grammar.specs.Spelling.{sign, print_bound}
use Rattle.grammar.specs.Languages.{Only, Just, SignWord, NumberWord, BoundWord, StepsWord}
use Rattle.grammar.proofs.Chains.{Then, heads, tails, just_read, none_begins, free_just, free_apart, then_read, then_refused, first_refused, widen_refused, stands_then}
use Rattle.grammar.proofs.Parts.{sign_some, sign_first, sign_then_number, bound_parts, bound_whole}
use Rattle.records.specs.declared.comparison.Comparison.{Comparison as Code}
use Rattle.formula.specs.declared.token.Number.{Number}
use Rattle.formula.specs.Tokens.{meant, has, NumberReads, BoundRead, StepsRead}

-- a byte that stands at a place is the byte there
pub has_true : (t : List ℕ) (a b : ℕ) → has t a b ≡ true → (a < length t) × (get_or t a 0 ≡ b)
has_true t a b e = let p = and_parts (ltb a (length t)) _ e in (ltb-true _ _ p.0, eqb-true _ _ p.1)

-- one that does not is another
pub has_false : (t : List ℕ) (a b : ℕ) → has t a b ≡ false → a < length t → get_or t a 0 ≡ b → ⊥
has_false t a b e l q = ⊎_elim (λ h. omega (arith, ltb-false _ _ h, l)) (λ h. eqb-false _ _ h q) (and_cases (ltb a (length t)) _ e)

-- one byte is read
pub byte_read : (t : List ℕ) (a b : ℕ) → has t a b ≡ true → Read (Just b) (b ∷ []) t a (a + 1)
byte_read t a b e = let p = has_true t a b e in just_read b t a p.0 p.1

-- where its next byte is refused, so is the word
pub word_refused : {t : List ℕ} (word : List ℕ) (i : ℕ) {a m p : ℕ} → i < length word → Stands (take i word) t a m → Refused (Just (get_or word i 0)) t m p → Refused (Only word) t a p
word_refused {t} word i {a} {m} {p} l s r = record {
  front = u ++ r.front;
  opens = let (d, k, e) = r.opens in (d, k ++ rest, carried d k e);
  none = λ e. omega (arith, ap length e, length-append u r.front, length-take-le i word (omega (arith, l)), empty, l);
  shuts = go (drop p t) r.shuts;
  stands = stands_then s r.stands;
}
  where
    b : ℕ
    b = get_or word i 0

    u : List ℕ
    u = take i word

    rest : List ℕ
    rest = drop (i + 1) word

    whole : u ++ (b ∷ rest) ≡ word
    whole = ap (λ z. u ++ z) (sym (drop_more word i 0 l)) ∙ take-append-drop i word

    empty : length r.front ≡ 0
    empty = let (d, k, e) = r.opens in omega (arith, ap length e, length-append r.front (d ∷ k))

    carried : (d : ℕ) (k : List ℕ) → r.front ++ d ∷ k ≡ b ∷ [] → (u ++ r.front) ++ d ∷ (k ++ rest) ≡ word
    carried d k e =
        append_assoc u r.front (d ∷ (k ++ rest)) ∙ ap (λ z. u ++ z) (sym (append_assoc r.front (d ∷ k) rest) ∙ ap (λ z. z ++ rest) e) ∙ whole

    go : (y : List ℕ) → Shut (Just b) r.front y → Shut (Only word) (u ++ r.front) y
    go [] h = tt
    go (d ∷ y) h = λ k e.
        let after : r.front ++ d ∷ k ≡ b ∷ rest = append_cancel_left u (r.front ++ d ∷ k) (b ∷ rest) (sym (append_assoc u r.front (d ∷ k)) ∙ e ∙ sym whole) in
        let none : r.front ≡ [] = nil_from_length r.front empty in
        h [] (ap (λ z. z ++ d ∷ []) none ∙ ap (λ z. z ∷ []) (heads (ap (λ z. z ++ d ∷ k) (sym none) ∙ after)))

-- the rest of a text has the bytes from its place on, and begins with the first of them
pub rest_of : (t : List ℕ) (a : ℕ) → (length (take (length t - a) (drop a t)) ≡ length t - a) × (get_or (take (length t - a) (drop a t)) 0 0 ≡ get_or t a 0)
rest_of t a = (ap length (take_rest t a) ∙ length-drop a t, ap (λ z. get_or z 0 0) (take_rest t a) ∙ get_or-drop a t 0 0 ∙ ap (λ z. get_or t z 0) (add-zero a))

-- without `<` and `>` there is no comparison
pub no_sign : (t : List ℕ) (a : ℕ) → a ≤ length t → (a < length t → get_or t a 0 ≡ 60 → ⊥) → (a < length t → get_or t a 0 ≡ 62 → ⊥) → Refused SignWord t a a
no_sign t a l p q = none_begins {L = SignWord} t a l sign_some 60 [] (below, tt, refl) (λ k h w. sign_first _ k w (p h) (q h))

-- a comparison and a number that are refused are refused as a bound
as_bound : {t : List ℕ} {a p : ℕ} → Refused (Then SignWord NumberWord) t a p → Refused BoundWord t a p
as_bound {t} {a} {p} s = widen_refused (Then SignWord NumberWord) BoundWord t a p bound_whole (λ _. bound_some) (λ r _. bound_parts _) s
  where
    empty_parts : Then SignWord NumberWord [] → ⊥
    empty_parts ([], v, l, m, e) = sign_some l
    empty_parts (x ∷ u, v, l, m, e) = omega (arith, ap length e)

    bound_some : BoundWord [] → ⊥
    bound_some w = empty_parts (bound_parts [] w)

-- where a comparison is refused, so is a bound
pub sign_refused : (t : List ℕ) (a p : ℕ) → Refused SignWord t a p → Refused BoundWord t a p
sign_refused t a p s = as_bound (first_refused sign_then_number (48 ∷ []) (0, lit< tt, sym (decimal_digit 0 (lit< tt))) s)

-- where its number is refused, too
pub number_refused_after : (t : List ℕ) (a m p : ℕ) (c : Code) → Read SignWord (sign (meant c)) t a m → Refused NumberWord t m p → Refused BoundWord t a p
number_refused_after t a m p c r s = as_bound (then_refused sign_then_number r s)

-- a comparison has at least one byte
pub sign_long : (c : Code) → 0 < length (sign (meant c))
sign_long c = long (sign (meant c)) (λ e. sign_some (meant c, tt, sym e))
  where
    long : (w : List ℕ) → (w ≡ [] → ⊥) → 0 < length w
    long [] h = absurd (h refl)
    long (x ∷ w) h = omega arith

-- a comparison and then a number are a bound
pub whole_bound : (t : List ℕ) (a m e : ℕ) (n : Number) (c : Code) → Read SignWord (sign (meant c)) t a m → NumberReads t m (Ok (n, e)) → BoundRead t a (record { comparison = c; number = n; end = e })
whole_bound t a m e n c r (h, here, s) =
    let both = then_read sign_then_number r s in
    let v = n.value in
    record {
      few = h;
      read = record { lawful = ((meant c, v), h, refl); stands = both.stands; ends = go (drop e t) both.ends };
      place = here ∙ r.stands.place;
      ahead = omega (arith, r.stands.place, s.stands.place, sign_long c);
      within = s.stands.within;
    }
  where
    go : (rest : List ℕ) → Shut (Then SignWord NumberWord) (print_bound (meant c) n.value) rest → Shut BoundWord (print_bound (meant c) n.value) rest
    go [] k = tt
    go (d ∷ rest) k = λ r w. k r (bound_parts _ w)

-- steps after `<`
abbrev StepsBytes : Language
StepsBytes = Then (Just 60) (Then (Just 61) NumberWord)

-- they are steps
bytes_in : (w : List ℕ) → StepsBytes w → StepsWord w
bytes_in w (u, v, p, (u₁, v₁, p₁, (k, h, q), e₁), e) = (Some k, h, cc)

-- and `<` begins no others
bytes_picked : (h : ℕ) (r : List ℕ) → StepsWord (h ∷ r) → StepsBytes (h ∷ r)
bytes_picked h r (None, l, e) = absurd (omega (arith, ap length e))
bytes_picked h r (Some k, l, e) = (60 ∷ [], _, refl, (61 ∷ [], decimal k, refl, (k, l, refl), refl), e)

module _ (t : List ℕ) (a : ℕ) where
  module _ (less : has t a 60 ≡ true) where
    -- what refuses the rest of them refuses them
    after_less : {p : ℕ} → Refused (Then (Just 61) NumberWord) t (a + 1) p → Refused StepsWord t a p
    after_less {p} s =
        widen_refused StepsBytes StepsWord t a p bytes_in (λ e. absurd (omega (arith, e, s.stands.place))) (λ r _. bytes_picked _ r)
        (then_refused (free_apart (free_just 60)) (byte_read t a 60 less) s)

    -- a `<` without `=`
    pub equal_refused : {p : ℕ} → Refused (Just 61) t (a + 1) p → Refused StepsWord t a p
    equal_refused s = after_less (first_refused (free_apart (free_just 61)) (48 ∷ []) (0, lit< tt, sym (decimal_digit 0 (lit< tt))) s)

    -- and without a number
    pub steps_number_refused : {m p : ℕ} → Read (Just 61) (61 ∷ []) t (a + 1) m → Refused NumberWord t m p → Refused StepsWord t a p
    steps_number_refused r s = after_less (then_refused (free_apart (free_just 61)) r s)

    -- with both, they are the steps
    pub some_steps : {m e : ℕ} {n : Number} → Read (Just 61) (61 ∷ []) t (a + 1) m → NumberReads t m (Ok (n, e)) → StepsRead t a (record { limit = Some n; end = e })
    some_steps {m} {e} {n} r (h, here, s) =
        let v = n.value in
        let whole : Stands (60 ∷ 61 ∷ decimal v) t a e = stands_then (byte_read t a 60 less).stands (stands_then r.stands s.stands) in
        record {
          few = h;
          read = record { lawful = (Some v, h, refl); stands = whole; ends = go (drop e t) s.ends };
          place = omega (arith, r.stands.place, here);
          ahead = omega (arith, whole.place);
          within = whole.within;
        }
      where
        later : (d : ℕ) (r : List ℕ) → (NumberWord (decimal n.value ++ d ∷ r) → ⊥) → StepsWord (60 ∷ 61 ∷ (decimal n.value ++ d ∷ r)) → ⊥
        later d r never (None, h, q) = omega (arith, ap length q)
        later d r never (Some k, h, q) = never (k, h, tails (tails q))

        go : (rest : List ℕ) → Shut NumberWord (decimal n.value) rest → Shut StepsWord (60 ∷ 61 ∷ decimal n.value) rest
        go [] k = tt
        go (d ∷ rest) k = λ r w. later d r (k r) w
