-- Comparisons, numbers, bounds and steps: what may follow them, and that each is spelled in its own way.
use Rattle.std.proofs.Common.{◌≡◌, ℕ, ◌^◌, ◌<◌, ◌≤◌, cond, eqb, List, [], ◌∷◌, ◌++◌, length, get_or, Some, None, decimal, Option, sym, refl, ap, ◌∙◌, subst, ⊎_elim, append_assoc, append-nil, arith, lit≤, length-append}
use Rattle.std.specs.Int.{IsInRange}
use Rattle.std.specs.Str.Parse.{digits_value, AllDigits}
use Rattle.std.proofs.lemmas.List.{append_cancel_left, get_or_at}
use Rattle.std.proofs.lemmas.Fmt.{decimal_nonempty, digits_decimal, decimal_injective}
use Rattle.std.proofs.lemmas.Str.Parse.{IsNumeralModel, numerals_by_value, tells_digits, digit_at}
use Rattle.theory.specs.Formulas.{Comparison, below, at_most, above, at_least}
use Rattle.grammar.specs.Words.{Language}
use Rattle.grammar.specs.Spelling.{sign, print_bound, FewDigits}
use Rattle.grammar.specs.Languages.{SignWord, NumberWord, BoundWord, print_steps, FewSteps, StepsWord}
use Rattle.grammar.proofs.Chains.{Then, Apart, heads, tails, cuts, then_apart}

-- a language whose words have at most one cut before a word of another
pub apart_same : {L M : Language} → Apart L M → (u u' v v' : List ℕ) → L u → L u' → M v → M v' → u ++ v ≡ u' ++ v' → u ≡ u'
apart_same {L} {M} apart u u' v v' lu lu' m m' e = ⊎_elim (λ h. longer h.0 h.1) (λ h. absurd (apart.never u h.0 h.1 (h.1 ++ v') lu (subst L h.2 lu') (subst M h.3 m))) (cuts u v u' v' e)
  where
    longer : (k : List ℕ) → u ≡ u' ++ k → u ≡ u'
    longer [] p = p ∙ append-nil u'
    longer (b ∷ k) p =
        let rest : (b ∷ k) ++ v ≡ v' = append_cancel_left u' ((b ∷ k) ++ v) v' (sym (append_assoc u' (b ∷ k) v) ∙ ap (λ z. z ++ v) (sym p) ∙ e) in
        absurd (apart.never u' b k (k ++ v) lu' (subst L p lu) (subst M (sym rest) m'))

-- what may follow a language may follow a part of it
pub apart_within : {L L' M : Language} → ((w : List ℕ) → L' w → L w) → Apart L M → Apart L' M
apart_within into apart = record { never = λ u c j y lu l m. apart.never u c j y (into u lu) (into (u ++ c ∷ j) l) m }

-- the library's word for digits
pub numerals : IsNumeralModel (AllDigits 10) (digits_value 10)
numerals = numerals_by_value (AllDigits 10) tells_digits

-- a number of at most ten digits fits into a word
pub few_fits : (v : ℕ) → FewDigits v → v < 2 ^ 64
few_fits v h = omega (arith, h)

-- a byte inside a number is a digit
pub digit_inside : (u : List ℕ) (c : ℕ) (j : List ℕ) → NumberWord (u ++ c ∷ j) → (48 ≤ c) × (c ≤ 57)
digit_inside u c j (v, h, e) =
    let big = few_fits v h in
    let long : length u < length (decimal v) = omega (arith, ap length e, length-append u (c ∷ j)) in
    let digit : IsInRange 48 57 (get_or (decimal v) (length u) 0) = digit_at (decimal v) (length u) (digits_decimal numerals v big) long in
    let here : get_or (decimal v) (length u) 0 ≡ c = ap (λ z. get_or z (length u) 0) (sym e) ∙ get_or_at u c j 0 (length u) refl in
    (omega (arith, digit.0, here), omega (arith, digit.1, here))

-- a number has a digit
pub number_some : NumberWord [] → ⊥
number_some (v, h, e) = omega (arith, ap length e, decimal_nonempty v (few_fits v h))

-- a byte that is no digit
abbrev pub NotDigit : ℕ → Type 0
NotDigit c = 48 ≤ c → c ≤ 57 → ⊥

-- what begins with no digit may follow a number
pub number_apart : {M : Language} → ((c : ℕ) (y : List ℕ) → M (c ∷ y) → NotDigit c) → Apart NumberWord M
number_apart none = record { never = λ u c j y lu l m. let d = digit_inside u c j l in none c y m d.0 d.1 }

-- a comparison has at most two bytes
sign_short : (c : Comparison) → length (sign c) ≤ 2
sign_short below = lit≤ tt
sign_short at_most = lit≤ tt
sign_short above = lit≤ tt
sign_short at_least = lit≤ tt

-- and at least one
pub sign_some : SignWord [] → ⊥
sign_some (below, _, e) = omega (arith, ap length e)
sign_some (at_most, _, e) = omega (arith, ap length e)
sign_some (above, _, e) = omega (arith, ap length e)
sign_some (at_least, _, e) = omega (arith, ap length e)

-- the second is `=`
pub sign_second : (x d : ℕ) (r : List ℕ) → SignWord (x ∷ d ∷ r) → d ≡ 61
sign_second x d r (below, _, e) = absurd (omega (arith, ap length e))
sign_second x d r (at_most, _, e) = heads (tails e)
sign_second x d r (above, _, e) = absurd (omega (arith, ap length e))
sign_second x d r (at_least, _, e) = heads (tails e)

-- there is no third
pub sign_third : (x d c : ℕ) (r : List ℕ) → SignWord (x ∷ d ∷ c ∷ r) → ⊥
sign_third x d c r (s, _, e) = omega (arith, ap length e, sign_short s)

-- the first is `<` or `>`
pub sign_first : (x : ℕ) (r : List ℕ) → SignWord (x ∷ r) → (x ≡ 60 → ⊥) → (x ≡ 62 → ⊥) → ⊥
sign_first x r (below, _, e) p q = p (heads e)
sign_first x r (at_most, _, e) p q = p (heads e)
sign_first x r (above, _, e) p q = q (heads e)
sign_first x r (at_least, _, e) p q = q (heads e)

-- what does not begin with `=` may follow a comparison
pub sign_apart : {M : Language} → ((c : ℕ) (y : List ℕ) → M (c ∷ y) → c ≡ 61 → ⊥) → Apart SignWord M
sign_apart {M} none = record { never = go }
  where
    go : (u : List ℕ) (c : ℕ) (j y : List ℕ) → SignWord u → SignWord (u ++ c ∷ j) → M (c ∷ y) → ⊥
    go [] c j y lu l m = sign_some lu
    go (x ∷ []) c j y lu l m = none c y m (sign_second x c j l)
    go (x ∷ d ∷ []) c j y lu l m = sign_third x d c j l
    go (x ∷ d ∷ b ∷ u) c j y lu l m = sign_third x d b (u ++ c ∷ j) l

-- a number may follow a comparison
pub sign_then_number : Apart SignWord NumberWord
sign_then_number = sign_apart (λ c y m e. omega (arith, (digit_inside [] c y m).1, e))

-- a bound is a comparison and a number
pub bound_parts : (w : List ℕ) → BoundWord w → Then SignWord NumberWord w
bound_parts w ((c, b), h, e) = (sign c, decimal b, (c, tt, refl), (b, h, refl), e)

-- and these make a bound
pub bound_whole : (w : List ℕ) → Then SignWord NumberWord w → BoundWord w
bound_whole w (u, v, (c, _, p), (b, h, q), e) = ((c, b), h, cc)

-- what begins with no digit may follow a bound
pub bound_apart : {M : Language} → ((c : ℕ) (y : List ℕ) → M (c ∷ y) → NotDigit c) → Apart BoundWord M
bound_apart none = apart_within bound_parts (then_apart sign_then_number (number_apart none) number_some)

-- which comparison some bytes are
abbrev unsign : List ℕ → Comparison
unsign w = cond (eqb (get_or w 0 0) 60) (cond (eqb (length w) 1) below at_most) (cond (eqb (length w) 1) above at_least)

-- each comparison is told by its bytes
unsign_sign : (c : Comparison) → unsign (sign c) ≡ c
unsign_sign below = refl
unsign_sign at_most = refl
unsign_sign above = refl
unsign_sign at_least = refl

-- a bound is spelled in its own way
pub bound_same : (c c' : Comparison) (b b' : ℕ) → FewDigits b → FewDigits b' → print_bound c b ≡ print_bound c' b' → (c ≡ c') × (b ≡ b')
bound_same c c' b b' h h' e =
    let signs : sign c ≡ sign c' = apart_same sign_then_number (sign c) (sign c') (decimal b) (decimal b') (c, tt, refl) (c', tt, refl) (b, h, refl) (b', h', refl) e in
    let numbers : decimal b ≡ decimal b' = append_cancel_left (sign c) _ _ (e ∙ ap (λ z. z ++ decimal b') (sym signs)) in
    (sym (unsign_sign c) ∙ ap unsign signs ∙ unsign_sign c', decimal_injective b b' (few_fits b h) (few_fits b' h') numbers)

-- what begins with no digit and not with `<` may follow steps
pub steps_apart : {M : Language} → ((c : ℕ) (y : List ℕ) → M (c ∷ y) → NotDigit c) → ((c : ℕ) (y : List ℕ) → M (c ∷ y) → c ≡ 60 → ⊥) → Apart StepsWord M
steps_apart {M} digits less = record { never = go }
  where
    go : (u : List ℕ) (c : ℕ) (j y : List ℕ) → StepsWord u → StepsWord (u ++ c ∷ j) → M (c ∷ y) → ⊥
    go u c j y (None, h, e) (None, h', e') m = omega (arith, ap length e', length-append u (c ∷ j))
    go u c j y (None, h, e) (Some k, h', e') m = less c y m (heads (ap (λ z. z ++ c ∷ j) (sym e) ∙ e'))
    go u c j y (Some k, h, e) (None, h', e') m = omega (arith, ap length e', length-append u (c ∷ j))
    go u c j y (Some k, h, e) (Some k', h', e') m = (bound_apart {M = M} digits).never u c j y ((at_most, k), h, e) ((at_most, k'), h', e') m

-- steps are spelled in their own way
pub steps_same : (s s' : Option ℕ) → FewSteps s → FewSteps s' → print_steps s ≡ print_steps s' → s ≡ s'
steps_same None None h h' e = refl
steps_same None (Some k) h h' e = absurd (omega (arith, ap length e))
steps_same (Some k) None h h' e = absurd (omega (arith, ap length e))
steps_same (Some k) (Some k') h h' e = ap Some (bound_same at_most at_most k k' h h' e).1
