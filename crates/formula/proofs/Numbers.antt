-- The number that a text begins with is the number that the grammar reads there.
use Rattle.std.proofs.Common.{◌≡◌, ℕ, ◌+◌, ◌^◌, ◌<◌, ◌≤◌, Bool, true, cond, List, [], ◌∷◌, ◌++◌, length, get_or, take, drop, Some, None, Ok, Option, decimal, sym, refl, ap, ◌∙◌, subst, ⊎_elim, arith, lit<, length-append, length-drop, drop-drop}
use Rattle.std.specs.Option.{option_map}
use Rattle.std.proofs.lemmas.List.{drop_more, take-append-drop, length-take-le}
use Rattle.std.proofs.lemmas.Fmt.{decimal_digit}
use Rattle.std.proofs.lemmas.Option.{none-some}
use Rattle.std.proofs.Math.Seq.{take-append-add}
use Rattle.std.proofs.lemmas.Bool.{cases_Bool}
use Rattle.text.specs.Fields.{numeral, amount, longest, leading_number_read}
use Rattle.text.proofs.Digits.{numeral_front, numeral_small, decimal_amount, numeral_decimal}
use Rattle.text.proofs.Longest.{longest_most, longest_passes, longest_within_list}
use Rattle.grammar.specs.Words.{Shut, Refused}
use Rattle.grammar.specs.Languages.{NumberWord}
use Rattle.grammar.proofs.Chains.{none_begins}
use Rattle.grammar.proofs.Parts.{number_some}
use Rattle.formula.specs.Tokens.{NumberReads}

-- the text of a number of the grammar passes the test
numeral_word : (w : List ℕ) → NumberWord w → numeral 10 w ≡ true
numeral_word w (v, few, e) = ap (numeral 10) e ∙ numeral_decimal 10 v (lit< tt) (omega arith) few

-- where a word of the grammar begins with the front of a list and its next byte, the longest number there is longer
longer : (w u : List ℕ) (b : ℕ) (rest r : List ℕ) → w ≡ u ++ b ∷ rest → NumberWord (u ++ b ∷ r) → length u < longest (numeral 10) w
longer w u b rest r cut word =
    let front : take (length u + 1) (u ++ b ∷ r) ≡ u ++ b ∷ [] = take-append-add u (b ∷ r) 1 in
    let same : take (length u + 1) w ≡ u ++ b ∷ [] = ap (take (length u + 1)) cut ∙ take-append-add u (b ∷ rest) 1 in
    let within : length u + 1 ≤ length w = omega (arith, ap length cut, length-append u (b ∷ rest)) in
    let few : length u + 1 ≤ length (u ++ b ∷ r) = omega (arith, length-append u (b ∷ r)) in
    let t = ap (numeral 10) (same ∙ sym front) ∙ numeral_front 10 (length u + 1) (u ++ b ∷ r) (omega arith) few (numeral_word _ word) in
    let more = longest_most (numeral 10) w (length u + 1) within t in
    omega (arith, more)

-- what is found is one thing
one_thing : (x y : ℕ × ℕ) → Some x ≡ Some y → x ≡ y
one_thing x y e = cc

-- what is read at the front of some bytes, by whether their longest number is one
abbrev found_by : (w : List ℕ) → Bool → Option (ℕ × ℕ)
found_by w b = let m = longest (numeral 10) w in option_map (λ x. (x, m)) (cond b (Some (amount (take m w))) None)

-- where the longest number of the rest of a text is one, it is read there, as far as it goes
read_front : (text : List ℕ) (at : ℕ) → at ≤ length text → numeral 10 (take (longest (numeral 10) (drop at text)) (drop at text)) ≡ true → let m = longest (numeral 10) (drop at text) in NumberReads text at (Ok (record { value = amount (take m (drop at text)); place = at }, at + m))
read_front text at l t = (
  small,
  refl,
  record {
    lawful = (amount front, small, refl);
    stands = record {
      splits = sym (take-append-drop m w) ∙ ap (λ z. z ++ drop m w) (sym written) ∙ ap (λ z. decimal (amount front) ++ z) (sym after);
      place = ap (λ z. at + z) (sym (ap length written ∙ long));
      within = omega (arith, within, length-drop at text, l);
    };
    ends = subst (Shut NumberWord (decimal (amount front))) (sym after) (subst (λ z. Shut NumberWord z (drop m w)) (sym written) (ended (drop m w) refl));
  },
)
  where
    w : List ℕ
    w = drop at text

    m : ℕ
    m = longest (numeral 10) w

    front : List ℕ
    front = take m w

    within : m ≤ length w
    within = longest_within_list (numeral 10) w

    long : length front ≡ m
    long = length-take-le m w within

    small : amount front < 10 ^ 10
    small = numeral_small 10 front t

    written : decimal (amount front) ≡ front
    written = decimal_amount 10 front (omega arith) t

    after : drop (at + m) text ≡ drop m w
    after = sym (drop-drop m at text)

    ended : (rest : List ℕ) → drop m w ≡ rest → Shut NumberWord front rest
    ended [] e = tt
    ended (b ∷ rest) e = λ r word. omega (arith, longer w front b rest r (sym (take-append-drop m w) ∙ ap (λ z. front ++ z) e) word, long)

-- the number that a text begins with is read there, as far as it goes
pub number_read : (text : List ℕ) (at v n : ℕ) → at ≤ length text → leading_number_read (drop at text) ≡ Some (v, n) → NumberReads text at (Ok (record { value = v; place = at }, at + n))
number_read text at v n l found =
    let w = drop at text in
    let m = longest (numeral 10) w in
    ⊎_elim
    (λ t.
    let same : (amount (take m w), m) ≡ (v, n) = one_thing _ _ (sym (ap (found_by w) t) ∙ found) in
    subst (λ (p : ℕ × ℕ). NumberReads text at (Ok (record { value = p.0; place = at }, at + p.1))) same (read_front text at l t))
    (λ f. absurd (none-some _ (sym (ap (found_by w) f) ∙ found)))
    (cases_Bool (numeral 10 (take m w)))

-- where a text begins with none, none is read there
pub number_refused : (text : List ℕ) (at : ℕ) → at ≤ length text → leading_number_read (drop at text) ≡ None → Refused NumberWord text at at
number_refused text at l none = none_begins {L = NumberWord} text at l number_some 48 [] (0, lit< tt, sym (decimal_digit 0 (lit< tt)))
    (λ r h word.
    let w = drop at text in
    let m = longest (numeral 10) w in
    let some = longer w [] (get_or text at 0) (drop (at + 1) text) r (drop_more text at 0 h) word in
    ⊎_elim (λ z. omega (arith, some, z)) (λ t. absurd (none-some _ (sym none ∙ ap (found_by w) t))) (longest_passes (numeral 10) w))
