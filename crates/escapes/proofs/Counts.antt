-- What is read as a count.
use Rattle.std.proofs.Common.{◌≡◌, ℕ, ◌<◌, ◌^◌, List, [], ◌∷◌, Ok, Err, Result, sym, refl, ◌∙◌, arith}
use Rattle.std.specs.Result.{result_unwrap_or}
use Rattle.std.specs.Str.{all_ascii_digits}
use Rattle.std.specs.Str.Parse.{IsNumeral, digits_value, without_leading_plus, ParsesUnsigned}
use Rattle.std.proofs.lemmas.Str.Parse.{numerals_by_value, tells_all_ascii_digits}
use Rattle.std.proofs.lemmas.Bool.{and_parts, and_from, cond_both, ltb-true, lt-ltb}
use Rattle.escapes.specs.Escapes.{number, count}

-- digits that write a number below 2^32 are that number
number_from : (ds : List ℕ) → IsNumeral 10 ds × (digits_value 10 ds < 2 ^ 32) → number ds ≡ digits_value 10 ds
number_from ds h =
    let decimals = numerals_by_value _ tells_all_ascii_digits in
    rw (and_from _ _ (decimals.from ds h.0.1) (lt-ltb _ _ h.1)) refl

-- any other text is 0
number_none : (ds : List ℕ) → ¬ (IsNumeral 10 ds × (digits_value 10 ds < 2 ^ 32)) → number ds ≡ 0
number_none [] h = refl
number_none (d ∷ ds) h =
    let decimals = numerals_by_value _ tells_all_ascii_digits in
    cond_both _ (digits_value 10 (d ∷ ds)) 0 (λ n. n ≡ 0)
    (λ t. let both = and_parts (all_ascii_digits (d ∷ ds)) _ t in absurd (h ((omega arith, decimals.to (d ∷ ds) both.0), ltb-true _ _ both.1)))
    (λ f. refl)

-- what `parse` reads at 32 bits, or else 0, is the count
pub count_read : {E : Type 0} (text : List ℕ) (r : Result ℕ E) → ParsesUnsigned 32 10 text r → result_unwrap_or r 0 ≡ count text
count_read text (Ok n) h = h.1 ∙ sym (number_from (without_leading_plus text) h.0)
count_read text (Err e) h = sym (number_none (without_leading_plus text) h)
