use Rattle.std.proofs.Common.{◌≡◌, ◌<◌, true, length, take, Some, sym, ap, ◌∙◌, arith}
use Rattle.std.specs.Option.{option_map}
use Rattle.std.proofs.lemmas.List.{length-take-le}
use Rattle.std.proofs.lemmas.Bool.{cond-true}
use Rattle.std.proofs.lemmas.Bool.Decides.{nat_tests}
use Rattle.text.specs.Fields.{numeral, amount, long_number_read}
use Rattle.text.proofs.Longest.{longest_within_list, longest_front}
use Rattle.text.proofs.number.leading_number.Goals as goal

-- the longest beginning is within the text
pub slice_bounds-front-end : goal.slice_bounds-front-end
slice_bounds-front-end c =
    let text = c.args.text.now in
    omega (arith, length-take-le c.number_length.result text (omega (arith, longest_within_list (numeral 10) text, c.number_length.ensures)))

-- where it is not empty, it is a number
pub amount-requires : goal.amount-requires
amount-requires c =
    let some : 0 < length (take c.number_length.result c.args.text.now) = let h = c.if-is_empty.ensures in grind (arith, nat_tests) in
    longest_front (numeral 10) c.args.text.now c.number_length.result c.number_length.ensures some

-- and that is told, with its length
pub returns : goal.returns
returns c =
    let text = c.args.text.now in
    let n = c.number_length.result in
    let e = c.number_length.ensures in
    let some : 0 < length (take n text) = let h = c.if-is_empty.ensures in grind (arith, nat_tests) in
    let long : length (take n text) ≡ n = length-take-le n text (omega (arith, e, longest_within_list (numeral 10) text)) in
    let number : numeral 10 (take n text) ≡ true = longest_front (numeral 10) text n e some in
    ap (λ v. Some (v, length (take n text))) c.amount.ensures
    ∙ ap (λ z. Some (amount (take n text), z)) long
    ∙ sym (ap (option_map (λ v. (v, n))) (cond-true (numeral 10 (take n text)) _ _ number))
    ∙ ap (λ z. option_map (λ v. (v, z)) (long_number_read (take z text))) e
