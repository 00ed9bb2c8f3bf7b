use Rattle.std.proofs.Common.{rules, sym, ◌∙◌, tests, take}
use Rattle.std.specs.Char.{is_ascii_digit}
use Rattle.std.proofs.lemmas.Iterator.{YieldsList-from_slice, YieldsList-from_take}
use Rattle.std.proofs.lemmas.Iterator.Consumers.{count_from_yields_List}
use Rattle.std.proofs.lemmas.Iterator.Search.{YieldsList-from_take_while}
use Rattle.std.proofs.lemmas.List.Folds.{length-prefix_len}
use Rattle.text.proofs.Digits.{length_zero, length_digits}
use Rattle.text.proofs.number.number_length.Goals as goal

-- after a 0 nothing more is read
pub returns-then-starts_with : goal.returns-then-starts_with
returns-then-starts_with c = sym (length_zero c.args.most c.args.field.now c.requires (sym c.if-starts_with.ensures.value))

-- else what is counted are the digits at the front of so many bytes
pub returns : goal.returns
returns c =
    let xs = c.args.field.now in
    count_from_yields_List c.take_while.result _ c.count.ensures.ran (YieldsList-from_take_while _ is_ascii_digit (YieldsList-from_take c.args.most (YieldsList-from_slice xs (cc)) (cc)) c.take_while.ensures.closure c.take_while.ensures.done (λ x b q k. search (rules, tests)))
    ∙ length-prefix_len is_ascii_digit (take c.args.most xs)
    ∙ sym (length_digits c.args.most xs (sym c.if-starts_with.ensures.value))
