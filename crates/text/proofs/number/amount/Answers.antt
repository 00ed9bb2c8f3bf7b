use Rattle.std.proofs.Common.{refl, ap, ◌∙◌, arith}
use Rattle.std.proofs.lemmas.List.{take_all}
use Rattle.text.specs.Fields.{amount}
use Rattle.text.proofs.Digits.{number_from, next_digit}
use Rattle.text.proofs.number.amount.Goals as goal

pub loop-digit-init : goal.loop-digit-init
loop-digit-init c = (number_from 10 _ c.requires, refl)

pub overflow_mul-value : goal.overflow_mul-value
overflow_mul-value c = let n = next_digit _ _ c.loop-digit.invariant.0 c.loop-digit-test.true in omega (arith, c.loop-digit.invariant.1)

pub overflow_sub-digit : goal.overflow_sub-digit
overflow_sub-digit c = (next_digit _ _ c.loop-digit.invariant.0 c.loop-digit-test.true).digit

pub overflow_add-value : goal.overflow_add-value
overflow_add-value c = let n = next_digit _ _ c.loop-digit.invariant.0 c.loop-digit-test.true in omega (arith, c.loop-digit.invariant.1)

pub loop-digit-preserved : goal.loop-digit-preserved
loop-digit-preserved c = (c.loop-digit.invariant.0, (let n = next_digit _ _ c.loop-digit.invariant.0 c.loop-digit-test.true in omega (arith, c.loop-digit.invariant.1)))

pub returns : goal.returns
returns c = c.loop-digit.invariant.1 ∙ ap amount (take_all c.loop-digit.digit-index c.args.digits.now (omega arith))
