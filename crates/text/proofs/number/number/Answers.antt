use Rattle.std.proofs.Common.{arith, rules}
use Rattle.text.proofs.Asking.{checked}
use Rattle.text.proofs.Digits.{numeral_small, numeral_more}
use Rattle.text.proofs.number.number.Goals as goal

-- past the check, the field is a number of at most ten digits
pub amount-requires : goal.amount-requires
amount-requires c = numeral_more 7 10 c.args.field.now (omega arith) (checked _ tt tt _ _ c.check_lawful.ensures (search rules)).0

-- and it is small
pub overflow_cast-result : goal.overflow_cast-result
overflow_cast-result c = omega (arith, numeral_small 7 c.args.field.now (checked _ tt tt _ _ c.check_lawful.ensures (search rules)).0, c.amount.ensures)
