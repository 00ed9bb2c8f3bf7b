use Rattle.std.proofs.Common.{rules}
use Rattle.formula.proofs.Signs.{sign_refused, number_refused_after, whole_bound}
use Rattle.formula.proofs.cursor.Cursor.read_bound.Goals as goal

-- `sign_refused`: what refuses the comparison refuses the bound
pub returns-in_err-comparison : goal.returns-in_err-comparison
returns-in_err-comparison c = search (rules, sign_refused)

-- `number_refused_after`: so does what refuses its number
pub returns-in_err-number : goal.returns-in_err-number
returns-in_err-number c = search (rules, number_refused_after)

-- `whole_bound`: both together are the bound
pub returns : goal.returns
returns c = whole_bound _ _ _ _ _ _ c.in_ok-comparison.ensures (rw (c.to.ensures.same, c.to.ensures.place) at c.in_ok-number.ensures)
