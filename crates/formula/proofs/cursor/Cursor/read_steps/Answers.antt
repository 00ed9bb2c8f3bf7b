use Rattle.std.proofs.Common.{rules, sym}
use Rattle.formula.proofs.Signs.{equal_refused, steps_number_refused, some_steps}
use Rattle.formula.proofs.cursor.Cursor.read_steps.Goals as goal

-- `equal_refused`: behind a `<`, what refuses the `=` refuses the steps
pub returns-in_err-place : goal.returns-in_err-place
returns-in_err-place c = search (rules, equal_refused)

-- `steps_number_refused`: so does what refuses the number
pub returns-in_err-number : goal.returns-in_err-number
returns-in_err-number c = search (rules, steps_number_refused)

-- `some_steps`: all three together are the steps
pub returns : goal.returns
returns c = some_steps _ _ (sym c.if-not-stands.ensures) (rw (c.to.ensures.same, c.to.ensures.place) at c.in_ok-place.ensures) (rw (c.to-2.ensures.same, c.to-2.ensures.place) at c.in_ok-number.ensures)
