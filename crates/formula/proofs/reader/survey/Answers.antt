use Rattle.std.proofs.Common.{refl}
use Rattle.formula.proofs.Whole.{broken_off, more_behind, whole_read}
use Rattle.formula.proofs.reader.survey.Goals as goal

pub returns-in-Ok : goal.returns-in-Ok
returns-in-Ok c = whole_read c.in-Ok.ensures c.if-reading-text.true

pub returns-in-Ok-2 : goal.returns-in-Ok-2
returns-in-Ok-2 c = (_, refl, more_behind c.in-Ok.ensures c.if-reading-text.false)

pub returns-in-Err : goal.returns-in-Err
returns-in-Err c = (_, refl, broken_off _ _ c.in-Err.ensures)
