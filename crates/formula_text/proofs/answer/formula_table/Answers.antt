use Rattle.std.proofs.Common.{refl}
use Rattle.formula_text.proofs.Answering.{tabled, for_any}
use Rattle.formula_text.proofs.answer.formula_table.Goals as goal

pub returns-in_ok-records_table-in-Ok : goal.returns-in_ok-records_table-in-Ok
returns-in_ok-records_table-in-Ok c =
    tabled c.args.text.now _ _ c.read_formula.new.records c.in-Ok.count refl c.in-Ok.ensures.1 c.in_ok-records_table-in-Ok.ensures

pub returns-in-Err : goal.returns-in-Err
returns-in-Err c = λ other long. (other, for_any c.args.text.now _ c.read_formula.new.records other c.in-Err.fault long c.in-Err.ensures)
