use Rattle.theory.proofs.Judge.{formula_ends_bound}
use Rattle.theory.proofs.theorems.formula_ends_bound_all.Goals as goal

pub returns : goal.returns
returns c = formula_ends_bound
