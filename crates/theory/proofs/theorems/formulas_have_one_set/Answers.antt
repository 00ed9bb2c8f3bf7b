use Rattle.theory.proofs.Near.{every_set}
use Rattle.theory.proofs.theorems.formulas_have_one_set.Goals as goal

pub returns : goal.returns
returns c = every_set
