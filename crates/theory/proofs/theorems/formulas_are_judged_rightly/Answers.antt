use Rattle.theory.proofs.Judged.{all_judged_rightly}
use Rattle.theory.proofs.theorems.formulas_are_judged_rightly.Goals as goal

pub returns : goal.returns
returns c = all_judged_rightly
