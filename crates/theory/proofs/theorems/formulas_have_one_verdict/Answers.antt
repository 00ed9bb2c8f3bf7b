use Rattle.theory.proofs.Judged.{one_verdict}
use Rattle.theory.proofs.theorems.formulas_have_one_verdict.Goals as goal

pub returns : goal.returns
returns c = one_verdict
