use Rattle.theory.proofs.Judged.{verdicts_correct}
use Rattle.theory.proofs.theorems.verdicts_are_correct.Goals as goal

pub returns : goal.returns
returns c = verdicts_correct
