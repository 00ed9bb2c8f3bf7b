use Rattle.theory.proofs.Near.{queries_correct}
use Rattle.theory.proofs.theorems.queries_are_correct.Goals as goal

pub returns : goal.returns
returns c = queries_correct
