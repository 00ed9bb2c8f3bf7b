use Rattle.theory.proofs.Judged.{next_is_near}
use Rattle.theory.proofs.theorems.undecided_nexts_are_near.Goals as goal

pub returns : goal.returns
returns c = next_is_near
