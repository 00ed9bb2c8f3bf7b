use Rattle.theory.proofs.Judged.{until_near}
use Rattle.theory.proofs.theorems.undecided_untils_are_near.Goals as goal

pub returns : goal.returns
returns c = until_near
