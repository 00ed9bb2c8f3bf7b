use Rattle.theory.proofs.Judged.{without_steps_decided}
use Rattle.theory.proofs.theorems.untils_without_steps_are_decided.Goals as goal

pub returns : goal.returns
returns c = without_steps_decided
