use Rattle.theory.proofs.Rounds.{first_allowed}
use Rattle.theory.proofs.theorems.an_adversary_exists.Goals as goal

pub returns : goal.returns
returns c = first_allowed
