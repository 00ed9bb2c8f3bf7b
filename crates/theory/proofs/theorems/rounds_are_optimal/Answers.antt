use Rattle.theory.proofs.Rounds.{rounds_optimal}
use Rattle.theory.proofs.theorems.rounds_are_optimal.Goals as goal

pub returns : goal.returns
returns g c = rounds_optimal
