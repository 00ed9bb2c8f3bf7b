use Rattle.theory.proofs.Runs.{runs_correct}
use Rattle.theory.proofs.theorems.runs_are_paths.Goals as goal

pub returns : goal.returns
returns c = runs_correct
