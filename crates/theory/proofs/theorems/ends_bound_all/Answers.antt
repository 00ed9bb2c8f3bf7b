use Rattle.theory.proofs.Ends.{ends_bound}
use Rattle.theory.proofs.theorems.ends_bound_all.Goals as goal

pub returns : goal.returns
returns c = ends_bound
