use Rattle.theory.proofs.Between.{next_ends_bound}
use Rattle.theory.proofs.theorems.next_ends_bound_all.Goals as goal

pub returns : goal.returns
returns c = next_ends_bound
