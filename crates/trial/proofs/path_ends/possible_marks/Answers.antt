use Rattle.std.proofs.Common.{rules}
use Rattle.trial.proofs.path_ends.possible_marks.Goals as goal

pub returns : goal.returns
returns c = λ s h. let made = c.of.ensures 0 s h in search rules
