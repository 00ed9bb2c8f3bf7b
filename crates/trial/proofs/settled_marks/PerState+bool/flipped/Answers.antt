use Rattle.std.proofs.Common.{false, rules}
use Rattle.trial.proofs.settled_marks.PerState+bool.flipped.Goals as goal

pub returns : goal.returns
returns c = λ d s h. let turned = c.map.ensures.items.at s false d h in search rules
