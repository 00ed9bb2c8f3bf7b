use Rattle.std.proofs.Common.{rules}
use Rattle.trial.proofs.ends.start_values.Goals as goal

pub returns : goal.returns
returns g c = λ d s h. let made = c.of.ensures d s h in search rules
