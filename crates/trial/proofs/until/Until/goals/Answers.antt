use Rattle.std.proofs.Common.{arith, rules}
use Rattle.trial.proofs.until.Until.goals.Goals as goal

pub returns : goal.returns
returns g c = λ d s h. let long = c.args.self.now.right_long in let made = c.of.ensures d s (omega arith) in search rules
