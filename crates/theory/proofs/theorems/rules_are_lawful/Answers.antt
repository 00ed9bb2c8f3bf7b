use Rattle.theory.proofs.RuleLaws.{rules_lawful}
use Rattle.theory.proofs.theorems.rules_are_lawful.Goals as goal

pub returns : goal.returns
returns c = rules_lawful
