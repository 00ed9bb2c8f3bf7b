use Rattle.std.proofs.Common.{sym, ◌∙◌, rules}
use Rattle.std.proofs.Math.ListN.{get_or-map}
use Rattle.rules.specs.Parts.{part_of}
use Rattle.rounds.specs.declared.interval.Interval.{Interval}
use Rattle.rounds.specs.Ends.{lower_of, upper_of, point}
use Rattle.trial.proofs.ends.split_ends.Goals as goal

-- the interval that stands for one past the end
abbrev zero : Interval
zero = point (part_of 0)

pub returns-clause-lower : goal.returns-clause-lower
returns-clause-lower c d s h = let taken = c.map.ensures.items.at s zero d h in sym (get_or-map lower_of c.args.ends.now.values s zero ∙ search rules)

pub returns-clause-upper : goal.returns-clause-upper
returns-clause-upper c d s h = let taken = c.map-2.ensures.items.at s zero d h in sym (get_or-map upper_of c.args.ends.now.values s zero ∙ search rules)
