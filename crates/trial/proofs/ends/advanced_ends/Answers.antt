use Rattle.std.proofs.Common.{drop, rules}
use Rattle.rules.specs.declared.rounding.Rounding.TheVariants.{Down, Up}
use Rattle.rules.specs.Parts.{prefers_part, mix_rounded, in_parts}
use Rattle.rules.specs.PartsLemmas.{parts_lawful}
use Rattle.rounds.specs.Ends.{lower_of, upper_of}
use Rattle.trial.proofs.Fronts.{front_mapped}
use Rattle.trial.proofs.ends.advanced_ends.Goals as goal

pub returns-clause-lower : goal.returns-clause-lower
returns-clause-lower g c d e s h =
    let x = c.args.source.now in
    let p = c.args.preference in
    let ran = rw c.unwrap.ensures at c.rounds_of_ends.ensures.lower in
    -- the rounds of the front of the list are those of the whole list
    front_mapped lower_of (prefers_part p) (in_parts (mix_rounded Down)) (parts_lawful Down p) (g.S.Source.model x) (g.S.Source.lawful x) c.states-states.result c.states-states.ensures
    c.args.ends.now.values c.rounds_of_ends.new.ends (drop c.states-states.result c.args.ends.now.values) d e c.args.count s h (search rules) (ran.first d)

pub returns-clause-upper : goal.returns-clause-upper
returns-clause-upper g c d e s h =
    let x = c.args.source.now in
    let p = c.args.preference in
    let ran = rw c.unwrap.ensures at c.rounds_of_ends.ensures.upper in
    front_mapped upper_of (prefers_part p) (in_parts (mix_rounded Up)) (parts_lawful Up p) (g.S.Source.model x) (g.S.Source.lawful x) c.states-states.result c.states-states.ensures
    c.args.ends.now.values c.rounds_of_ends.new.ends (drop c.states-states.result c.args.ends.now.values) d e c.args.count s h (search rules) (ran.first d)
