use Rattle.std.proofs.Common.{◌≡◌, map, ap, ◌∙◌, arith, rules}
use Rattle.layers.specs.Holds.{held_model}
use Rattle.theory.specs.Ends.{held}
use Rattle.theory.proofs.WithoutSteps.{held_lawful}
use Rattle.rules.specs.declared.rounding.Rounding.TheVariants.{Down, Up}
use Rattle.rules.specs.Parts.{part_of, units_of}
use Rattle.rounds.specs.Ends.{lower_of, upper_of}
use Rattle.trial.specs.Queries.{marked}
use Rattle.trial.proofs.PathRows.{started_units}
use Rattle.trial.proofs.until.Until.decided_ends.Goals as goal

pub returns : goal.returns
returns g c =
    let until = c.args.self.now in
    let x = until.source.now in
    let m = g.S.Source.model x in
    let left = marked until.left.now in
    let right = marked until.right.now in
    let lawful = held_lawful left right m (g.S.Source.lawful x) in
    let few = (g.S.Source.lawful x).few_states in
    let start = c.start_ends-start.result.values in
    let zero = part_of 0 in
    let layered : held_model (g.S.Source.model c.layer.result.below.now) c.layer.result.held ≡ held left right m = search rules in
    -- the rounds are those of the held model
    let lower = rw layered at c.advanced_ends.ensures.lower zero zero in
    let upper = rw layered at c.advanced_ends.ensures.upper zero zero in
    record {
      so_many = until.left_long;
      lower = λ d s h. ap units_of (c.split_ends.ensures.lower d s (omega arith))
          ∙ started_units Down c.args.preference (held left right m) lawful right (map lower_of start) zero (λ t q. c.start_ends-start.ensures.lower zero t (search rules)) c.args.steps s h _ (lower s (search rules));
      upper = λ d s h. ap units_of (c.split_ends.ensures.upper d s (omega arith))
          ∙ started_units Up c.args.preference (held left right m) lawful right (map upper_of start) zero (λ t q. c.start_ends-start.ensures.upper zero t (search rules)) c.args.steps s h _ (upper s (search rules));
    }
