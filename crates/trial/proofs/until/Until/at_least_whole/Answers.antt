use Rattle.std.proofs.Common.{false, not, ap, ◌∙◌, arith}
use Rattle.theory.specs.WithoutSteps.{unmarked}
use Rattle.rules.specs.declared.preference.Preference.TheVariants.{Greater}
use Rattle.trial.specs.Queries.{marked}
use Rattle.trial.proofs.SettledMarks.{held_alike, unmarked_grows}
use Rattle.trial.proofs.until.Until.at_least_whole.Goals as goal

pub settled_from-requires : goal.settled_from-requires
settled_from-requires g c =
    let until = c.args.self.now in
    let x = until.source.now in
    let few = (g.S.Source.lawful x).few_states in
    -- the marks tell what the settled marks with no preferred leave unmarked
    unmarked_grows (marked until.left.now) (marked until.right.now) (g.S.Source.model x) (g.S.Source.lawful x) c.flipped-avoidable.result.values
    (λ s h. c.flipped-avoidable.ensures false s (omega arith) ∙ ap not (c.over_none.ensures false s h))

pub returns : goal.returns
returns g c d s h =
    let until = c.args.self.now in
    let x = until.source.now in
    let m = g.S.Source.model x in
    let left = marked until.left.now in
    let right = marked until.right.now in
    let few = (g.S.Source.lawful x).few_states in
    -- the same, and the settled marks are turned round
    c.flipped.ensures d s (omega arith)
    ∙ ap not (held_alike left right m (g.S.Source.lawful x) c.flipped-avoidable.result.values Greater (unmarked left right m m.states)
    (λ t q. c.flipped-avoidable.ensures false t (omega arith) ∙ ap not (c.over_none.ensures false t q)) s h _ (c.settled_from.ensures false s h))
