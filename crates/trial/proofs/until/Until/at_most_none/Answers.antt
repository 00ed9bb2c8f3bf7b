use Rattle.std.proofs.Common.{false, not, ap, ◌∙◌, arith}
use Rattle.rules.specs.declared.preference.Preference.TheVariants.{Greater}
use Rattle.trial.specs.Queries.{marked}
use Rattle.trial.proofs.SettledMarks.{held_alike}
use Rattle.trial.proofs.until.Until.at_most_none.Goals as goal

pub returns : goal.returns
returns g c d s h =
    let until = c.args.self.now in
    let x = until.source.now in
    let right = marked until.right.now in
    let few = (g.S.Source.lawful x).few_states in
    -- the marks tell the states of right, and are turned round
    c.flipped.ensures d s (omega arith)
    ∙ ap not (held_alike (marked until.left.now) right (g.S.Source.model x) (g.S.Source.lawful x) c.goals.result.values Greater right (c.goals.ensures false) s h _ (c.settled_from.ensures false s h))
