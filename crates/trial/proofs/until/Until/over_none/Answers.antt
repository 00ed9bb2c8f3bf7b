use Rattle.std.proofs.Common.{false}
use Rattle.rules.specs.declared.preference.Preference.TheVariants.{Lesser}
use Rattle.trial.specs.Queries.{marked}
use Rattle.trial.proofs.SettledMarks.{held_alike}
use Rattle.trial.proofs.until.Until.over_none.Goals as goal

pub returns : goal.returns
returns g c d s h =
    let until = c.args.self.now in
    let x = until.source.now in
    let right = marked until.right.now in
    -- the marks tell the states of right
    held_alike (marked until.left.now) right (g.S.Source.model x) (g.S.Source.lawful x) c.goals.result.values Lesser right (c.goals.ensures false) s h _ (c.settled_from.ensures d s h)
