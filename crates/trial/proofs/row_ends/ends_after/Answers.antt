use Rattle.std.proofs.Common.{drop, rules}
use Rattle.trial.specs.Queries.{marked}
use Rattle.trial.proofs.Fronts.{front_rounds}
use Rattle.trial.proofs.PathRows.{started_rounds}
use Rattle.trial.proofs.row_ends.ends_after.Goals as goal

pub returns : goal.returns
returns g c d s h =
    let x = c.args.source.now in
    let m = g.S.Source.model x in
    let l = g.S.Source.lawful x in
    let preferred = g.R.Rule.preferred c.args.rule.now in
    let mix = g.R.Rule.mixed c.args.rule.now in
    let laws = g.met.R.Rule.lawful c.args.rule.now in
    let n = c.states-states.result in
    let start = c.start_end.result.values in
    let k = c.args.count in
    let ran = rw c.unwrap.ensures at c.rounds.ensures in
    -- the rounds of the front of the list are those of the whole list, which tells the start
    started_rounds preferred mix laws m l (marked c.args.right.now) start d (λ t q. c.start_end.ensures d t (search rules)) k s h _
    (front_rounds preferred mix laws m l n c.states-states.ensures start c.rounds.new.values (drop n start) d k s h (search rules) (ran.first d))
