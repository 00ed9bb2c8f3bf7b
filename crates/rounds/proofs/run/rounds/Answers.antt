use Rattle.rounds.proofs.Backups.{rule_ran}
use Rattle.rounds.proofs.run.rounds.Goals as goal

pub returns : goal.returns
returns g c =
    let x = c.args.source.now in
    let y = c.args.rule.now in
    rule_ran (g.R.Rule.preferred y) (g.R.Rule.mixed y) (g.met.R.Rule.lawful y) (g.S.Source.model x) (g.S.Source.lawful x) c.args.count c.args.values.now c.args.spare.now
    c.run.new.values c.run.new.spare c.run.result c.run.ensures
