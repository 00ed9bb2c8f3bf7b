use Rattle.std.proofs.Common.{arith, rules}
use Rattle.std.proofs.lemmas.List.FromFn.{fill_by_all}
use Rattle.rules.specs.Values.{told}
use Rattle.rounds.specs.Backups.{backed_up}
use Rattle.rounds.proofs.step.one_round.Goals as goal

pub returns-clause-values : goal.returns-clause-values
returns-clause-values g c d =
    let m = g.S.Source.model c.args.source.now in
    let y = c.args.backup.now in
    let kept = c.loop-state.auto.values in
    let long = c.requires.long in
    fill_by_all (backed_up (g.B.Backup.chosen y) (g.B.Backup.mixed y) m (told c.args.values.now d)) c.loop-state.values m.states d (omega arith) (λ k h. c.loop-state.invariant d k (search rules))
