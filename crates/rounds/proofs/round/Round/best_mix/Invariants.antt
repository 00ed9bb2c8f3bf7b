use Rattle.std.proofs.Common.{◌≡◌}
use Rattle.theory.specs.Rounds.{mixed}
use Rattle.rules.specs.Values.{told}
use Rattle.rounds.specs.Backups.{backed_up}
use Rattle.rounds.proofs.Bests.{best_from}
use Rattle.rounds.proofs.round.Round.best_mix.Given as goal

-- the best so far and the mixes still to come have the best mix of all
abbrev pub invariant-loop-choice : goal.invariant-loop-choice
invariant-loop-choice g l =
    let m = g.S.Source.model l.self.source.now in
    let better = g.B.Backup.chosen l.self.backup.now in
    let mix = g.B.Backup.mixed l.self.backup.now in
    (d : g.row.B-Value.Denot) → best_from better (mixed mix m (told l.self.values.now d)) (m.choices l.state) l.choice l.best ≡ backed_up better mix m (told l.self.values.now d) l.state
