use Rattle.std.proofs.Common.{◌≡◌, ℕ, ◌<◌, get_or}
use Rattle.rules.specs.Values.{told}
use Rattle.rounds.specs.Backups.{backed_up}
use Rattle.rounds.proofs.step.one_round.Given as goal

-- each state so far has its value after the round
abbrev pub invariant-loop-state : goal.invariant-loop-state
invariant-loop-state g l =
    let m = g.S.Source.model l.source in
    (d : g.row.B-Value.Denot) (k : ℕ) → k < l.state → get_or l.values k d ≡ backed_up (g.B.Backup.chosen l.backup) (g.B.Backup.mixed l.backup) m (told l.fn.values d) k
