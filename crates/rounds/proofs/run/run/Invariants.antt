use Rattle.std.proofs.Common.{◌≡◌}
use Rattle.rounds.specs.Backups.{values_by, spare_by}
use Rattle.rounds.proofs.run.run.Given as goal

-- both lists are those after the rounds that are done
abbrev pub invariant-loop : goal.invariant-loop
invariant-loop g l =
    let m = g.S.Source.model l.source in
    let better = g.B.Backup.chosen l.backup in
    let mix = g.B.Backup.mixed l.backup in
    record {
      first : (d : g.row.B-Value.Denot) → l.values ≡ values_by better mix m d l.counter l.fn.values;
      second : (d : g.row.B-Value.Denot) → l.spare ≡ spare_by better mix m d l.counter l.fn.values l.fn.spare;
    }
