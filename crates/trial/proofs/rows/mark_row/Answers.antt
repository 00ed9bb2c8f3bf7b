use Rattle.std.proofs.Common.{rules}
use Rattle.trial.specs.Rows.{told_sets}
use Rattle.trial.proofs.Bytes.{row_written}
use Rattle.trial.proofs.rows.mark_row.Goals as goal

pub returns : goal.returns
returns c = row_written (told_sets c.args.sures.now.values c.args.possibles.now.values) _ _ c.write_row.ensures.long (λ s h. let made = c.write_row.ensures.written s h in search rules)
