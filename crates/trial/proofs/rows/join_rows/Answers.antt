use Rattle.std.proofs.Common.{rules}
use Rattle.theory.specs.Verdicts.{joined}
use Rattle.trial.specs.Rows.{sets}
use Rattle.trial.proofs.Bytes.{row_written}
use Rattle.trial.proofs.rows.join_rows.Goals as goal

pub returns : goal.returns
returns c = row_written (joined (sets c.args.left.now) (sets c.args.right.now)) _ _ c.write_row.ensures.long (λ s h. let made = c.write_row.ensures.written s h in search rules)
