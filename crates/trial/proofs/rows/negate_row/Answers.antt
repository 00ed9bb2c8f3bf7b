use Rattle.std.proofs.Common.{rules}
use Rattle.theory.specs.Verdicts.{negated}
use Rattle.trial.specs.Rows.{sets}
use Rattle.trial.proofs.Bytes.{row_written}
use Rattle.trial.proofs.rows.negate_row.Goals as goal

pub returns : goal.returns
returns c = row_written (negated (sets c.args.part.now)) _ _ c.write_row.ensures.long (λ s h. let made = c.write_row.ensures.written s h in search rules)
