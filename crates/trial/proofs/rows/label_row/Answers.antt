use Rattle.std.proofs.Common.{rules}
use Rattle.theory.specs.Formulas.{has_label}
use Rattle.theory.specs.Verdicts.{known}
use Rattle.trial.proofs.Bytes.{row_written}
use Rattle.trial.proofs.rows.label_row.Goals as goal

pub returns : goal.returns
returns g c = row_written (known (has_label (g.S.Source.model c.args.source.now) c.args.letter)) _ _ c.write_row.ensures.long (λ s h. let made = c.write_row.ensures.written s h in search rules)
