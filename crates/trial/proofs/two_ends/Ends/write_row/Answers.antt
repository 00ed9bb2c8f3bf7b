use Rattle.std.proofs.Common.{rules}
use Rattle.theory.specs.Verdicts.{read_off}
use Rattle.formula.specs.Tokens.{meant}
use Rattle.rules.specs.Parts.{part_of}
use Rattle.trial.proofs.Bytes.{row_written}
use Rattle.trial.proofs.two_ends.Ends.write_row.Goals as goal

pub returns : goal.returns
returns c = λ lo hi x. row_written (read_off (meant c.args.threshold.comparison) c.args.threshold.bound lo hi) _ _ c.write_row.ensures.long
    (λ s h. let made = c.write_row.ensures.written s h in let low = x.lower (part_of 0) s h in let high = x.upper (part_of 0) s h in search rules)
