use Rattle.std.proofs.Common.{◌∙◌}
use Rattle.escapes.proofs.Counts.{count_read}
use Rattle.escapes.proofs.repeats.count.Goals as goal

-- `count_read`: the number that `parse` reads, or 0, is the count
pub returns : goal.returns
returns c = c.unwrap_or.ensures ∙ count_read c.args.text.now _ c.parse.ensures.value.0
