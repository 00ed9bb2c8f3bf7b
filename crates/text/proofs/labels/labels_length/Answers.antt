use Rattle.std.proofs.Common.{sym}
use Rattle.text.proofs.Letters.{length_dash}
use Rattle.text.proofs.labels.labels_length.Goals as goal

-- after `-` nothing more is read
pub returns-then-starts_with : goal.returns-then-starts_with
returns-then-starts_with c = sym (length_dash c.args.field.now (sym c.if-starts_with.ensures.value))
