use Rattle.std.proofs.Common.{◌+◌, rules, tests}
use Rattle.text.specs.Fields.{among}
use Rattle.text.proofs.Asking.{checked}
use Rattle.text.proofs.Letters.{from_calls}
use Rattle.text.proofs.labels.labels.Goals as goal

-- past the check, the field is a set of labels, and each flag tells whether its letter is among the bytes
pub returns : goal.returns
returns c =
    ((checked _ tt tt _ _ c.check_lawful.ensures (search rules)).0, from_calls _ _ (λ i. among (97 + i) c.args.field.now) (λ i y q k. search (rules, tests)) c.from_fn-letters.result 16 c.from_fn-letters.ensures.items)
