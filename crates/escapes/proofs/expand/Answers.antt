use Rattle.std.proofs.Common.{lit<, ◌∙◌}
use Rattle.std.proofs.lemmas.Iterator.Consumers.{YieldsList-at}
use Rattle.std.proofs.lemmas.Iterator.Splits.{YieldsList-from_str_split}
use Rattle.escapes.specs.Escapes.{part}
use Rattle.escapes.proofs.Parts.{all_parts}
use Rattle.escapes.proofs.expand.Goals as goal

-- all parts are put
pub returns : goal.returns
returns c =
    let each = YieldsList-from_str_split 123 c.args.text.now (lit< tt) c.split-part-items.ensures.text c.split-part-items.ensures.has_more c.split-part-items.ensures.pattern in
    c.loop-part.invariant ∙ all_parts part _ (YieldsList-at c.into_iter-part-iterator.ensures.into_iter_gives each) c.loop-part.yielded _ c.loop-part.yielded_by _ _ c.in-None.is c.next.ensures.steps
