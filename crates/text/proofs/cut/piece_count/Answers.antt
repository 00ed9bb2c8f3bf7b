use Rattle.std.proofs.Common.{rules, length, ap, ◌∙◌, eqb, tests}
use Rattle.std.proofs.lemmas.Iterator.Consumers.{count_from_yields_List}
use Rattle.std.proofs.lemmas.Iterator.Splits.{YieldsList-from_slice_split}
use Rattle.text.proofs.Cutting.{split_pieces}
use Rattle.text.proofs.cut.piece_count.Goals as goal

-- as many pieces are counted as `split` gives
pub returns : goal.returns
returns c =
    count_from_yields_List c.split.result _ c.count.ensures.ran (YieldsList-from_slice_split _ (λ b. eqb b c.args.sep) c.args.bytes.now c.split.ensures.rest c.split.ensures.done c.split.ensures.closure (λ x b q k. search (rules, tests)))
    ∙ ap length (split_pieces c.args.sep c.args.bytes.now)
