use Rattle.std.proofs.Common.{eqb, rules, tests}
use Rattle.std.proofs.lemmas.Iterator.Consumers.{map_from_collect}
use Rattle.std.proofs.lemmas.Iterator.Splits.{YieldsList-from_slice_split}
use Rattle.text.proofs.Cutting.{split_pieces}
use Rattle.limits_text.proofs.list.lines_of.Goals as goal

-- the lines are collected as `split` gives them
pub returns : goal.returns
returns c =
    rw (← split_pieces 10 c.args.list.now)
    (map_from_collect c.collect.result c.collect.ensures.ran (YieldsList-from_slice_split _ (λ b. eqb b 10) c.args.list.now c.split.ensures.rest c.split.ensures.done c.split.ensures.closure (λ x r q k. search (rules, tests))))
