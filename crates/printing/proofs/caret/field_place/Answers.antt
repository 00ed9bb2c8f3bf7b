use Rattle.std.proofs.Common.{◌<◌, length, take, min, eqb, ap, ◌∙◌, rules, tests, arith}
use Rattle.std.proofs.lemmas.Iterator.{YieldsList-from_take, YieldsList-from_map}
use Rattle.std.proofs.lemmas.Iterator.Consumers.{sum_by_from_yields_List, fits_by_from_yields_list}
use Rattle.std.proofs.lemmas.Iterator.Splits.{YieldsList-from_slice_split}
use Rattle.printing.proofs.Cutting.{with_tab, tab_parts, places}
use Rattle.printing.proofs.caret.field_place.Goals as goal

-- the fields before come past the line's end by one at most, so their sum fits
pub sum-requires-clause-fits : goal.sum-requires-clause-fits
sum-requires-clause-fits c =
    let line = c.args.line.now in
    let short : length line < 9223372036854775808 = search rules in
    fits_by_from_yields_list with_tab (take c.args.field (tab_parts line)) c.map.result _
    (YieldsList-from_map _ with_tab (YieldsList-from_take c.args.field (YieldsList-from_slice_split _ (λ b. eqb b 9) line (cc) (cc) (cc) (λ x b q k. search (rules, tests))) (cc)) c.map.ensures.closure (λ x r q k. search rules))
    (omega (arith, (places c.args.field line).0, short))

-- and the sum is where the field begins, but for the line's end
pub returns : goal.returns
returns c =
    let line = c.args.line.now in
    let sum = sum_by_from_yields_List with_tab (take c.args.field (tab_parts line)) c.map.result _ c.sum.ensures.ran
    (YieldsList-from_map _ with_tab (YieldsList-from_take c.args.field (YieldsList-from_slice_split _ (λ b. eqb b 9) line (cc) (cc) (cc) (λ x b q k. search (rules, tests))) (cc)) c.map.ensures.closure (λ x r q k. search rules)) in
    c.min.ensures ∙ ap (λ n. min n (length line)) sum ∙ (places c.args.field line).1
