use Rattle.std.proofs.Common.{sym, ◌∙◌, rules}
use Rattle.std.specs.List.{range_with_len}
use Rattle.std.proofs.lemmas.Iterator.Consumers.{sum_by_from_yields_List, fits_by_from_yields_list}
use Rattle.printing.proofs.Counting.{over_range, choices_at, branches_of, state_counted, state_fits}
use Rattle.printing.proofs.counts.state_branches.Goals as goal

pub sum-requires-clause-fits : goal.sum-requires-clause-fits
sum-requires-clause-fits g c =
    let m = g.S.Source.model c.args.source.now in
    fits_by_from_yields_list (branches_of m c.args.state) (range_with_len 0 (choices_at m c.args.state)) c.map.result _ (over_range _ (branches_of m c.args.state) (choices_at m c.args.state) c.map.ensures.source c.choices.ensures c.map.ensures.closure (λ x r q k. search rules))
    (state_fits m (g.S.Source.lawful c.args.source.now) c.args.state)

pub returns : goal.returns
returns g c =
    let m = g.S.Source.model c.args.source.now in
    sum_by_from_yields_List (branches_of m c.args.state) (range_with_len 0 (choices_at m c.args.state)) c.map.result _ c.sum.ensures.ran (over_range _ (branches_of m c.args.state) (choices_at m c.args.state) c.map.ensures.source c.choices.ensures c.map.ensures.closure (λ x r q k. search rules))
    ∙ sym (state_counted m c.args.state)
