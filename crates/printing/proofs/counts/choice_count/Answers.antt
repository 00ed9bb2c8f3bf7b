use Rattle.std.proofs.Common.{sym, ◌∙◌, rules}
use Rattle.std.specs.List.{range_with_len}
use Rattle.std.proofs.lemmas.Iterator.Consumers.{sum_by_from_yields_List, fits_by_from_yields_list}
use Rattle.printing.proofs.Counting.{over_range, choices_at, choices_counted, choices_fit}
use Rattle.printing.proofs.counts.choice_count.Goals as goal

pub sum-requires-clause-fits : goal.sum-requires-clause-fits
sum-requires-clause-fits g c =
    let m = g.S.Source.model c.args.source.now in
    fits_by_from_yields_list (choices_at m) (range_with_len 0 m.states) c.map.result _ (over_range _ (choices_at m) m.states c.map.ensures.source c.states.ensures c.map.ensures.closure (λ x r q k. search rules))
    (choices_fit m (g.S.Source.lawful c.args.source.now))

pub returns : goal.returns
returns g c =
    let m = g.S.Source.model c.args.source.now in
    sum_by_from_yields_List (choices_at m) (range_with_len 0 m.states) c.map.result _ c.sum.ensures.ran (over_range _ (choices_at m) m.states c.map.ensures.source c.states.ensures c.map.ensures.closure (λ x r q k. search rules))
    ∙ sym (choices_counted m (range_with_len 0 m.states))
