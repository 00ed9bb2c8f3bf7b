use Rattle.std.proofs.Common.{map, ap₂, ◌∙◌, arith}
use Rattle.std.proofs.lemmas.List.{take_at}
use Rattle.rounds_text.specs.Requests.{lists_text}
use Rattle.rounds_text.proofs.Printing.{begun, asked_same, did_text}
use Rattle.rounds_text.proofs.request.rounds_text.Goals as goal

-- the rounds are made, and both vectors hold what the slices were left as
pub returns-in-Ok-rounds : goal.returns-in-Ok-rounds
returns-in-Ok-rounds g c =
    let v = g.V.Numbered.numbering in
    let m = g.S.Source.model c.args.source.now in
    let b = begun v m c.args.numbers.now _ _ _ _ _ _ c.in-Ok.is c.in_ok-values.ensures c.as_mut_slice.ensures.value c.as_mut_slice-2.ensures.value c.in_ok-second.ensures c.states.ensures in (
      asked_same v m c.args.numbers.now c.args.count b _ c.in-Ok-rounds.ensures.asked,
      c.in_ok-lists_text-in-Ok-rounds.ensures
          ∙ ap₂ (λ x y. lists_text (map v.number x) (map v.number y))
          (c.as_slice.ensures.value ∙ take_at c.rounds.new.values _ _ (omega (arith, c.rounds.auto.values, c.as_mut_slice.ensures.len)))
          (c.as_slice-in-Ok-rounds.ensures.value ∙ take_at c.rounds.new.spare _ _ (omega (arith, c.rounds.auto.spare, c.as_mut_slice-2.ensures.len)))
          ∙ did_text v m c.args.numbers.now c.args.count b (g.R.Rule.preferred c.args.rule.now) (g.R.Rule.mixed c.args.rule.now) _ _ c.in-Ok-rounds.ensures,
    )

-- they are refused
pub returns : goal.returns
returns g c =
    let v = g.V.Numbered.numbering in
    let m = g.S.Source.model c.args.source.now in
    let b = begun v m c.args.numbers.now _ _ _ _ _ _ c.in-Ok.is c.in_ok-values.ensures c.as_mut_slice.ensures.value c.as_mut_slice-2.ensures.value c.in_ok-second.ensures c.states.ensures in
    asked_same v m c.args.numbers.now c.args.count b _ c.in-Err-rounds.ensures.asked
