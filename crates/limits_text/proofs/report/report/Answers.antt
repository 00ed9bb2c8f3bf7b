use Rattle.std.proofs.Common.{◌≡◌, ◌*◌, ◌++◌, length, take, drop, sym, refl, ap, ◌∙◌, subst, rules}
use Rattle.std.proofs.Math.Seq.{take-append_seam}
use Rattle.std.specs.Option.{option_map}
use Rattle.trial.specs.Judging.{lent}
use Rattle.trial.specs.PathEnds.{Told}
use Rattle.limits_text.proofs.Answering.{Roomy, judged_text, refused_text}
use Rattle.limits_text.proofs.report.report.Goals as goal

pub returns-in-Ok : goal.returns-in-Ok
returns-in-Ok g c =
    let m = g.S.Source.model c.args.source.now in
    let scratch : length c.as_mut_slice.result.now ≡ 64 * m.states = search rules in
    let out : length c.as_mut_slice-2.result.now ≡ m.states = search rules in
    let left = c.judge_with_ends-judged.new.out in
    let all : c.in_ok-row.row.len ≡ length left = search rules in
    let behind = drop (length left) c.in_ok-row.row.items in
    let last : c.as_slice.result.now ≡ left = c.as_slice.ensures.value ∙ ap (λ k. take k (left ++ behind)) all ∙ take-append_seam left behind in
    let same : option_map (λ x. x.now) c.as_ref.result ≡ c.in-Ok.judged.ends = search rules in
    let room : Roomy m (lent _ c.as_mut_slice.result.now c.as_mut_slice-2.result.now) = record { records = refl; scratch = scratch; out = out } in
    judged_text m c.args.text.now _ _ _ c.as_slice.result.now c.in-Ok.judged.ends c.formula_report.result room c.in-Ok.ensures.answer (g.S.Source.lawful c.args.source.now) c.in-Ok.ensures.ends last (λ two told. c.formula_report.ensures.report two (subst (Told _ two) (sym same) told)) c.formula_report.ensures.outcome

pub returns : goal.returns
returns g c =
    let m = g.S.Source.model c.args.source.now in
    let scratch : length c.as_mut_slice.result.now ≡ 64 * m.states = search rules in
    let out : length c.as_mut_slice-2.result.now ≡ m.states = search rules in
    let room : Roomy m (lent _ c.as_mut_slice.result.now c.as_mut_slice-2.result.now) = record { records = refl; scratch = scratch; out = out } in
    record {
      fault = c.in-Err.fault;
      refused = refused_text m c.args.text.now _ c.in-Err.fault room c.in-Err.ensures.answer.0;
      report = c.in_ok-refusal_report-in-Err.ensures;
    }
