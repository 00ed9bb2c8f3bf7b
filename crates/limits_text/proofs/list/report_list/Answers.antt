use Rattle.std.proofs.Common.{◌≡◌, ℕ, ◌<◌, ◌≤◌, ◌++◌, map, length, List, option_to_list, Ok, sym, ap, ◌∙◌, count_by, Bor, arith}
use Rattle.std.proofs.lemmas.List.{length-map, get_or-map, map-id}
use Rattle.std.proofs.lemmas.Iterator.Adapters.{fact_from_extend, YieldsList-from_once}
use Rattle.limits_text.specs.declared.outcome.Outcome.{Outcome}
use Rattle.limits_text.specs.Lines.{list_lines}
use Rattle.limits_text.specs.Lists.{is_formula}
use Rattle.printing.proofs.Errors.{after_error}
use Rattle.limits_text.proofs.Reporting.{reported_none, reported_more, reported_all, torn_first, torn_told, torn_report, torn_kept, begun_of_list}
use Rattle.limits_text.proofs.list.report_list.Goals as goal

-- the lines that are gone over are those of the list, and so many of them are formulas
lines_there : (lines items slice : List (Bor (List ℕ))) (list : List ℕ) (formulas : ℕ) → lines ≡ items → slice ≡ items → map (λ p. p.now) items ≡ list_lines list →
    formulas ≡ count_by is_formula (map (λ p. p.now) slice) → (map (λ p. p.now) lines ≡ list_lines list) × (formulas ≡ count_by is_formula (map (λ p. p.now) lines))
lines_there lines items slice list formulas same like all count =
    (ap (map (λ p. p.now)) same ∙ all, count ∙ ap (λ l. count_by is_formula (map (λ p. p.now) l)) (like ∙ sym same))

-- no line is reported
pub loop-index-init : goal.loop-index-init
loop-index-init g c = rw c.new-outcomes.ensures.items (reported_none _ _ _ _ _)

-- one line more is
pub loop-index-preserved : goal.loop-index-preserved
loop-index-preserved g c =
    let lines = c.deref-line-items.result.now in
    let k = c.loop-index.index in
    let within : k < length (map (λ p. p.now) lines) = omega (arith, length-map lines (λ p. p.now), c.loop-index-test.true) in
    let outcomes = c.loop-index.outcomes.items in
    let outcome = c.in_ok-outcome.outcome in
    let kept : c.extend.new.self.items ≡ outcomes ++ option_to_list outcome = fact_from_extend {E = ℕ} (λ o. o) (Ok tt) c.in_ok-extend.ensures.ran (λ it b. YieldsList-from_once outcome b.0) (λ xs e h. h.0 ∙ ap (λ (os : List Outcome). outcomes ++ os) (sym (map-id xs) ∙ e)) in
    reported_more _ _ _ k _ _ _ _ _ c.loop-index.invariant _ within (sym (get_or-map (λ p. p.now) lines k _ _ c.loop-index-test.true)) _ _ _ _ _ (c.len.ensures ∙ c.loop-index.outcomes.ok.0) c.in_ok-tell_line.ensures.whole c.in_ok-outcome.ensures.whole kept

-- all lines are
pub returns-clause-whole : goal.returns-clause-whole
returns-clause-whole g c =
    let lines = c.deref-line-items.result.now in
    let there = lines_there _ _ _ c.args.list.now _ c.deref-line-items.ensures.value c.as_slice.ensures.value c.in_ok-lines.ensures c.formula_count-formulas.ensures in
    let past : length (map (λ p. p.now) lines) ≤ c.loop-index.index = omega (arith, length-map lines (λ p. p.now), c.loop-index-test.false) in
    reported_all _ (g.S.Source.lawful c.args.source.now) c.args.list.now _ _ _ _ _ _ _ _ there.0 there.1 c.loop-index.invariant past

-- nothing is written where there is no memory for the lines
pub returns-in_err-lines-clause-begun : goal.returns-in_err-lines-clause-begun
returns-in_err-lines-clause-begun g c = after_error c.from_residual.result (torn_first _ (g.S.Source.lawful c.args.source.now) c.args.list.now _ _)

-- an error came while a line was told of
pub returns-in_err-tell_line-clause-begun : goal.returns-in_err-tell_line-clause-begun
returns-in_err-tell_line-clause-begun g c =
    let lines = c.deref-line-items.result.now in
    let k = c.loop-index.index in
    let there = lines_there _ _ _ c.args.list.now _ c.deref-line-items.ensures.value c.as_slice.ensures.value c.in_ok-lines.ensures c.formula_count-formulas.ensures in
    let within : k < length (map (λ p. p.now) lines) = omega (arith, length-map lines (λ p. p.now), c.loop-index-test.true) in
    after_error c.from_residual-in_err-tell_line.result
    (begun_of_list _ (g.S.Source.lawful c.args.source.now) c.args.list.now _ _ _ _ _ _ there.0 there.1
    (torn_told _ _ _ k _ _ _ _ _ c.loop-index.invariant _ within (sym (get_or-map (λ p. p.now) lines k _ _ c.loop-index-test.true)) _ _ (c.len.ensures ∙ c.loop-index.outcomes.ok.0) c.in_err-tell_line.ensures.front))

-- or while its report was made or written
pub returns-in_err-outcome-clause-begun : goal.returns-in_err-outcome-clause-begun
returns-in_err-outcome-clause-begun g c =
    let lines = c.deref-line-items.result.now in
    let k = c.loop-index.index in
    let there = lines_there _ _ _ c.args.list.now _ c.deref-line-items.ensures.value c.as_slice.ensures.value c.in_ok-lines.ensures c.formula_count-formulas.ensures in
    let within : k < length (map (λ p. p.now) lines) = omega (arith, length-map lines (λ p. p.now), c.loop-index-test.true) in
    after_error c.from_residual-in_err-outcome.result
    (begun_of_list _ (g.S.Source.lawful c.args.source.now) c.args.list.now _ _ _ _ _ _ there.0 there.1
    (torn_report _ _ _ k _ _ _ _ _ c.loop-index.invariant _ within (sym (get_or-map (λ p. p.now) lines k _ _ c.loop-index-test.true)) _ _ _ (c.len.ensures ∙ c.loop-index.outcomes.ok.0) c.in_ok-tell_line.ensures.whole c.in_err-outcome.ensures.torn))

-- or when it was reported, for want of memory for its outcome
pub returns-in_err-extend-clause-begun : goal.returns-in_err-extend-clause-begun
returns-in_err-extend-clause-begun g c =
    let lines = c.deref-line-items.result.now in
    let k = c.loop-index.index in
    let there = lines_there _ _ _ c.args.list.now _ c.deref-line-items.ensures.value c.as_slice.ensures.value c.in_ok-lines.ensures c.formula_count-formulas.ensures in
    let within : k < length (map (λ p. p.now) lines) = omega (arith, length-map lines (λ p. p.now), c.loop-index-test.true) in
    after_error c.from_residual-in_err-extend.result
    (begun_of_list _ (g.S.Source.lawful c.args.source.now) c.args.list.now _ _ _ _ _ _ there.0 there.1
    (torn_kept _ _ _ k _ _ _ _ _ c.loop-index.invariant _ within (sym (get_or-map (λ p. p.now) lines k _ _ c.loop-index-test.true)) _ _ _ _ (c.len.ensures ∙ c.loop-index.outcomes.ok.0) c.in_ok-tell_line.ensures.whole c.in_ok-outcome.ensures.whole))
