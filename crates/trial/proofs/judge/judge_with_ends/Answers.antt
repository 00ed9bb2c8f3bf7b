use Rattle.std.proofs.Common.{◌≡◌, ◌-◌, ◌*◌, ◌++◌, drop, sym, refl, ap, ◌∙◌, subst, arith}
use Rattle.theory.specs.Formulas.{Formula}
use Rattle.grammar.specs.Spelling.{print, Spelled}
use Rattle.grammar.proofs.Readings.{one_reading}
use Rattle.formula.specs.Records.{size, parts}
use Rattle.trial.specs.Judging.{lent, Accepted}
use Rattle.trial.specs.Evaluation.{row_at, HasRow}
use Rattle.theory.specs.Found.{ends_of}
use Rattle.trial.specs.PathEnds.{ends_of_last, Told}
use Rattle.trial.proofs.Evaluation.{parts_before, parts_last, ends_last}
use Rattle.trial.proofs.Judging.{some_part, reads, read_twice, last_there, filled_chained, accepted}
use Rattle.trial.proofs.Meanings.{judge_means, told_bound}
use Rattle.trial.proofs.judge.judge_with_ends.Goals as goal

pub returns-then-scratch-count : goal.returns-then-scratch-count
returns-then-scratch-count g c =
    let m = g.S.Source.model c.args.source.now in
    let (left, counted) = c.in_ok-count.ensures c.args.records.now refl in
    let a = counted.1 in
    let short = c.if-scratch-count.true in
    let bytes : c.in_ok-count.count * c.states-states.result ≡ size a.formula * m.states = ap (λ k. k * c.states-states.result) a.number ∙ ap (λ k. size a.formula * k) c.states-states.ensures in
    record {
      answer = ((a.formula, reads _ _ left _ counted.0 a, omega (arith, bytes, short)), refl);
      ends = tt;
      meaning = tt;
      ends_meaning = tt;
    }

pub returns-then-out-states : goal.returns-then-out-states
returns-then-out-states g c =
    let m = g.S.Source.model c.args.source.now in
    let (left, counted) = c.in_ok-count.ensures c.args.records.now refl in
    let a = counted.1 in
    let long = c.if-scratch-count.false in
    let other = c.if-out-states.true in
    let bytes : c.in_ok-count.count * c.states-states.result ≡ size a.formula * m.states = ap (λ k. k * c.states-states.result) a.number ∙ ap (λ k. size a.formula * k) c.states-states.ensures in
    record {
      answer = ((a.formula, reads _ _ left _ counted.0 a, omega (arith, bytes, long), λ e. other (e ∙ sym c.states-states.ensures)), refl);
      ends = tt;
      meaning = tt;
      ends_meaning = tt;
    }

pub evaluate-ends-requires-clause-chained : goal.evaluate-ends-requires-clause-chained
evaluate-ends-requires-clause-chained g c =
    let b = lent c.args.records.now c.args.scratch.now c.args.out.now in
    let twice = read_twice _ _ _ _ _ c.in_ok-count.ensures c.in_ok-read_formula.ensures.1 in
    (parts twice.formula, filled_chained (g.S.Source.model c.args.source.now) (g.S.Source.lawful c.args.source.now) c.args.text.now b _ _ twice)

pub overflow_sub-count : goal.overflow_sub-count
overflow_sub-count g c =
    let twice = read_twice _ _ _ _ _ c.in_ok-count.ensures c.in_ok-read_formula.ensures.1 in
    let n = twice.number in
    let some = some_part twice.formula in
    omega (arith, n, some)

pub of-requires : goal.of-requires
of-requires g c =
    let m = g.S.Source.model c.args.source.now in
    let l = g.S.Source.lawful c.args.source.now in
    let b = lent c.args.records.now c.args.scratch.now c.args.out.now in
    let twice = read_twice _ _ _ _ _ c.in_ok-count.ensures c.in_ok-read_formula.ensures.1 in
    let chain = filled_chained m l c.args.text.now b _ _ twice in
    subst (λ n. HasRow n (c.evaluate-ends.new.scratch ++ drop (c.in_ok-count.count * c.states-states.result) c.args.scratch.now) (c.in_ok-count.count - 1)) (sym c.states-states.ensures)
    (last_there m l c.args.text.now b _ _ twice c.evaluate-ends.new.scratch _ (c.evaluate-ends.ensures.rows (parts twice.formula) chain))

pub returns : goal.returns
returns g c =
    let m = g.S.Source.model c.args.source.now in
    let l = g.S.Source.lawful c.args.source.now in
    let states = c.states-states.ensures in
    let enough = c.if-scratch-count.false in
    let b = lent c.args.records.now c.args.scratch.now c.args.out.now in
    let twice = read_twice _ _ _ _ _ c.in_ok-count.ensures c.in_ok-read_formula.ensures.1 in
    let bytes : c.in_ok-count.count * c.states-states.result ≡ size twice.formula * m.states = ap (λ k. k * c.states-states.result) twice.number ∙ ap (λ k. size twice.formula * k) states in
    let chain = filled_chained m l c.args.text.now b _ _ twice in
    let judged =
    subst (λ n. Accepted m c.args.text.now b (lent (c.evaluate-ends.new.records ++ drop c.in_ok-count.count c.read_formula.new.records) (c.evaluate-ends.new.scratch ++ drop (c.in_ok-count.count * n) c.args.scratch.now) c.copy_from_slice.new.self) c.in_ok-count.count) (sym states)
    (accepted m l c.args.text.now b _ _ twice
    c.evaluate-ends.new.records c.evaluate-ends.new.scratch c.copy_from_slice.new.self (omega (arith, bytes, enough)) (let h = c.if-out-states.false in omega (arith, h, states))
    (c.evaluate-ends.ensures.counts (parts twice.formula) chain) (c.evaluate-ends.ensures.rows (parts twice.formula) chain)
    (c.copy_from_slice.ensures.after ∙ c.of.ensures.row ∙ ap (λ n. row_at n (c.evaluate-ends.new.scratch ++ drop (c.in_ok-count.count * n) c.args.scratch.now) (c.in_ok-count.count - 1)) states))
    in
    let told : (f : Formula) → Spelled f → c.args.text.now ≡ print f → Told m.states (ends_of m f) c.evaluate-ends.result =
    λ f spelled spells.
    subst (λ z. Told m.states z c.evaluate-ends.result)
    (ap (ends_of_last m) (parts_last twice.formula) ∙ ends_last m (parts_before twice.formula) twice.formula ∙ ap (ends_of m) (one_reading twice.formula f twice.reads.spelled spelled (sym twice.reads.spells ∙ spells)))
    (c.evaluate-ends.ensures.ends (parts twice.formula) chain)
    in
    record {
      answer = judged;
      ends = told;
      ends_meaning = told_bound m l c.args.text.now c.evaluate-ends.result told;
      meaning = judge_means m l _ _ _ _ judged;
    }
