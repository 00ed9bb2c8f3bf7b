use Rattle.std.proofs.Common.{◌≡◌, List, [], ◌*◌, take, ap, ◌∙◌, arith}
use Rattle.theory.specs.Formulas.{Formula}
use Rattle.trial.specs.Judging.{counted_each, rows_of}
use Rattle.trial.specs.PathEnds.{Told, ends_of_last}
use Rattle.trial.specs.Evaluation.{Chained}
use Rattle.trial.proofs.Evaluation.{none_evaluated, next_needs, one_evaluated, all_evaluated}
use Rattle.trial.proofs.judge.evaluate.Goals as goal

pub loop-number-init : goal.loop-number-init
loop-number-init g c = λ fs x. none_evaluated (g.S.Source.model c.args.source.now) fs c.args.records.now c.args.scratch.now x

pub write_row_of-ends-requires-clause-needs : goal.write_row_of-ends-requires-clause-needs
write_row_of-ends-requires-clause-needs g c =
    let m = g.S.Source.model c.args.source.now in
    let (fs, x) = c.requires.chained in
    next_needs m fs c.args.records.now c.loop-number.number c.loop-number.records c.loop-number.scratch c.loop-number.ends (c.loop-number.invariant fs x)
    c.loop-number-test.true _ c.split_at_mut-done.result.0.now (c.split_at_mut-done.ensures.front ∙ ap (λ k. take (c.loop-number.number * k) c.loop-number.scratch) c.states-states.ensures)

pub loop-number-preserved : goal.loop-number-preserved
loop-number-preserved g c = λ fs x.
    let m = g.S.Source.model c.args.source.now in
    rw (c.count-record.ensures, c.count-record-in-loop-number.ensures)
    (one_evaluated m fs c.args.records.now c.loop-number.number c.loop-number.records c.loop-number.scratch c.loop-number.ends (c.loop-number.invariant fs x)
    c.loop-number-test.true _ c.split_at_mut-done.result.0.now (c.split_at_mut-done.ensures.front ∙ ap (λ k. take (c.loop-number.number * k) c.loop-number.scratch) c.states-states.ensures)
    c.write_row_of-ends.new.row _ c.write_row_of-ends.result c.write_row_of-ends.ensures.row c.write_row_of-ends.ensures.ends)

pub returns : goal.returns
returns g c =
    let m = g.S.Source.model c.args.source.now in
    let all = c.loop-number-test.false in
    let long = c.requires.long in
    let kept = c.loop-number.auto.scratch in
    let evaluated : (fs : List Formula) → Chained m [] fs c.args.records.now → (c.loop-number.records ≡ counted_each m fs c.args.records.now) × (c.loop-number.scratch ≡ rows_of m fs) × Told m.states (ends_of_last m fs) c.loop-number.ends =
    λ fs x. all_evaluated m fs c.args.records.now c.loop-number.number c.loop-number.records c.loop-number.scratch c.loop-number.ends (c.loop-number.invariant fs x) (omega arith) (omega arith) in
    record { counts = λ fs x. (evaluated fs x).0; rows = λ fs x. (evaluated fs x).1; ends = λ fs x. (evaluated fs x).2 }
