use Rattle.std.proofs.Common.{refl, Err, subst}
use Rattle.std.proofs.lemmas.Result.{err_from_is_err_and}
use Rattle.formula.specs.Answers.{JudgeAnswer}
use Rattle.formula.specs.Readings.{StateReads}
use Rattle.formula.proofs.Whole.{is_read, filled, refusal_keeps}
use Rattle.formula.proofs.reader.read_formula.Goals as goal

pub returns-in_err-count : goal.returns-in_err-count
returns-in_err-count c =
    let p = err_from_is_err_and c.from_residual.result c.from_residual.ensures.1 in
    let (left, s) = c.in_err-count.ensures c.args.records.now refl in
    rw (p.1, p.2) (subst (λ x. JudgeAnswer c.args.text.now c.args.records.now x (Err c.in_err-count.field-0.0)) (refusal_keeps _ _ left c.in_err-count.field-0.0 s) s)

-- the text spells a formula, so it is read again
pub unwrap-requires : goal.unwrap-requires
unwrap-requires c =
    let s = (c.in_ok-count.ensures c.args.records.now refl).1.1 in
    is_read _ _ c.state_formula.result c.state_formula.ensures (s.formula, s.spelled, s.spells)

pub returns : goal.returns
returns c =
    let (left, s) = c.in_ok-count.ensures c.args.records.now refl in
    (s.0, filled s.1 (subst (StateReads c.args.text.now 0 0 c.args.records.now c.state_formula.new.records) c.unwrap.ensures c.state_formula.ensures))
