use Rattle.std.proofs.Common.{[], List}
use Rattle.theory.specs.Formulas.{Formula}
use Rattle.trial.specs.Evaluation.{Chained}
use Rattle.trial.proofs.Evaluation.{Evaluated}
use Rattle.trial.proofs.judge.evaluate.Given as goal

-- the records so far are evaluated
abbrev pub invariant-loop-number : goal.invariant-loop-number
invariant-loop-number g l =
    let m = g.S.Source.model l.source in
    (fs : List Formula) → Chained m [] fs l.fn.records → Evaluated m fs l.fn.records l.number l.records l.scratch l.ends
