use Rattle.std.proofs.Common.{◌≡◌, ℕ, suc, ◌+◌, ◌-◌, ◌<◌, ◌≤◌}
use Rattle.theory.specs.WithoutSteps.{Settled}
use Rattle.rounds.specs.Runs.{listed}
use Rattle.rounds.specs.Settles.{marks_after}
use Rattle.rounds.proofs.settle.settle.Given as goal

-- both lists are those after the rounds that are done, and each of these rounds changed a mark
abbrev pub invariant-loop-done : goal.invariant-loop-done
invariant-loop-done g l =
    let m = g.S.Source.model l.source in
    let after = marks_after l.rule.preference m l.initial.marks in
    (l.marks ≡ listed m.states (after l.done))
    × ((k : ℕ) → l.done ≡ suc k → l.spare ≡ listed m.states (after k))
    × ((j : ℕ) → j < l.done → ¬ (Settled m after j))
    × (l.done ≤ l.states + 1)

abbrev pub decreases-loop-done : goal.decreases-loop-done
decreases-loop-done g l = l.states + 2 - l.done
