use Rattle.std.proofs.Common.{◌≡◌, ℕ, ◌<◌, get_or}
use Rattle.trial.specs.declared.verdict.Verdict.{Verdict}
use Rattle.trial.specs.VerdictBytes.{verdict_number}
use Rattle.trial.proofs.rows.write_row.Given as goal

-- the states so far have the byte of their verdict
abbrev pub invariant-loop-state : goal.invariant-loop-state
invariant-loop-state g l = (s : ℕ) → s < l.state → (v : Verdict) × goal.F-post g l.verdict s v × (get_or l.row s 0 ≡ verdict_number v)
