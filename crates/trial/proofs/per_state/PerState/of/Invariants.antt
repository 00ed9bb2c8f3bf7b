use Rattle.std.proofs.Common.{◌≡◌, ℕ, ◌<◌, length, get_or}
use Rattle.trial.proofs.per_state.PerState.of.Given as goal

-- the states so far have what f makes of their byte
abbrev pub invariant-loop-state : goal.invariant-loop-state
invariant-loop-state g l = record { long : length l.values ≡ 512; made : (d : g.row.T.Denot) (s : ℕ) → s < l.state → goal.F-post g l.f (get_or l.bytes s 0) (get_or l.values s d) }
