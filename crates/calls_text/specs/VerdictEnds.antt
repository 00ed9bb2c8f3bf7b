-- The ends that the verdicts of played calls were read off.
use Rattle.std.specs.Prelude.{◌≡◌, ℕ, ◌+◌, List, Some, Ok, slice_get}
use Rattle.model.specs.Mdp.{Mdp}
use Rattle.rules.specs.declared.part.Part.{Part}
use Rattle.rules.specs.Parts.{units_of}
use Rattle.records.specs.declared.comparison.Comparison.{Comparison}
use Rattle.formula.specs.Tokens.{meant}
use Rattle.trial.specs.declared.verdict.Verdict.{Verdict}
use Rattle.trial.specs.VerdictBytes.{read_verdict}
use Rattle.replay.specs.declared.call.Call.{Call}
use Rattle.replay.specs.declared.call.Call.TheVariants as call
use Rattle.replay.specs.Replays.{Replayed}
use Rattle.calls_text.specs.declared.script.Script.{Script}

-- just before call i stand the ends of the state s, and the verdict v on how s compares with the bound b is read off their answer
pub record ReadOff (calls : List Call) (i s : ℕ) (c : Comparison) (b : ℕ) (v : Verdict) : Type 0 where
  pub place : ℕ
  pub before : i ≡ place + 1
  pub ends : Part × Part × ℕ
  pub answered : slice_get calls place ≡ Some (call.Ends s (Some (Ok ends)))
  pub read : v ≡ read_verdict (meant c) b (units_of ends.0) (units_of ends.1)

-- each verdict that was answered is read off the ends just before it
abbrev pub VerdictsReadOff : List Call → Type 0
VerdictsReadOff calls = (i s b : ℕ) (c : Comparison) (v : Verdict) → slice_get calls i ≡ Some (call.Verdict s c b (Some (Ok v))) → ReadOff calls i s c b v

-- so it is wherever the calls of a script are replayed
abbrev pub ReplaysReadOff : Script → Type 0
ReplaysReadOff script = (m : Mdp) (after : List Call) → Replayed m script.calls.items after → VerdictsReadOff after
