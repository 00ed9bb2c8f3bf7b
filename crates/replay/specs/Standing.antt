-- The query that stands after some calls on a trial, told from the calls and their answers alone.
use Rattle.std.specs.Prelude.{◌≡◌, ℕ, List, ◌∷◌, ◌++◌, sum_by, All, Any, Some, None, Ok, Option}
use Rattle.trial.specs.declared.aim.Aim.{Aim}
use Rattle.trial.specs.Queries.{Query}
use Rattle.replay.specs.declared.call.Call.{Call}
use Rattle.replay.specs.declared.call.Call.TheVariants.{Start, Advance, Judge}

-- the call is an accepted start with these marks and this aim
abbrev pub Starts : Call → List ℕ → List ℕ → Aim → Type 0
Starts (Start left right aim (Some (Ok _))) l r a = (left.items ≡ l) × (right.items ≡ r) × (aim ≡ a)
Starts _ l r a = ⊥

-- the call is an accepted start
abbrev pub IsAcceptedStart : Call → Type 0
IsAcceptedStart c = (l r : List ℕ) × (a : Aim) × Starts c l r a

-- the call is an accepted judge
abbrev pub IsAcceptedJudge : Call → Type 0
IsAcceptedJudge (Judge text records scratch out (Some (Ok n))) = Unit {0}
IsAcceptedJudge _ = ⊥

-- the rounds that a call adds: the count of an accepted advance, and none for any other call
abbrev pub added : Call → ℕ
added (Advance count (Some (Ok _))) = count
added _ = 0

-- q was started by one of the calls, no call since was an accepted start or judge, and the accepted advances since make its rounds
pub record StandsSince (calls : List Call) (q : Query) : Type 0 where
  pub before : List Call
  pub start : Call
  pub since : List Call
  pub split : calls ≡ before ++ (start ∷ since)
  pub started : Starts start q.left q.right q.aim
  pub no_start : All (λ c. ¬ (IsAcceptedStart c)) since
  pub no_judge : All (λ c. ¬ (IsAcceptedJudge c)) since
  pub rounds : q.rounds ≡ sum_by added since

-- the query that stands after the calls: that of the last accepted start, with its rounds, unless a judge was accepted since;
-- none stands where an accepted judge followed each accepted start
abbrev pub Stands : List Call → Option Query → Type 0
Stands calls (Some q) = StandsSince calls q
Stands calls None = (before since : List Call) (start : Call) → calls ≡ before ++ (start ∷ since) → IsAcceptedStart start → Any IsAcceptedJudge since
