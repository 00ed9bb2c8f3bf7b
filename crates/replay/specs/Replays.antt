-- What the replay of a list of calls promises.
use Rattle.std.specs.Prelude.{◌≡◌, ℕ, ◌<◌, ◌≤◌, List, length, take, slice_get, Some, Option, IfSome, IfOk}
use Rattle.model.specs.Mdp.{Mdp}
use Rattle.theory.specs.Mixes.{whole}
use Rattle.trial.specs.Queries.{Query, lower_end, upper_end, EndsOf}
use Rattle.trial.specs.Answers.{answer, start_fault, advance_fault, ends_answer, verdict_answer}
use Rattle.trial.specs.Judging.{lent, JudgeResult}
use Rattle.trial.specs.Meanings.{EndsMean, VerdictMeans, JudgeMeans}
use Rattle.replay.specs.declared.call.Call.{Call}
use Rattle.replay.specs.declared.call.Call.TheVariants.{Start, Advance, Ends, Verdict, Judge}
use Rattle.replay.specs.Standing.{Stands}

-- what a call is after it was made where the query o stood, or none: it has its answer, and all else of it is as it was, but for the
-- buffers of a judge, which are left as judging leaves them
abbrev pub Played : Mdp → Option Query → Call → Call → Type 0
Played m o (Start left right aim a) after = after ≡ Start left right aim (Some (answer (start_fault m.states left.items right.items)))
Played m o (Advance count a) after = after ≡ Advance count (Some (answer (advance_fault o count)))
Played m o (Ends state a) after = after ≡ Ends state (Some (ends_answer m o state))
Played m o (Verdict state comparison bound a) after = after ≡ Verdict state comparison bound (Some (verdict_answer m o state comparison bound))
Played m o (Judge text records scratch out a) (Judge text' records' scratch' out' (Some r)) = (text' ≡ text) ×
    JudgeResult m text.items (lent records.items scratch.items out.items) (lent records'.items scratch'.items out'.items) r
Played m o (Judge text records scratch out a) after = ⊥

-- what the answer of a call means, unless it is a refusal: the ends bound all adversaries, the verdict is right for all of them, and
-- each byte that a judge left in a row means what it says
abbrev pub Means : Mdp → Option Query → Call → Type 0
Means m o (Ends state a) = IfSome a (λ r. IfOk r (EndsMean m o state))
Means m o (Verdict state comparison bound a) =
    IfSome a (λ r. IfOk r (VerdictMeans m o state comparison bound))
Means m o (Judge text records scratch out a) =
    IfSome a (λ r. IfOk r (JudgeMeans m text.items (lent records.items scratch.items out.items)))
Means m o c = Unit {0}

-- the pair of a query at a state: both ends are parts of the whole, and they bound all adversaries
pub record Pair (m : Mdp) (q : Query) (s : ℕ) : Type 0 where
  pub lower_within : lower_end m q s ≤ whole
  pub upper_within : upper_end m q s ≤ whole
  pub bounds : EndsOf m q s (lower_end m q s) (upper_end m q s)

-- exactly one query stands after the calls, or none does
pub record OneStands (calls : List Call) : Type 0 where
  pub query : Option Query
  pub stands : Stands calls query
  pub only : (other : Option Query) → Stands calls other → other ≡ query

-- the calls before were played in turn, from no query on, over a source of the model m, and are now those after: there are as many;
-- at each point one query stands or none; each call was made where that stood, and its answer means what it says; and at each point
-- the pair of the query that stands bounds all adversaries at every state
pub record Replayed (m : Mdp) (before after : List Call) : Type 0 where
  pub number : length after ≡ length before
  pub one_query : (i : ℕ) → i ≤ length after → OneStands (take i after)
  pub played : (i : ℕ) (o : Option Query) → Stands (take i after) o → (c d : Call) → slice_get before i ≡ Some c → slice_get after i ≡ Some d → Played m o c d
  pub meant : (i : ℕ) (o : Option Query) → Stands (take i after) o → (d : Call) → slice_get after i ≡ Some d → Means m o d
  pub pairs : (i : ℕ) (q : Query) → Stands (take i after) (Some q) → (s : ℕ) → s < m.states → Pair m q s
