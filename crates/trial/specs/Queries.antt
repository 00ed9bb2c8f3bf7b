-- A query: its marks, what it asks for, and how many rounds it has had; its ends, and what they mean for all adversaries.
use Rattle.std.specs.Prelude.{ℕ, ◌^◌, Bool, List, ◌==◌, slice_index}
use Rattle.model.specs.Mdp.{Mdp}
use Rattle.theory.specs.Adversaries.{Adversary}
use Rattle.theory.specs.Tallies.{tally}
use Rattle.theory.specs.Ends.{lower, upper, BestEnds, WorstEnds}
use Rattle.rules.specs.Parts.{prefers_number}
use Rattle.trial.specs.declared.aim.Aim.{Aim}
use Rattle.trial.specs.declared.aim.Aim.TheVariants.{Best, Worst}
use Rattle.trial.specs.Aims.{preference_of}

-- the set of the states whose byte is 1
abbrev pub marked : List ℕ → ℕ → Bool
marked bytes s = slice_index bytes s == 1

-- a query for "left until right" with as many steps as it has had rounds
pub record Query : Type 0 where
  pub left : List ℕ
  pub right : List ℕ
  pub aim : Aim
  pub rounds : ℕ

-- its lower end at a state
abbrev pub lower_end : Mdp → Query → ℕ → ℕ
lower_end m q s = lower (prefers_number (preference_of q.aim)) (marked q.left) (marked q.right) q.rounds m s

-- its upper end at a state
abbrev pub upper_end : Mdp → Query → ℕ → ℕ
upper_end m q s = upper (prefers_number (preference_of q.aim)) (marked q.left) (marked q.right) q.rounds m s

-- what an adversary's paths of as many steps as it has had rounds weigh, of those from a state that meet its until
abbrev pub query_tally : Mdp → Query → ℕ → Adversary → ℕ
query_tally m q s σ = tally (marked q.left) (marked q.right) q.rounds m σ s

-- lo and hi, in units, are ends of the query at a state by an aim: they bound the tallies of all adversaries, and they differ by
-- at most as many units as the query has had rounds
abbrev pub EndsFor : Aim → Mdp → Query → ℕ → ℕ → ℕ → Type 0
EndsFor Best m q s lo hi = BestEnds q.rounds m (query_tally m q s) (m.denominator ^ q.rounds) lo hi
EndsFor Worst m q s lo hi = WorstEnds q.rounds m (query_tally m q s) (m.denominator ^ q.rounds) lo hi

-- lo and hi are ends of the query at a state, by its own aim
abbrev pub EndsOf : Mdp → Query → ℕ → ℕ → ℕ → Type 0
EndsOf m q s lo hi = EndsFor q.aim m q s lo hi
