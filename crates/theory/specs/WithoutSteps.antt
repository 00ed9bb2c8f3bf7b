-- Chapter 7. Untils without steps: positive, never, certain, and the fixed points of marks that decide them.
use Rattle.std.specs.Prelude.{◌≡◌, ℕ, suc, ◌<◌, ◌≤◌, Bool, true, not, ◌↔◌}
use Rattle.model.specs.Mdp.{Mdp, Lawful}
use Rattle.theory.specs.Adversaries.{Adversary, Allowed}
use Rattle.theory.specs.Tallies.{tally, Sure}
use Rattle.theory.specs.Rounds.{rounds}
use Rattle.theory.specs.Mixes.{mix_marks, no_first, yes_first}
use Rattle.theory.specs.Ends.{held}

module _ (left right : ℕ → Bool) (m : Mdp) (s : ℕ) where
  -- for each adversary there is a number of steps with a tally above 0
  abbrev pub Positive : Type 0
  Positive = (σ : Adversary) → Allowed m σ → (k : ℕ) × (0 < tally left right k m σ s)

  -- every adversary has the tally 0 for every number of steps
  abbrev pub Never : Type 0
  Never = (σ : Adversary) → Allowed m σ → (k : ℕ) → tally left right k m σ s ≡ 0

  -- every adversary is sure
  abbrev pub Certain : Type 0
  Certain = (σ : Adversary) → Allowed m σ → Sure left right m σ s

-- the three bounds that an until without steps may have: more than 0, at most 0, at least the whole
pub data Extremal : Type 0 where
  over_none at_most_none at_least_whole : Extremal

-- what an until without steps says of a state, by its bound
abbrev pub WithoutSteps : Extremal → (ℕ → Bool) → (ℕ → Bool) → Mdp → ℕ → Type 0
WithoutSteps over_none left right m s = Positive left right m s
WithoutSteps at_most_none left right m s = Never left right m s
WithoutSteps at_least_whole left right m s = Certain left right m s

module _ (left right : ℕ → Bool) (m : Mdp) (from : ℕ → Bool) where
  -- the marks after k rounds over the held model with no preferred: marked where every choice has a marked target
  abbrev pub all_marks : ℕ → ℕ → Bool
  all_marks k = rounds no_first mix_marks k (held left right m) from

  -- the marks after k rounds with yes preferred: marked where some choice has a marked target
  abbrev pub some_marks : ℕ → ℕ → Bool
  some_marks k = rounds yes_first mix_marks k (held left right m) from

-- the states that k rounds with no preferred leave unmarked: there an adversary can keep the tally at 0 for k steps
abbrev pub unmarked : (ℕ → Bool) → (ℕ → Bool) → Mdp → ℕ → ℕ → Bool
unmarked left right m k s = not (all_marks left right m right k s)

-- the next round changes no mark
abbrev pub Settled : Mdp → (ℕ → ℕ → Bool) → ℕ → Type 0
Settled m marks k = (s : ℕ) → s < m.states → marks (suc k) s ≡ marks k s

-- the set that marks find in as many rounds as there are states
abbrev pub marked_set : Extremal → (ℕ → Bool) → (ℕ → Bool) → Mdp → ℕ → Bool
marked_set over_none left right m s = all_marks left right m right m.states s
marked_set at_most_none left right m s = not (some_marks left right m right m.states s)
marked_set at_least_whole left right m s = not (some_marks left right m (unmarked left right m m.states) m.states s)

-- the three rounds of marks are settled by then: no later round changes a mark
pub record MarksSettled (left right : ℕ → Bool) (m : Mdp) : Type 0 where
  pub all_settled : (k : ℕ) → m.states ≤ k → Settled m (all_marks left right m right) k
  pub some_settled : (k : ℕ) → m.states ≤ k → Settled m (some_marks left right m right) k
  pub unmarked_settled : (k : ℕ) → m.states ≤ k → Settled m (some_marks left right m (unmarked left right m m.states)) k

-- the theorem of marks: they settle within as many rounds as there are states, and then decide the untils without steps exactly
abbrev pub MarksDecide : Type 0
MarksDecide = (left right : ℕ → Bool) (m : Mdp) → Lawful m →
    MarksSettled left right m × ((o : Extremal) (s : ℕ) → s < m.states → (marked_set o left right m s ≡ true) ↔ WithoutSteps o left right m s)
