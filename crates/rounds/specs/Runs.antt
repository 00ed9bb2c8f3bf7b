-- What rounds leave in their two lists and answer, and what that means for all adversaries.
use Rattle.std.specs.Prelude.{◌≡◌, ℕ, zero, suc, ◌<◌, Bool, List, map, length, Some, None, Ok, Err, Result, slice_index_or}
use Rattle.std.specs.List.{range_with_len}
use Rattle.model.specs.Mdp.{Mdp}
use Rattle.theory.specs.Rounds.{rounds, Optimum}
use Rattle.rules.specs.Values.{told}
use Rattle.rounds.specs.declared.fault.RoundsFault.{RoundsFault}
use Rattle.rounds.specs.Refusals.{rounds_fault}

-- the values that f has of the states 0 to n - 1, in a list
abbrev pub listed : {V : Type 0} → ℕ → (ℕ → V) → List V
listed n f = map f (range_with_len 0 n)

module _ {V : Type 0} (preferred : V → V → Bool) (mix : ℕ → List (ℕ × V) → V) (m : Mdp) (values : List V) where
  -- the list of the values after k rounds from the given ones; with no round it is as it was
  abbrev pub values_after : V → ℕ → List V
  values_after d zero = values
  values_after d (suc k) = listed m.states (rounds preferred mix (suc k) m (told values d))

  -- the second list after k rounds: the values after one round less; with no round it is as it was
  abbrev pub spare_after : List V → V → ℕ → List V
  spare_after spare d zero = spare
  spare_after spare d (suc k) = values_after d k

module _ {V : Type 0} (m : Mdp) (k : ℕ) (values spare : List V) (values' spare' : List V) where
  -- k rounds are refused: both lists are as they were
  pub record Refused (e : RoundsFault) : Type 0 where
    pub asked : rounds_fault m.states (length values) (length spare) k ≡ Some e
    pub first : values' ≡ values
    pub second : spare' ≡ spare

module _ {V : Type 0} (preferred : V → V → Bool) (mix : ℕ → List (ℕ × V) → V) (m : Mdp) (k : ℕ) (values spare : List V) (values' spare' : List V) where
  -- k rounds are run: both lists are as defined, and at each state the first now holds the optimum over all adversaries with k steps
  -- d stands for a value past the end of a list, and is never read
  pub record RoundsRun : Type 0 where
    pub asked : rounds_fault m.states (length values) (length spare) k ≡ None
    pub first : (d : V) → values' ≡ values_after preferred mix m values d k
    pub second : (d : V) → spare' ≡ spare_after preferred mix m values spare d k
    pub optimal : (d : V) (s : ℕ) → s < m.states → Optimum preferred mix m (told values d) k s (slice_index_or values' s d)

  -- what the call answers and leaves
  abbrev pub Ran : Result (Unit {0}) RoundsFault → Type 0
  Ran (Ok _) = RoundsRun
  Ran (Err e) = Refused m k values spare values' spare' e
