-- What rounds give by a backup: a function that gives the better of two values, and a mix.
use Rattle.std.specs.Prelude.{◌≡◌, ℕ, zero, suc, Bool, cond, List, [], ◌∷◌, map, length, None, Ok, Err, Result}
use Rattle.std.specs.List.{fold}
use Rattle.model.specs.Mdp.{Mdp}
use Rattle.theory.specs.Rounds.{mixed}
use Rattle.rules.specs.Values.{told}
use Rattle.rounds.specs.declared.fault.RoundsFault.{RoundsFault}
use Rattle.rounds.specs.Refusals.{rounds_fault}
use Rattle.rounds.specs.Runs.{listed, Refused}

-- the better of two values by a preference: the first of equals
abbrev pub better_by : {V : Type 0} → (V → V → Bool) → V → V → V
better_by preferred x y = cond (preferred x y) x y

module _ {V : Type 0} (better : V → V → V) where
  -- the best of a list, compared one after the other, and d for the empty one
  abbrev pub best_of : V → List V → V
  best_of d [] = d
  best_of d (x ∷ xs) = fold better x xs

module _ {V : Type 0} (better : V → V → V) (mix : ℕ → List (ℕ × V) → V) (m : Mdp) where
  -- in a round each state gets the best mix among its choices
  abbrev pub backed_up : (ℕ → V) → ℕ → V
  backed_up v s = best_of better (v s) (map (mixed mix m v) (m.choices s))

  -- the list of the values after k rounds
  abbrev pub values_by : V → ℕ → List V → List V
  values_by d zero values = values
  values_by d (suc k) values = listed m.states (backed_up (told (values_by d k values) d))

  -- the second list after k rounds: the values after one round less; with no round it is as it was
  abbrev pub spare_by : V → ℕ → List V → List V → List V
  spare_by d zero values spare = spare
  spare_by d (suc k) values spare = values_by d k values

module _ {V : Type 0} (better : V → V → V) (mix : ℕ → List (ℕ × V) → V) (m : Mdp) (k : ℕ) (values spare values' spare' : List V) where
  -- k rounds are made: both lists are as defined
  -- d stands for a value past the end of a list, and is never read
  pub record BackupsRun : Type 0 where
    pub asked : rounds_fault m.states (length values) (length spare) k ≡ None
    pub first : (d : V) → values' ≡ values_by better mix m d k values
    pub second : (d : V) → spare' ≡ spare_by better mix m d k values spare

  -- what making them answers and leaves
  abbrev pub BackupsRan : Result (Unit {0}) RoundsFault → Type 0
  BackupsRan (Ok _) = BackupsRun
  BackupsRan (Err e) = Refused m k values spare values' spare' e
