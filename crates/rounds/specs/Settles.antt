-- The fixed point of marks: rounds of marks until a round changes no mark.
use Rattle.std.specs.Prelude.{◌≡◌, ℕ, suc, ◌<◌, ◌≤◌, Bool, true, false, List, length, Some, None, Ok, Err, Option, Result}
use Rattle.model.specs.Mdp.{Mdp}
use Rattle.theory.specs.Rounds.{rounds}
use Rattle.theory.specs.Mixes.{mix_marks}
use Rattle.theory.specs.WithoutSteps.{Settled}
use Rattle.rules.specs.declared.preference.Preference.{Preference}
use Rattle.rules.specs.Marks.{prefers_mark}
use Rattle.rules.specs.Values.{told}
use Rattle.rounds.specs.declared.fault.RoundsFault.{RoundsFault}
use Rattle.rounds.specs.Refusals.{lengths_fault}
use Rattle.rounds.specs.Runs.{listed}

module _ (p : Preference) (m : Mdp) (marks : List Bool) where
  -- the marks after k rounds from the given ones
  abbrev pub marks_after : ℕ → ℕ → Bool
  marks_after k = rounds (prefers_mark p) mix_marks k m (told marks false)

  -- round `suc i` is the first that changes no mark: the marks after i rounds stay for good, so they are those after as many rounds as there are states
  pub record FirstUnchanged (i : ℕ) : Type 0 where
    pub unchanged : Settled m marks_after i
    pub earlier : (j : ℕ) → j < i → ¬ (Settled m marks_after j)
    pub within_states : i ≤ m.states
    pub for_good : (k : ℕ) → i ≤ k → (s : ℕ) → s < m.states → marks_after k s ≡ marks_after i s

  -- the first round takes no mark away
  abbrev pub TakesNone : Type 0
  TakesNone = (s : ℕ) → s < m.states → marks_after 0 s ≡ true → marks_after 1 s ≡ true

  -- the first round adds no mark
  abbrev pub AddsNone : Type 0
  AddsNone = (s : ℕ) → s < m.states → marks_after 1 s ≡ true → marks_after 0 s ≡ true

module _ (p : Preference) (m : Mdp) (marks spare marks' spare' : List Bool) where
  -- such a round came, as round j: both lists hold the marks after as many rounds as there are states
  pub record SettledAt (j : ℕ) : Type 0 where
    pub asked : lengths_fault m.states (length marks) (length spare) ≡ None
    pub before : ℕ
    pub reached : j ≡ suc before
    pub first_unchanged : FirstUnchanged p m marks before
    pub first : marks' ≡ listed m.states (marks_after p m marks m.states)
    pub second : spare' ≡ marks'

  -- none came within one round more than there are states, and the lists hold the marks after that many rounds and after one less
  -- this is never so if the first round takes no mark away, or adds none
  pub record Unsettled : Type 0 where
    pub asked : lengths_fault m.states (length marks) (length spare) ≡ None
    pub changing : (i : ℕ) → i ≤ m.states → ¬ (Settled m (marks_after p m marks) i)
    pub some_taken : ¬ (TakesNone p m marks)
    pub some_added : ¬ (AddsNone p m marks)
    pub first : marks' ≡ listed m.states (marks_after p m marks (suc m.states))
    pub second : spare' ≡ listed m.states (marks_after p m marks m.states)

  -- it is refused: both lists are as they were
  pub record SettleRefused (e : RoundsFault) : Type 0 where
    pub asked : lengths_fault m.states (length marks) (length spare) ≡ Some e
    pub first : marks' ≡ marks
    pub second : spare' ≡ spare

  -- what the call answers and leaves
  abbrev pub Settling : Result (Option ℕ) RoundsFault → Type 0
  Settling (Ok (Some j)) = SettledAt j
  Settling (Ok None) = Unsettled
  Settling (Err e) = SettleRefused e
