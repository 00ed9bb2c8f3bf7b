-- What holding a state answers and leaves.
use Rattle.std.specs.Prelude.{◌≡◌, ℕ, ◌<◌, ◌≤◌, Bool, true, List, Ok, Err, Result, slice_set}
use Rattle.model.specs.Mdp.{Mdp}
use Rattle.layers.specs.declared.fault.HoldFault.{HoldFault}
use Rattle.layers.specs.declared.fault.HoldFault.TheVariants.{Held}
use Rattle.layers.specs.Holds.{held, held_model}

-- the number of the fault
abbrev pub fault_number : HoldFault → ℕ
fault_number Held = 43

-- the state s is held: it is a state of m, its flag is set, and the layer's model is the one before with s held
pub record StateHeld (m : Mdp) (s : ℕ) (before after : List Bool) : Type 0 where
  pub there : s < m.states
  pub flags : after ≡ slice_set before s true
  pub model : held_model m after ≡ held s (held_model m before)

-- the state s is refused: m has no such state, and nothing is changed
pub record Refused (m : Mdp) (s : ℕ) (before after : List Bool) (e : HoldFault) : Type 0 where
  pub past : m.states ≤ s
  pub flags : after ≡ before
  pub fault : e ≡ Held

-- what holding the state s of a layer over m answers, with the flags before and after
abbrev pub Ran : Mdp → ℕ → List Bool → List Bool → Result (Unit {0}) HoldFault → Type 0
Ran m s before after (Ok _) = StateHeld m s before after
Ran m s before after (Err e) = Refused m s before after e
