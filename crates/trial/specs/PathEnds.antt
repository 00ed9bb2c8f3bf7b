-- The two ends that the verdicts of a formula are read off, at each state.
use Rattle.std.specs.Prelude.{◌≡◌, ℕ, ◌<◌, cond, List, [], ◌∷◌, Some, None, Option, nat_lt, slice_index_or}
use Rattle.model.specs.Mdp.{Mdp}
use Rattle.theory.specs.Formulas.{Formula}
use Rattle.theory.specs.Found.{TwoEnds, ends_of}
use Rattle.rules.specs.declared.part.Part.{Part}
use Rattle.rules.specs.Parts.{part_of, units_of}
use Rattle.trial.specs.declared.two_ends.Ends.{Ends}

-- the ends of the last of several formulas
abbrev pub ends_of_last : Mdp → List Formula → Option TwoEnds
ends_of_last m [] = None
ends_of_last m (f ∷ []) = ends_of m f
ends_of_last m (f ∷ g ∷ fs) = ends_of_last m (g ∷ fs)

-- the ends of n states are these
pub record EndsAre (n : ℕ) (lo hi : ℕ → ℕ) (e : Ends) : Type 0 where
  pub so_many : e.states ≡ n
  pub lower : (d : Part) (s : ℕ) → s < n → units_of (slice_index_or e.lower.values s d) ≡ lo s
  pub upper : (d : Part) (s : ℕ) → s < n → units_of (slice_index_or e.upper.values s d) ≡ hi s

-- the ends that are told of n states are these, if there are any
abbrev pub Told : ℕ → Option TwoEnds → Option Ends → Type 0
Told n None None = Unit {0}
Told n None (Some e) = ⊥
Told n (Some x) None = ⊥
Told n (Some x) (Some e) = EndsAre n x.0 x.1 e

-- two ends agree on n states, or there are none
abbrev pub EndsAgree : ℕ → Option TwoEnds → Option TwoEnds → Type 0
EndsAgree n None None = Unit {0}
EndsAgree n None (Some y) = ⊥
EndsAgree n (Some x) None = ⊥
EndsAgree n (Some x) (Some y) = (s : ℕ) → s < n → (x.0 s ≡ y.0 s) × (x.1 s ≡ y.1 s)

-- the two ends at a state, if there is such a state
abbrev pub ends_at : ℕ → (ℕ → ℕ) → (ℕ → ℕ) → ℕ → Option (Part × Part)
ends_at n lo hi s = cond (nat_lt s n) (Some (part_of (lo s), part_of (hi s))) None
