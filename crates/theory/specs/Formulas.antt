-- Chapter 8. Formulas and their meaning: what a formula says of a state, over all adversaries.
use Rattle.std.specs.Prelude.{◌≡◌, ℕ, ◌*◌, ◌^◌, ◌<◌, ◌≤◌, Bool, true, false, cond, ◌↔◌, Some, None, Option, ◌==◌, slice_index_or}
use Rattle.model.specs.Mdp.{Mdp, Lawful}
use Rattle.theory.specs.Adversaries.{Adversary, Allowed}
use Rattle.theory.specs.Tallies.{tally, next_tally}
use Rattle.theory.specs.Mixes.{whole}
use Rattle.theory.specs.WithoutSteps.{Extremal, over_none, at_most_none, at_least_whole, WithoutSteps}

-- the four comparisons with a bound: `<`, `<=`, `>`, `>=`
pub data Comparison : Type 0 where
  below at_most above at_least : Comparison

-- the two kinds of formulas are made of each other; a label is told by its letter's number, a bound in units
mutual
  pub data Formula : Type 0 where
    truth : Formula
    label : ℕ → Formula
    negation : Formula → Formula
    conjunction : Formula → Formula → Formula
    probability : Comparison → ℕ → PathFormula → Formula

  -- path formulas: next, until with steps, until without
  pub data PathFormula : Type 0 where
    next : Formula → PathFormula
    until_within : ℕ → Formula → Formula → PathFormula
    until : Formula → Formula → PathFormula

-- which of its three bounds an until without steps stands under, if it does
abbrev pub extremal : Comparison → ℕ → Option Extremal
extremal below b = None
extremal at_most b = cond (b == 0) (Some at_most_none) None
extremal above b = cond (b == 0) (Some over_none) None
extremal at_least b = cond (b == whole) (Some at_least_whole) None

-- an until may have at most so many steps
abbrev pub most_steps : ℕ
most_steps = 10000

-- a lawful formula: letters a to p, bounds up to the whole, steps up to the limit, and each until without steps under one of its three bounds
abbrev mutual
  pub LawfulFormula : Formula → Type 0
  LawfulFormula truth = Unit {0}
  LawfulFormula (label i) = i < 16
  LawfulFormula (negation f) = LawfulFormula f
  LawfulFormula (conjunction f g) = LawfulFormula f × LawfulFormula g
  LawfulFormula (probability c b p) = (b ≤ whole) × LawfulPath c b p

  -- a lawful path formula under this comparison and bound
  pub LawfulPath : Comparison → ℕ → PathFormula → Type 0
  LawfulPath c b (next f) = LawfulFormula f
  LawfulPath c b (until_within k f g) = (k ≤ most_steps) × LawfulFormula f × LawfulFormula g
  LawfulPath c b (until f g) = ((o : Extremal) × (extremal c b ≡ Some o)) × LawfulFormula f × LawfulFormula g

-- x compares with y as the comparison says
abbrev pub Fits : Comparison → ℕ → ℕ → Type 0
Fits below x y = x < y
Fits at_most x y = x ≤ y
Fits above x y = y < x
Fits at_least x y = y ≤ x

-- a Boolean set is the set of the states of which P holds
abbrev pub SetOf : Mdp → (ℕ → Type 0) → (ℕ → Bool) → Type 0
SetOf m P set = (s : ℕ) → s < m.states → (set s ≡ true) ↔ P s

-- what an until without steps says under the bound it stands under; under any other bound it says nothing that holds
abbrev pub Under : Option Extremal → (ℕ → Bool) → (ℕ → Bool) → Mdp → ℕ → Type 0
Under None left right m s = ⊥
Under (Some o) left right m s = WithoutSteps o left right m s

-- does the state s have letter number i?
abbrev pub has_label : Mdp → ℕ → ℕ → Bool
has_label m i s = slice_index_or (m.labels s) i false

-- the meaning of a formula at a state: a probability is compared for every allowed adversary, over the sets of the parts
-- a tally t out of D ^ k fits the bound b if t / D ^ k compares with b / whole, told without division
abbrev mutual
  pub Holds : Mdp → Formula → ℕ → Type 0
  Holds m truth s = Unit {0}
  Holds m (label i) s = has_label m i s ≡ true
  Holds m (negation f) s = ¬ (Holds m f s)
  Holds m (conjunction f g) s = Holds m f s × Holds m g s
  Holds m (probability c b p) s = PathHolds m c b p s

  -- a path formula compares so with its bound, for every allowed adversary
  pub PathHolds : Mdp → Comparison → ℕ → PathFormula → ℕ → Type 0
  PathHolds m c b (next f) s = (set : ℕ → Bool) → SetOf m (Holds m f) set →
      (σ : Adversary) → Allowed m σ → Fits c (next_tally set m σ s * whole) (b * m.denominator ^ 1)
  PathHolds m c b (until_within k f g) s = (left right : ℕ → Bool) → SetOf m (Holds m f) left → SetOf m (Holds m g) right →
      (σ : Adversary) → Allowed m σ → Fits c (tally left right k m σ s * whole) (b * m.denominator ^ k)
  PathHolds m c b (until f g) s = (left right : ℕ → Bool) → SetOf m (Holds m f) left → SetOf m (Holds m g) right →
      Under (extremal c b) left right m s

-- a formula has exactly one set of states, so that what is said of each of its sets is said of one
abbrev pub HasOneSet : Mdp → Formula → Type 0
HasOneSet m f = (set : ℕ → Bool) × SetOf m (Holds m f) set ×
    ((other : ℕ → Bool) → SetOf m (Holds m f) other → (s : ℕ) → s < m.states → other s ≡ set s)

-- the theorem of meaning: every formula has exactly one, so that no quantifier over the sets of a part is empty
abbrev pub OneSet : Type 0
OneSet = (m : Mdp) → Lawful m → (f : Formula) → HasOneSet m f
