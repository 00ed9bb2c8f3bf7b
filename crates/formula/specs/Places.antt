-- The first number of a text above its limit, and the first `P` that may not stand there, told by what the text spells.
use Rattle.std.specs.Prelude.{◌≡◌, ℕ, ◌+◌, ◌<◌, ◌≤◌, ◌⊎◌, List, ◌∷◌, ◌++◌, length, None}
use Rattle.theory.specs.Mixes.{whole}
use Rattle.theory.specs.Formulas.{Comparison, at_most, Formula, PathFormula, probability, until_within, until, extremal, most_steps}
use Rattle.grammar.specs.Words.{Stands}
use Rattle.grammar.specs.Spelling.{sign, print_bound, print, Spelled}

-- a probability stands in the text from p on: `P` (80), the comparison, the bound, and the path in brackets
pub record ProbabilityAt (text : List ℕ) (p : ℕ) (c : Comparison) (b : ℕ) (r : PathFormula) : Type 0 where
  pub spelled : Spelled (probability c b r)
  pub stands : Stands (print (probability c b r)) text p (p + length (print (probability c b r)))

-- the bound of a probability stands in the text from p on: behind its `P` and its comparison
pub record BoundAt (text : List ℕ) (p bound : ℕ) : Type 0 where
  pub from : ℕ
  pub comparison : Comparison
  pub path : PathFormula
  pub stands : ProbabilityAt text from comparison bound path
  pub place : p ≡ from + length (80 ∷ sign comparison)

-- the text of a probability over an until, up to the number of steps: `P` and its bound, `[` (91), the left part, `U<=`
abbrev pub before_steps : Comparison → ℕ → List ℕ → List ℕ
before_steps c b left = 80 ∷ (print_bound c b ++ (91 ∷ (left ++ (85 ∷ sign at_most))))

-- the steps of an until stand in the text from p on: behind the text before them of the probability over it
pub record StepsAt (text : List ℕ) (p steps : ℕ) : Type 0 where
  pub from : ℕ
  pub comparison : Comparison
  pub bound : ℕ
  pub left : Formula
  pub right : Formula
  pub stands : ProbabilityAt text from comparison bound (until_within steps left right)
  pub place : p ≡ from + length (before_steps comparison bound (print left))

-- a number above its own limit stands in the text from p on: a bound above the whole, or more steps than an until may have
abbrev pub LargeNumber : List ℕ → ℕ → Type 0
LargeNumber text p = ((b : ℕ) × BoundAt text p b × (whole < b)) ⊎ ((k : ℕ) × StepsAt text p k × (most_steps < k))

-- a probability over an until without steps stands in the text from p on, under none of the three bounds of such an until
pub record UnboundedUntil (text : List ℕ) (p : ℕ) : Type 0 where
  pub comparison : Comparison
  pub bound : ℕ
  pub left : Formula
  pub right : Formula
  pub stands : ProbabilityAt text p comparison bound (until left right)
  pub unbounded : extremal comparison bound ≡ None

-- p is the least place of which P holds
pub record FirstAt (P : ℕ → Type 0) (p : ℕ) : Type 0 where
  pub here : P p
  pub least : (q : ℕ) → P q → p ≤ q
