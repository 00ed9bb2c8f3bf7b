-- What the readers find of the parts of a formula's text that are no formulas: bytes, comparisons, numbers, bounds and steps.
use Rattle.std.specs.Prelude.{◌≡◌, ℕ, ◌+◌, ◌<◌, ◌≤◌, Bool, ◌&&◌, List, [], ◌∷◌, length, Some, None, Ok, Err, decimal, Option, Result, IfSome, ◌==◌, nat_lt, slice_index}
use Rattle.theory.specs.Formulas.{Comparison, below, at_most, above, at_least}
use Rattle.records.specs.declared.comparison.Comparison.{Comparison as Code}
use Rattle.records.specs.declared.comparison.Comparison.TheVariants.{Below, AtMost, Above, AtLeast}
use Rattle.formula.specs.declared.token.Number.{Number}
use Rattle.formula.specs.declared.token.Bound.{Bound}
use Rattle.formula.specs.declared.token.Steps.{Steps}
use Rattle.grammar.specs.Words.{Stands, Read, Refused}
use Rattle.grammar.specs.Spelling.{sign, print_bound, FewDigits}
use Rattle.grammar.specs.Languages.{Only, Just, SignWord, NumberWord, BoundWord, print_steps, FewSteps, StepsWord}

-- the comparison that the code's own stands for
abbrev pub meant : Code → Comparison
meant Below = below
meant AtMost = at_most
meant Above = above
meant AtLeast = at_least

-- does this byte stand at this place of the text?
abbrev pub has : List ℕ → ℕ → ℕ → Bool
has text at byte = nat_lt at (length text) && slice_index text at == byte

-- what reading one byte answers: the place after it, or that it does not stand there
abbrev pub JustReads : ℕ → List ℕ → ℕ → Result ℕ ℕ → Type 0
JustReads c text at (Ok e) = Read (Just c) (c ∷ []) text at e
JustReads c text at (Err p) = Refused (Just c) text at p

-- what reading a word answers: the place after it, or where it breaks off
abbrev pub WordReads : List ℕ → List ℕ → ℕ → Result ℕ ℕ → Type 0
WordReads word text at (Ok e) = Stands word text at e
WordReads word text at (Err p) = Refused (Only word) text at p

-- what reading a comparison answers: the comparison and the place after it
abbrev pub SignReads : List ℕ → ℕ → Result (Code × ℕ) ℕ → Type 0
SignReads text at (Ok r) = Read SignWord (sign (meant r.0)) text at r.1
SignReads text at (Err p) = Refused SignWord text at p

-- what reading a number answers: the number, which begins where it is read, and the place after it
abbrev pub NumberReads : List ℕ → ℕ → Result (Number × ℕ) ℕ → Type 0
NumberReads text at (Ok r) = FewDigits r.0.value × (r.0.place ≡ at) × Read NumberWord (decimal r.0.value) text at r.1
NumberReads text at (Err p) = Refused NumberWord text at p

-- a comparison and its bound that were read, with the place after it
pub record BoundRead (text : List ℕ) (at : ℕ) (b : Bound) : Type 0 where
  pub few : FewDigits b.number.value
  pub read : Read BoundWord (print_bound (meant b.comparison) b.number.value) text at b.end
  pub place : b.number.place ≡ at + length (sign (meant b.comparison))
  pub ahead : at < b.end
  pub within : b.end ≤ length text

-- what reading a comparison with its bound answers
abbrev pub BoundReads : List ℕ → ℕ → Result Bound ℕ → Type 0
BoundReads text at (Ok b) = BoundRead text at b
BoundReads text at (Err p) = Refused BoundWord text at p

-- the number of steps, if there are any
abbrev pub steps_of : Option Number → Option ℕ
steps_of None = None
steps_of (Some n) = Some n.value

-- the steps that were read, if any, and the place after them
pub record StepsRead (text : List ℕ) (at : ℕ) (s : Steps) : Type 0 where
  pub few : FewSteps (steps_of s.limit)
  pub read : Read StepsWord (print_steps (steps_of s.limit)) text at s.end
  pub place : IfSome s.limit (λ n. n.place ≡ at + length (sign at_most))
  pub ahead : at ≤ s.end
  pub within : s.end ≤ length text

-- what reading the steps of an until answers
abbrev pub StepsReads : List ℕ → ℕ → Result Steps ℕ → Type 0
StepsReads text at (Ok s) = StepsRead text at s
StepsReads text at (Err p) = Refused StepsWord text at p
