-- The languages of a formula's text: bytes, comparisons, numbers, bounds, steps, state formulas and path formulas.
use Rattle.std.specs.Prelude.{◌≡◌, ℕ, ◌<◌, List, [], ◌∷◌, Some, None, decimal, Option}
use Rattle.theory.specs.Formulas.{Comparison, at_most, Formula, truth, label, negation, conjunction, probability}
use Rattle.grammar.specs.Words.{Language, Words}
use Rattle.grammar.specs.Spelling.{sign, print_bound, print, print_path, FewDigits, Spelled, SpelledPath}

-- one text alone
abbrev pub Only : List ℕ → Language
Only text w = w ≡ text

-- the text of one byte
abbrev pub Just : ℕ → Language
Just c = Only (c ∷ [])

-- the texts of comparisons
abbrev pub SignWord : Language
SignWord = Words (λ (c : Comparison). Unit {0}) sign

-- the texts of numbers
abbrev pub NumberWord : Language
NumberWord = Words FewDigits decimal

-- the texts of comparisons with their bounds
abbrev pub BoundWord : Language
BoundWord = Words {A = Comparison × ℕ} (λ b. FewDigits b.1) (λ b. print_bound b.0 b.1)

-- what stands between `U` and the right part of an until: nothing, or `<=` and the steps
abbrev pub print_steps : Option ℕ → List ℕ
print_steps None = []
print_steps (Some k) = print_bound at_most k

-- steps of at most ten digits
abbrev pub FewSteps : Option ℕ → Type 0
FewSteps None = Unit {0}
FewSteps (Some k) = FewDigits k

-- the texts of steps
abbrev pub StepsWord : Language
StepsWord = Words FewSteps print_steps

-- the text `true`
abbrev pub TrueWord : Language
TrueWord = Only (print truth)

-- a formula with no parts
abbrev pub Atomic : Formula → Type 0
Atomic truth = Unit {0}
Atomic (label i) = i < 16
Atomic (negation f) = ⊥
Atomic (conjunction f g) = ⊥
Atomic (probability c b p) = ⊥

-- `true` or a letter
abbrev pub AtomWord : Language
AtomWord = Words Atomic print

-- the texts of state formulas
abbrev pub StateWord : Language
StateWord = Words Spelled print

-- the texts of path formulas
abbrev pub PathWord : Language
PathWord = Words SpelledPath print_path
