-- How many states have each verdict, and what comes of a formula.
use Rattle.std.specs.Prelude.{◌≡◌, ℕ, ◌<◌, Bool, true, false, cond, List, ◌++◌, count_by, codes, decimal, ◌==◌, nat_lt}
use Rattle.model.specs.Mdp.{Mdp}
use Rattle.theory.specs.Formulas.{Formula, Holds}
use Rattle.theory.specs.Distances.{Undecided as UndecidedAt}
use Rattle.theory.specs.Found.{verdicts}
use Rattle.limits_text.specs.declared.outcome.Counts.{Counts}
use Rattle.limits_text.specs.declared.outcome.Outcome.{Outcome}
use Rattle.limits_text.specs.declared.outcome.Outcome.TheVariants as outcome

-- how many states of a row are a yes (1), a no (0) and undecided (2)
abbrev pub counts_of : List ℕ → Counts
counts_of row = record { yes = count_by (λ b. b == 1) row; no = count_by (λ b. b == 0) row; undecided = count_by (λ b. b == 2) row }

-- counts in words, as a line under a table
abbrev pub counts_text : Counts → List ℕ
counts_text c = codes "  yes " ++ (decimal c.yes ++ (codes ", no " ++ (decimal c.no ++ (codes ", undecided " ++ (decimal c.undecided ++ codes "\n")))))

-- what comes of a formula with these counts: it fails if some state is a no, else it is undecided if some state is, else it holds
abbrev pub outcome_of : Counts → Outcome
outcome_of c = cond (nat_lt 0 c.no) outcome.Fails (cond (nat_lt 0 c.undecided) outcome.Undecided outcome.Holds)

-- are two outcomes the same?
abbrev pub same_outcome : Outcome → Outcome → Bool
same_outcome outcome.Holds outcome.Holds = true
same_outcome outcome.Fails outcome.Fails = true
same_outcome outcome.Undecided outcome.Undecided = true
same_outcome outcome.Refused outcome.Refused = true
same_outcome x y = false

-- what the outcome of a judged formula means: it holds at every state, fails at some state, or is undecided at some state and at none a no
abbrev pub OutcomeMeans : Mdp → Formula → Outcome → Type 0
OutcomeMeans m f outcome.Holds = (s : ℕ) → s < m.states → Holds m f s
OutcomeMeans m f outcome.Fails = (s : ℕ) × (s < m.states) × ¬ (Holds m f s)
OutcomeMeans m f outcome.Undecided = ((s : ℕ) × (s < m.states) × UndecidedAt (verdicts m f) s) × ((s : ℕ) → s < m.states → (verdicts m f).possible s ≡ true)
OutcomeMeans m f outcome.Refused = ⊥
