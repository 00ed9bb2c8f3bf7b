-- Verdicts: their numbers, and how one is read off.
use Rattle.std.specs.Prelude.{ℕ, Bool, cond}
use Rattle.theory.specs.Formulas.{Comparison}
use Rattle.theory.specs.Verdicts.{VerdictSets, fits, harder_end, easier_end}
use Rattle.trial.specs.declared.verdict.Verdict.{Verdict}
use Rattle.trial.specs.declared.verdict.Verdict.TheVariants.{No, Yes, Undecided}

-- the number of a verdict
abbrev pub verdict_number : Verdict → ℕ
verdict_number No = 0
verdict_number Yes = 1
verdict_number Undecided = 2

-- a sure state is a yes, a possible one that is not sure is undecided, any other is a no
abbrev pub verdict_by : Bool → Bool → Verdict
verdict_by sure possible = cond sure Yes (cond possible Undecided No)

-- the verdict on a state
abbrev pub verdict_at : VerdictSets → ℕ → Verdict
verdict_at v s = verdict_by (v.sure s) (v.possible s)

-- the verdict that is read off a lower and an upper end
abbrev pub read_verdict : Comparison → ℕ → ℕ → ℕ → Verdict
read_verdict c b lo hi = verdict_by (fits c (harder_end c lo hi) b) (fits c (easier_end c lo hi) b)
