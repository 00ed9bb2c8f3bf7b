-- The number of each fault, its place in the text, and what its refusal begins with.
use Rattle.std.specs.Prelude.{ℕ, List, ◌++◌, codes, decimal}
use Rattle.records.specs.declared.fault.FormulaFault.{FormulaFault}
use Rattle.records.specs.declared.fault.FormulaFault.TheVariants.{NoFormula, Number, Depth, Records, Until}
use Rattle.records.specs.declared.fault.JudgeFault.{JudgeFault}
use Rattle.records.specs.declared.fault.JudgeFault.TheVariants.{Length, Formula, Scratch, Out}

-- the number of a formula's fault
abbrev pub formula_fault_number : FormulaFault → ℕ
formula_fault_number (NoFormula place) = 21
formula_fault_number (Number place) = 22
formula_fault_number Depth = 23
formula_fault_number Records = 24
formula_fault_number (Until place) = 25

-- the place of a formula's fault, 0 for one of the whole
abbrev pub formula_fault_place : FormulaFault → ℕ
formula_fault_place (NoFormula place) = place
formula_fault_place (Number place) = place
formula_fault_place Depth = 0
formula_fault_place Records = 0
formula_fault_place (Until place) = place

-- the number of a judge's fault
abbrev pub judge_fault_number : JudgeFault → ℕ
judge_fault_number Length = 20
judge_fault_number (Formula fault) = formula_fault_number fault
judge_fault_number Scratch = 26
judge_fault_number Out = 27

-- the place of a judge's fault
abbrev pub judge_fault_place : JudgeFault → ℕ
judge_fault_place Length = 0
judge_fault_place (Formula fault) = formula_fault_place fault
judge_fault_place Scratch = 0
judge_fault_place Out = 0

-- what the refusal of a judge begins with: the number and the place of its fault
abbrev pub judge_refused_at : JudgeFault → List ℕ
judge_refused_at f = codes "refused " ++ (decimal (judge_fault_number f) ++ (codes " place " ++ decimal (judge_fault_place f)))
