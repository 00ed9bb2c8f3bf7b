-- What is printed of the refusal of a formula's text, or of its judge.
use Rattle.std.specs.Prelude.{ℕ, List, [], ◌++◌, codes}
use Rattle.records.specs.declared.fault.FormulaFault.{FormulaFault}
use Rattle.records.specs.declared.fault.FormulaFault.TheVariants.{NoFormula, Number, Depth, Records, Until}
use Rattle.records.specs.declared.fault.JudgeFault.{JudgeFault}
use Rattle.records.specs.declared.fault.JudgeFault.TheVariants.{Length, Formula, Scratch, Out}
use Rattle.records.specs.Faults.{formula_fault_place, judge_refused_at}
use Rattle.printing.specs.Carets.{marked}

-- the words on a formula's fault
abbrev pub formula_words : FormulaFault → List ℕ
formula_words (NoFormula place) = codes "no formula goes on like this; write true, a letter from a to p, !f, (f&g), or P, a comparison, a bound and [Xf], [fUg] or [fU<=STEPSg], with no blanks"
formula_words (Number place) = codes "this number is too large; a bound is at most 1000000000, and an until has at most 10000 steps"
formula_words Depth = codes "the formula is more than 32 deep; take levels out"
formula_words Records = codes "there are more than 64 formulas in this one, or more than there are records; take some out"
formula_words (Until place) = codes "an until without steps stands only under >0, <=0 or >=1000000000; change the bound, or give the until steps, as in U<=100"

-- the words on a judge's fault
abbrev pub judge_words : JudgeFault → List ℕ
judge_words Length = codes "a formula has 1 to 1024 bytes; write one of that length"
judge_words (Formula fault) = formula_words fault
judge_words Scratch = codes "the scratch has not a byte for each state of each formula; lend it that many bytes"
judge_words Out = codes "the output has not a byte for each state; lend it just as many bytes as there are states"

-- the line of a refusal: its number, its place and its words
abbrev pub judge_line : JudgeFault → List ℕ
judge_line f = judge_refused_at f ++ (codes ": " ++ judge_words f)

-- the text with a caret under the place of a formula's fault; nothing for a fault that the text does not have as a formula
abbrev pub judge_mark : JudgeFault → List ℕ → List ℕ
judge_mark Length text = []
judge_mark (Formula fault) text = marked (formula_fault_place fault) text
judge_mark Scratch text = []
judge_mark Out text = []

-- the refusal of a text: its line, and then the text with the caret
abbrev pub judge_refusal : JudgeFault → List ℕ → List ℕ
judge_refusal f text = judge_line f ++ (codes "\n" ++ judge_mark f text)
