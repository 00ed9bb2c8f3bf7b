-- What is printed of a formula and of a line of a list.
use Rattle.std.specs.Prelude.{◌≡◌, ℕ, cond, List, [], ◌++◌, map, Some, None, Err, codes, decimal, Option}
use Rattle.model.specs.Mdp.{Mdp}
use Rattle.theory.specs.Formulas.{Formula}
use Rattle.theory.specs.Found.{TwoEnds, ends_of}
use Rattle.grammar.specs.Spelling.{print}
use Rattle.records.specs.declared.fault.JudgeFault.{JudgeFault}
use Rattle.formula.specs.Answers.{CountAnswer}
use Rattle.trial.specs.Judging.{Reads, row_of}
use Rattle.printing.specs.Carets.{shown}
use Rattle.formula_text.specs.Words.{judge_refusal}
use Rattle.formula_text.specs.Answers.{lent_records}
use Rattle.limits_text.specs.declared.outcome.Outcome.{Outcome}
use Rattle.limits_text.specs.declared.outcome.Outcome.TheVariants as outcome
use Rattle.limits_text.specs.declared.item.Item.{Item}
use Rattle.limits_text.specs.declared.item.Item.TheVariants as item
use Rattle.limits_text.specs.Lines.{item_of}
use Rattle.limits_text.specs.Tables.{table}
use Rattle.limits_text.specs.Promise.{Promise}
use Rattle.limits_text.specs.Outcomes.{counts_of, counts_text, outcome_of, same_outcome, OutcomeMeans}

-- a formula's text, the table of its row and its ends, the counts of the row, and an empty line
abbrev pub formula_report : List ℕ → List ℕ → Option TwoEnds → List ℕ
formula_report text row ends = text ++ (codes "\n" ++ (table row ends ++ (counts_text (counts_of row) ++ codes "\n")))

-- a refusal, and an empty line
abbrev pub refusal_report : JudgeFault → List ℕ → List ℕ
refusal_report e text = judge_refusal e text ++ codes "\n"

-- the text spells a formula within the limits; the bytes are its report, and keep the promise; the outcome is that of its row, and
-- means what it says
pub record JudgedReport (m : Mdp) (text bytes : List ℕ) (o : Outcome) : Type 0 where
  pub formula : Formula
  pub reads : Reads text lent_records formula
  pub report : bytes ≡ formula_report (print formula) (row_of m formula) (ends_of m formula)
  pub promise : Promise m bytes
  pub outcome : o ≡ outcome_of (counts_of (row_of m formula))
  pub means : OutcomeMeans m formula o

-- the text spells no formula within the limits; the bytes are its refusal
pub record RefusedReport (text bytes : List ℕ) : Type 0 where
  pub fault : JudgeFault
  pub refused : CountAnswer text lent_records (Err fault)
  pub report : bytes ≡ refusal_report fault text

-- what is answered of the text of a formula: the report of a judged formula with its outcome, or that of a refused text
abbrev pub ReportAnswer : Mdp → List ℕ → List ℕ → Outcome → Type 0
ReportAnswer m text bytes outcome.Holds = JudgedReport m text bytes outcome.Holds
ReportAnswer m text bytes outcome.Fails = JudgedReport m text bytes outcome.Fails
ReportAnswer m text bytes outcome.Undecided = JudgedReport m text bytes outcome.Undecided
ReportAnswer m text bytes outcome.Refused = RefusedReport text bytes

-- the report of line n: a refusal tells the line
abbrev pub numbered : ℕ → Outcome → List ℕ → List ℕ
numbered n o report = cond (same_outcome o outcome.Refused) (codes "line " ++ (decimal n ++ (codes ": " ++ report))) report

-- what is answered of line n: nothing of an empty line, a heading as it is shown, and the report of a formula with its outcome
abbrev pub ItemAnswer : Item → Mdp → ℕ → List ℕ → List ℕ → Option Outcome → Type 0
ItemAnswer item.Nothing m n line bytes o = (bytes ≡ []) × (o ≡ None)
ItemAnswer item.Heading m n line bytes o = (bytes ≡ map shown line ++ codes "\n") × (o ≡ None)
ItemAnswer item.Formula m n line bytes o = (x : Outcome) × (report : List ℕ) × (o ≡ Some x) × ReportAnswer m line report x × (bytes ≡ numbered n x report)

-- the same by what the line is
abbrev pub LineAnswer : Mdp → ℕ → List ℕ → List ℕ → Option Outcome → Type 0
LineAnswer m n line bytes o = ItemAnswer (item_of line) m n line bytes o
