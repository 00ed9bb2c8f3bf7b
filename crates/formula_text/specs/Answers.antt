-- What is printed of a formula's text.
use Rattle.std.specs.Prelude.{◌≡◌, ℕ, List, Ok, Err, string_bytes, Result, String}
use Rattle.std.specs.declared.alloc.Global.{Global}
use Rattle.theory.specs.Formulas.{Formula}
use Rattle.grammar.specs.Spelling.{print, Spelled}
use Rattle.records.specs.declared.fault.JudgeFault.{JudgeFault}
use Rattle.formula.specs.Records.{records}
use Rattle.formula.specs.Answers.{Within, CountAnswer}
use Rattle.formula_text.specs.Tables.{records_table}

-- so many records are lent to a text that is printed
abbrev pub lent_records : ℕ
lent_records = 64

-- the text is that of a formula within the limits, and the bytes are the table of its records
pub record Tabled (text bytes : List ℕ) : Type 0 where
  pub formula : Formula
  pub spelled : Spelled formula
  pub spells : text ≡ print formula
  pub within : Within lent_records formula
  pub table : bytes ≡ records_table (records 0 formula)

-- what is answered of a text: the table of its formula's records, or the fault for which it is not read into so many
abbrev pub TableAnswer : List ℕ → Result (String Global) JudgeFault → Type 0
TableAnswer text (Ok table) = Tabled text (string_bytes table)
TableAnswer text (Err fault) = CountAnswer text lent_records (Err fault)
