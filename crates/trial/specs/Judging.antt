-- Judging the text of a formula: what is answered, and what is left in the records, the scratch and the output.
use Rattle.std.specs.Prelude.{◌≡◌, ℕ, ◌*◌, ◌<◌, ◌≤◌, List, [], ◌∷◌, length, None, Ok, Err, Option, Result, ◌==◌}
use Rattle.std.specs.List.{count_by, flat_map}
use Rattle.model.specs.Mdp.{Mdp, over}
use Rattle.theory.specs.Formulas.{Formula}
use Rattle.theory.specs.Found.{verdicts}
use Rattle.grammar.specs.Spelling.{print, Spelled}
use Rattle.records.specs.declared.record.Record.{Record}
use Rattle.records.specs.declared.fault.JudgeFault.{JudgeFault}
use Rattle.records.specs.declared.fault.JudgeFault.TheVariants as judge
use Rattle.formula.specs.Records.{size, parts, records}
use Rattle.formula.specs.Answers.{Readable, Within, FormulaAnswer}
use Rattle.trial.specs.Queries.{Query}
use Rattle.trial.specs.Rows.{bytes}

-- the row of a formula: the verdict byte of each state
abbrev pub row_of : Mdp → Formula → List ℕ
row_of m f = bytes m.states (verdicts m f)

-- the rows of several formulas, one after the other
abbrev pub rows_of : Mdp → List Formula → List ℕ
rows_of m fs = flat_map (row_of m) fs

-- a record with the counts of a row: how many states are a yes, and how many are undecided
abbrev pub counted : List ℕ → Record → Record
counted row r = record {
  kind = r.kind;
  first = r.first;
  second = r.second;
  comparison = r.comparison;
  number = r.number;
  steps = r.steps;
  yes = count_by (λ b. b == 1) row;
  undecided = count_by (λ b. b == 2) row;
}

-- the records of several formulas, each with the counts of its formula's row
abbrev pub counted_each : Mdp → List Formula → List Record → List Record
counted_each m [] rs = rs
counted_each m (f ∷ fs) [] = []
counted_each m (f ∷ fs) (r ∷ rs) = counted (row_of m f) r ∷ counted_each m fs rs

-- what a caller lends to be written: records, a row of bytes for each, and an output
pub record Buffers : Type 0 where
  pub records : List Record
  pub scratch : List ℕ
  pub out : List ℕ

-- the buffers of these lists
abbrev pub lent : List Record → List ℕ → List ℕ → Buffers
lent records scratch out = record { records = records; scratch = scratch; out = out }

-- the text spells the formula f, which is within the limits where so many records are lent
pub record Reads (text : List ℕ) (lent : ℕ) (f : Formula) : Type 0 where
  pub readable : Readable text
  pub spelled : Spelled f
  pub spells : text ≡ print f
  pub within : Within lent f

-- what judging f leaves: over the front of the records those of its parts with their counts, over the front of the scratch their rows, and in the output its own row
abbrev pub judged : Mdp → Formula → Buffers → Buffers
judged m f b = record { records = over (counted_each m (parts f) (records 0 f)) b.records; scratch = over (rows_of m (parts f)) b.scratch; out = row_of m f }

-- the text is judged: it spells a formula within the limits, the scratch has room for a row of each of its parts, the output has a byte for each state
pub record Accepted (m : Mdp) (text : List ℕ) (before after : Buffers) (n : ℕ) : Type 0 where
  pub formula : Formula
  pub reads : Reads text (length before.records) formula
  pub scratch_long : size formula * m.states ≤ length before.scratch
  pub out_length : length before.out ≡ m.states
  pub number : n ≡ size formula
  pub left : after ≡ judged m formula before

-- why a text is not judged: the first question whose answer is no
abbrev pub Refused : Mdp → List ℕ → Buffers → JudgeFault → Type 0
Refused m text b judge.Length = ¬ (Readable text)
Refused m text b (judge.Formula e) = Readable text × FormulaAnswer text b.records b.records (Err e)
Refused m text b judge.Scratch = (f : Formula) × Reads text (length b.records) f × (length b.scratch < size f * m.states)
Refused m text b judge.Out = (f : Formula) × Reads text (length b.records) f × (size f * m.states ≤ length b.scratch) × ¬ (length b.out ≡ m.states)

-- what judging a text answers and leaves: a refusal leaves the buffers as they were
abbrev pub JudgeResult : Mdp → List ℕ → Buffers → Buffers → Result ℕ JudgeFault → Type 0
JudgeResult m text before after (Ok n) = Accepted m text before after n
JudgeResult m text before after (Err e) = Refused m text before e × (after ≡ before)

-- an accepted judge leaves no query standing, a refused one the query that stood
abbrev pub query_after : Result ℕ JudgeFault → Option Query → Option Query
query_after (Ok n) q = None
query_after (Err e) q = q
