-- What reading a whole text as a formula answers.
use Rattle.std.specs.Prelude.{◌≡◌, ℕ, ◌<◌, ◌≤◌, List, ◌++◌, length, take, Some, Ok, Err, Result}
use Rattle.model.specs.Mdp.{over}
use Rattle.theory.specs.Formulas.{Formula, LawfulFormula}
use Rattle.grammar.specs.Spelling.{print, Spelled}
use Rattle.grammar.specs.Languages.{StateWord}
use Rattle.records.specs.declared.record.Record.{Record}
use Rattle.records.specs.declared.fault.FormulaFault.{FormulaFault}
use Rattle.records.specs.declared.fault.FormulaFault.TheVariants as fault
use Rattle.records.specs.declared.fault.JudgeFault.{JudgeFault}
use Rattle.records.specs.declared.fault.JudgeFault.TheVariants as judge
use Rattle.formula.specs.Records.{size, records}
use Rattle.formula.specs.declared.reading.Reading.{Reading}
use Rattle.formula.specs.Questions.{first_large, first_unbounded, depth, formula_fault}
use Rattle.formula.specs.Places.{LargeNumber, UnboundedUntil, FirstAt}

-- w begins the text of a formula, of whatever length and depth
abbrev pub Begins : List ℕ → Type 0
Begins w = (r : List ℕ) × StateWord (w ++ r)

-- the text is no formula, and p is the length of its longest beginning that begins any
pub record NoFormula (text : List ℕ) (p : ℕ) : Type 0 where
  pub none : StateWord text → ⊥
  pub within : p ≤ length text
  pub begins : Begins (take p text)
  pub longest : (n : ℕ) → p < n → n ≤ length text → Begins (take n text) → ⊥

-- a formula within the limits, for which so many records are lent
pub record Within (lent : ℕ) (f : Formula) : Type 0 where
  pub lawful : LawfulFormula f
  pub shallow : depth f ≤ 32
  pub few : size f ≤ 64
  pub room : size f ≤ lent

-- what the place of a fault says of the text: there begins the first number above its own limit, or the first `P` that
-- may not stand over its until
abbrev pub PlaceIsFirst : List ℕ → FormulaFault → Type 0
PlaceIsFirst text (fault.NoFormula p) = Unit {0}
PlaceIsFirst text (fault.Number p) = FirstAt (LargeNumber text) p
PlaceIsFirst text fault.Depth = Unit {0}
PlaceIsFirst text fault.Records = Unit {0}
PlaceIsFirst text (fault.Until p) = FirstAt (UnboundedUntil text) p

-- the text spells just one formula, which is within the limits; its records are written over the front of those lent, and their number
-- is told
pub record Accepted (text : List ℕ) (lent left : List Record) (n : ℕ) : Type 0 where
  pub formula : Formula
  pub spelled : Spelled formula
  pub spells : text ≡ print formula
  pub only : (other : Formula) → Spelled other → text ≡ print other → other ≡ formula
  pub within : Within (length lent) formula
  pub number : n ≡ size formula
  pub written : left ≡ over (records 0 formula) lent

-- the text spells just one formula, which is not within the limits and has this fault, whose place is the first of its kind; and no
-- record is changed
pub record Faulty (text : List ℕ) (lent left : List Record) (e : FormulaFault) : Type 0 where
  pub formula : Formula
  pub spelled : Spelled formula
  pub spells : text ≡ print formula
  pub only : (other : Formula) → Spelled other → text ≡ print other → other ≡ formula
  pub beyond : ¬ (Within (length lent) formula)
  pub refused : formula_fault (length lent) formula ≡ Some e
  pub first : PlaceIsFirst text e
  pub kept : left ≡ lent

-- what is answered of the text of a formula
abbrev pub FormulaAnswer : List ℕ → List Record → List Record → Result ℕ FormulaFault → Type 0
FormulaAnswer text lent left (Ok n) = Accepted text lent left n
FormulaAnswer text lent left (Err (fault.NoFormula p)) = NoFormula text p × (left ≡ lent)
FormulaAnswer text lent left (Err (fault.Number p)) = Faulty text lent left (fault.Number p)
FormulaAnswer text lent left (Err fault.Depth) = Faulty text lent left fault.Depth
FormulaAnswer text lent left (Err fault.Records) = Faulty text lent left fault.Records
FormulaAnswer text lent left (Err (fault.Until p)) = Faulty text lent left (fault.Until p)

-- a text that may be read has 1 to 1,024 bytes
abbrev pub Readable : List ℕ → Type 0
Readable text = (1 ≤ length text) × (length text ≤ 1024)

-- what is answered of any text: its length is asked first
abbrev pub JudgeAnswer : List ℕ → List Record → List Record → Result ℕ JudgeFault → Type 0
JudgeAnswer text lent left (Ok n) = Readable text × Accepted text lent left n
JudgeAnswer text lent left (Err judge.Length) = (Readable text → ⊥) × (left ≡ lent)
JudgeAnswer text lent left (Err (judge.Formula e)) = Readable text × FormulaAnswer text lent left (Err e)
JudgeAnswer text lent left (Err judge.Scratch) = ⊥
JudgeAnswer text lent left (Err judge.Out) = ⊥

-- what is answered where so many records are lent and none is to be filled: what reading answers for any records of that number
abbrev pub CountAnswer : List ℕ → ℕ → Result ℕ JudgeFault → Type 0
CountAnswer text n r = (lent : List Record) → length lent ≡ n → (left : List Record) × JudgeAnswer text lent left r

-- the whole text is the formula, and what is known of it is so
pub record WholeRead (text : List ℕ) (r : Reading) : Type 0 where
  pub formula : Formula
  pub spelled : Spelled formula
  pub spells : text ≡ print formula
  pub counts : r.count ≡ size formula
  pub deep : r.depth ≡ depth formula
  pub large : r.large ≡ first_large 0 formula
  pub unbounded : r.unbounded ≡ first_unbounded 0 formula

-- what reading the whole text answers: what is known of its formula, or that it is none
abbrev pub Surveyed : List ℕ → Result Reading FormulaFault → Type 0
Surveyed text (Ok r) = WholeRead text r
Surveyed text (Err e) = (p : ℕ) × (e ≡ fault.NoFormula p) × NoFormula text p
