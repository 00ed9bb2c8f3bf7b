-- From what reading a text answers to what is answered of its table.
use Rattle.std.proofs.Common.{◌≡◌, ℕ, List, length, take, Err, refl, ap, ◌∙◌, subst, arith}
use Rattle.model.proofs.Copies.{take_over}
use Rattle.records.specs.declared.record.Record.{Record}
use Rattle.records.specs.declared.fault.FormulaFault.{FormulaFault}
use Rattle.records.specs.declared.fault.FormulaFault.TheVariants.{NoFormula, Number, Depth, Records, Until}
use Rattle.records.specs.declared.fault.JudgeFault.{JudgeFault}
use Rattle.records.specs.declared.fault.JudgeFault.TheVariants.{Length, Formula, Scratch, Out}
use Rattle.formula.specs.Records.{records}
use Rattle.formula.specs.Questions.{formula_fault}
use Rattle.formula.specs.Answers.{Within, Accepted, Faulty, JudgeAnswer}
use Rattle.formula.proofs.Forms.{length_records}
use Rattle.formula_text.specs.Tables.{records_table}
use Rattle.formula_text.specs.Answers.{Tabled, lent_records}

-- the records that an accepted text leaves at the front of those lent are those of its formula
pub tabled : (text bytes : List ℕ) (blank left : List Record) (n : ℕ) → length blank ≡ lent_records → Accepted text blank left n → bytes ≡ records_table (take n left) → Tabled text bytes
tabled text bytes blank left n long a e =
    let f = a.formula in
    let room = a.within.room in
    let all = length_records f 0 in
    let few = a.number in
    let front : take n left ≡ records 0 f = ap (take n) a.written ∙ take_over (records 0 f) blank (omega arith) n (omega arith) in
    record {
      formula = f;
      spelled = a.spelled;
      spells = a.spells;
      within = subst (λ k. Within k f) long a.within;
      table = e ∙ ap records_table front;
    }

-- a fault of a formula is one for any records of that number
faulty : (text : List ℕ) (blank left other : List Record) (e : FormulaFault) → length other ≡ length blank → Faulty text blank left e → Faulty text other other e
faulty text blank left other e same f = record {
  formula = f.formula;
  spelled = f.spelled;
  spells = f.spells;
  only = f.only;
  beyond = λ within. f.beyond (subst (λ k. Within k f.formula) same within);
  refused = ap (λ k. formula_fault k f.formula) same ∙ f.refused;
  first = f.first;
  kept = refl;
}

-- so is any fault of a text that is read
pub for_any : (text : List ℕ) (blank left other : List Record) (e : JudgeFault) → length other ≡ length blank → JudgeAnswer text blank left (Err e) → JudgeAnswer text other other (Err e)
for_any text blank left other Length same a = (a.0, refl)
for_any text blank left other (Formula (NoFormula p)) same a = (a.0, (a.1.0, refl))
for_any text blank left other (Formula (Number p)) same a = (a.0, faulty text blank left other (Number p) same a.1)
for_any text blank left other (Formula Depth) same a = (a.0, faulty text blank left other Depth same a.1)
for_any text blank left other (Formula Records) same a = (a.0, faulty text blank left other Records same a.1)
for_any text blank left other (Formula (Until p)) same a = (a.0, faulty text blank left other (Until p) same a.1)
for_any text blank left other Scratch same a = absurd a
for_any text blank left other Out same a = absurd a
