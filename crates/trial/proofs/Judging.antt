-- What judging leaves is what the definition says.
use Rattle.std.proofs.Common.{◌≡◌, ℕ, ◌+◌, ◌-◌, ◌*◌, ◌≤◌, List, [], ◌++◌, length, take, drop, Ok, sym, refl, ap, ◌∙◌, subst, arith}
use Rattle.model.specs.Mdp.{Mdp, Lawful, over}
use Rattle.model.proofs.Copies.{over_front, take_over, drop_over}
use Rattle.theory.specs.Formulas.{Formula, truth, label, negation, conjunction, probability}
use Rattle.grammar.proofs.Readings.{one_reading}
use Rattle.records.specs.declared.record.Record.{Record}
use Rattle.formula.specs.Records.{size, parts, records}
use Rattle.formula.specs.Answers.{Readable, Accepted as TextAccepted, CountAnswer}
use Rattle.formula.proofs.Forms.{length_records}
use Rattle.trial.specs.Judging.{Buffers, lent, Reads, Accepted, counted_each, row_of, rows_of}
use Rattle.trial.specs.Evaluation.{row_at, HasRow, Chained}
use Rattle.trial.proofs.Evaluation.{chained, own_row, own_there, rows_length, length_parts, counted_length}

-- a formula has a part
pub some_part : (f : Formula) → 1 ≤ size f
some_part truth = omega arith
some_part (label i) = omega arith
some_part (negation f) = omega arith
some_part (conjunction f g) = omega arith
some_part (probability c b p) = omega arith

-- a text that is accepted spells a formula within the limits
pub reads : (text : List ℕ) (given left : List Record) (n : ℕ) → Readable text → (a : TextAccepted text given left n) → Reads text (length given) a.formula
reads text given left n r a = record { readable = r; spelled = a.spelled; spells = a.spells; within = a.within }

-- where it is read once more, the records of the same formula are filled
pub filled_again : (text : List ℕ) (given left left' : List Record) (n n' : ℕ) (a : TextAccepted text given left n) → TextAccepted text given left' n' → left' ≡ over (records 0 a.formula) given
filled_again text given left left' n n' a b = b.written ∙ ap (λ f. over (records 0 f) given) (one_reading b.formula a.formula b.spelled a.spelled (sym b.spells ∙ a.spells))

-- the text is one of a formula within the limits, and after a second reading the records are those of that formula
pub record ReadTwice (text : List ℕ) (given filled : List Record) (n : ℕ) : Type 0 where
  pub formula : Formula
  pub reads : Reads text (length given) formula
  pub number : n ≡ size formula
  pub written : filled ≡ over (records 0 formula) given

-- that is so where both readings are accepted
pub read_twice : (text : List ℕ) (given filled : List Record) (n k : ℕ) → CountAnswer text (length given) (Ok n) → TextAccepted text given filled k → ReadTwice text given filled n
read_twice text given filled n k first second =
    let (left, counted) = first given refl in
    record { formula = counted.1.formula; reads = reads text given left n counted.0 counted.1; number = counted.1.number; written = filled_again text given left filled n k counted.1 second }

module _ (m : Mdp) (l : Lawful m) (text : List ℕ) (b : Buffers) (filled : List Record) (n : ℕ) (twice : ReadTwice text b.records filled n) where
  -- the formula
  abbrev f : Formula
  f = twice.formula

  -- the records that are read fill so many places
  all_records : length (records 0 f) ≡ n
  all_records = length_records f 0 ∙ sym twice.number

  -- and are found there
  front : take n filled ≡ records 0 f
  front = ap (take n) twice.written ∙ take_over (records 0 f) b.records (omega (arith, all_records, twice.number, twice.reads.within.room)) n (sym all_records)

  -- there is a last row among the rows of its parts
  pub last_there : (rows behind : List ℕ) → rows ≡ rows_of m (parts f) → HasRow m.states (rows ++ behind) (n - 1)
  last_there rows behind all =
      let own : 0 + size f - 1 ≡ n - 1 = omega (arith, twice.number) in
      rw (all) (subst (λ k. HasRow m.states (rows_of m (parts f) ++ behind) k) own (own_there m f 0 [] behind (omega arith)))

  -- they are those of the parts of the formula
  pub filled_chained : Chained m [] (parts f) (take n filled)
  filled_chained = subst (Chained m [] (parts f)) (sym front) (chained m l f twice.reads.within.lawful 0 [] (omega arith))

  module _ (done : List Record) (rows out : List ℕ) (long : size f * m.states ≤ length b.scratch) (states : length b.out ≡ m.states)
      (counts : done ≡ counted_each m (parts f) (take n filled)) (all : rows ≡ rows_of m (parts f)) (last : out ≡ row_at m.states (rows ++ drop (n * m.states) b.scratch) (n - 1)) where
    -- the counted records are as many
    all_counted : length (counted_each m (parts f) (records 0 f)) ≡ n
    all_counted = counted_length m (parts f) (records 0 f) (omega (arith, length_parts f, length_records f 0)) ∙ all_records

    -- they stand over the front of those that were lent
    records_left : done ++ drop n filled ≡ over (counted_each m (parts f) (records 0 f)) b.records
    records_left =
        ap (λ d. d ++ drop n filled) (counts ∙ ap (counted_each m (parts f)) front)
        ∙ ap (λ d. counted_each m (parts f) (records 0 f) ++ d)
        (ap (drop n) twice.written ∙ drop_over (records 0 f) b.records (omega (arith, all_records, twice.number, twice.reads.within.room)) n (sym all_records)
        ∙ ap (λ k. drop k b.records) (sym all_counted))
        ∙ sym (over_front (counted_each m (parts f) (records 0 f)) b.records (omega (arith, all_counted, twice.number, twice.reads.within.room)))

    -- the rows fill so many bytes
    all_rows : length (rows_of m (parts f)) ≡ n * m.states
    all_rows = rows_length m (parts f) ∙ ap (λ k. k * m.states) (length_parts f ∙ sym twice.number)

    -- they stand over the front of the scratch
    scratch_left : rows ++ drop (n * m.states) b.scratch ≡ over (rows_of m (parts f)) b.scratch
    scratch_left =
        ap (λ d. d ++ drop (n * m.states) b.scratch) all
        ∙ ap (λ k. rows_of m (parts f) ++ drop k b.scratch) (sym all_rows)
        ∙ sym (over_front (rows_of m (parts f)) b.scratch (let h = ap (λ k. k * m.states) twice.number in omega (arith, all_rows, h, long)))

    -- and the last is the formula's own
    out_left : out ≡ row_of m f
    out_left =
        last ∙ ap (λ z. row_at m.states (z ++ drop (n * m.states) b.scratch) (n - 1)) all
        ∙ ap (λ k. row_at m.states (rows_of m (parts f) ++ drop (n * m.states) b.scratch) k) (let own : n - 1 ≡ 0 + size f - 1 = omega (arith, twice.number) in own)
        ∙ own_row m f 0 [] (drop (n * m.states) b.scratch) (omega arith)

    -- so the judge that did this is accepted
    pub accepted : Accepted m text b (lent (done ++ drop n filled) (rows ++ drop (n * m.states) b.scratch) out) n
    accepted = record {
      formula = f;
      reads = twice.reads;
      scratch_long = long;
      out_length = states;
      number = twice.number;
      left = ap (λ x. lent x (rows ++ drop (n * m.states) b.scratch) out) records_left
          ∙ ap (λ x. lent (over (counted_each m (parts f) (records 0 f)) b.records) x out) scratch_left
          ∙ ap (λ x. lent (over (counted_each m (parts f) (records 0 f)) b.records) (over (rows_of m (parts f)) b.scratch) x) out_left;
    }
