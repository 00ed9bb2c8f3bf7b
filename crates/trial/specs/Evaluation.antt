-- How the row of a record follows from the rows of the records before it.
use Rattle.std.specs.Prelude.{◌≡◌, ℕ, ◌+◌, ◌*◌, ◌<◌, ◌≤◌, true, List, [], ◌∷◌, ◌++◌, length, take, drop, Some, None, Option}
use Rattle.model.specs.Mdp.{Mdp}
use Rattle.theory.specs.Formulas.{Comparison, below, Formula, extremal, has_label, most_steps}
use Rattle.theory.specs.Verdicts.{VerdictSets, asked, known, negated, joined, next_verdicts, until_within_verdicts}
use Rattle.theory.specs.Ends.{lower, upper, next_lower, next_upper}
use Rattle.theory.specs.Found.{until_verdicts, TwoEnds, ends_of}
use Rattle.records.specs.declared.comparison.Comparison.{Comparison as Code}
use Rattle.records.specs.declared.record.Kind.{Kind}
use Rattle.records.specs.declared.record.Kind.TheVariants.{Truth, Label, Negation, Conjunction, Next, UntilWithin, Until}
use Rattle.records.specs.declared.record.Record.{Record}
use Rattle.formula.specs.Tokens.{meant}
use Rattle.trial.specs.Rows.{sets, bytes}
use Rattle.trial.specs.Judging.{row_of}
use Rattle.trial.specs.PathEnds.{EndsAgree}

-- the row of n bytes with this number
abbrev pub row_at : ℕ → List ℕ → ℕ → List ℕ
row_at n rows i = take n (drop (i * n) rows)

-- there is a row with this number
abbrev pub HasRow : ℕ → List ℕ → ℕ → Type 0
HasRow n rows i = i * n + n ≤ length rows

-- the comparison of a record that has one
abbrev pub comparison_of : Option Code → Comparison
comparison_of None = below
comparison_of (Some c) = meant c

-- the verdicts of a record of this kind, by those that the rows of its parts tell
abbrev pub verdicts_by : Kind → Mdp → List ℕ → Record → VerdictSets
verdicts_by Truth m rows r = known (λ s. true)
verdicts_by Label m rows r = known (has_label m r.number)
verdicts_by Negation m rows r = negated (sets (row_at m.states rows r.first))
verdicts_by Conjunction m rows r = joined (sets (row_at m.states rows r.first)) (sets (row_at m.states rows r.second))
verdicts_by Next m rows r = next_verdicts (comparison_of r.comparison) r.number m (sets (row_at m.states rows r.first))
verdicts_by UntilWithin m rows r = until_within_verdicts (comparison_of r.comparison) r.number r.steps m (sets (row_at m.states rows r.first)) (sets (row_at m.states rows r.second))
verdicts_by Until m rows r = until_verdicts (extremal (comparison_of r.comparison) r.number) m (sets (row_at m.states rows r.first)) (sets (row_at m.states rows r.second))

-- the row of a record, by the rows before it
abbrev pub row_by : Mdp → List ℕ → Record → List ℕ
row_by m rows r = bytes m.states (verdicts_by r.kind m rows r)

-- the ends that the verdicts of a record of this kind are read off, by those that the rows of its parts tell
abbrev pub ends_by : Kind → Mdp → List ℕ → Record → Option TwoEnds
ends_by Truth m rows r = None
ends_by Label m rows r = None
ends_by Negation m rows r = None
ends_by Conjunction m rows r = None
ends_by Next m rows r =
    let v = sets (row_at m.states rows r.first) in
    let prefer = asked (comparison_of r.comparison) in
    Some (next_lower prefer v.sure m, next_upper prefer v.possible m)
ends_by UntilWithin m rows r =
    let v = sets (row_at m.states rows r.first) in
    let w = sets (row_at m.states rows r.second) in
    let prefer = asked (comparison_of r.comparison) in
    Some (lower prefer v.sure w.sure r.steps m, upper prefer v.possible w.possible r.steps m)
ends_by Until m rows r = None

-- what a record of this kind needs: its letter is one of sixteen, its parts have rows, a probability has a comparison, and its steps are within the limit
abbrev pub Needs : Kind → ℕ → List ℕ → Record → Type 0
Needs Truth n rows r = Unit {0}
Needs Label n rows r = r.number < 16
Needs Negation n rows r = HasRow n rows r.first
Needs Conjunction n rows r = HasRow n rows r.first × HasRow n rows r.second
Needs Next n rows r = ((c : Code) × (r.comparison ≡ Some c)) × HasRow n rows r.first
Needs UntilWithin n rows r = ((c : Code) × (r.comparison ≡ Some c)) × HasRow n rows r.first × HasRow n rows r.second × (r.steps ≤ most_steps)
Needs Until n rows r = ((c : Code) × (r.comparison ≡ Some c)) × HasRow n rows r.first × HasRow n rows r.second

-- the record is that of the formula: it has what it needs, and its row and its ends are the formula's
pub record RecordOf (m : Mdp) (rows : List ℕ) (f : Formula) (r : Record) : Type 0 where
  pub needs : Needs r.kind m.states rows r
  pub row : row_by m rows r ≡ row_of m f
  pub ends : EndsAgree m.states (ends_by r.kind m rows r) (ends_of m f)

-- the records are those of the formulas, whose rows follow one after the other, from these rows on
abbrev pub Chained : Mdp → List ℕ → List Formula → List Record → Type 0
Chained m rows [] [] = Unit {0}
Chained m rows [] (r ∷ rs) = ⊥
Chained m rows (f ∷ fs) [] = ⊥
Chained m rows (f ∷ fs) (r ∷ rs) = RecordOf m rows f r × Chained m (rows ++ row_of m f) fs rs
