-- The records of a formula: those of the left part first, then those of the right, then its own.
use Rattle.std.specs.Prelude.{ℕ, ◌+◌, ◌-◌, List, [], ◌∷◌, ◌++◌, Some, None, Option}
use Rattle.theory.specs.Formulas.{Comparison, below, at_most, above, at_least, Formula, PathFormula, truth, label, negation, conjunction, probability, next, until_within, until}
use Rattle.records.specs.declared.comparison.Comparison.{Comparison as Code}
use Rattle.records.specs.declared.comparison.Comparison.TheVariants.{Below, AtMost, Above, AtLeast}
use Rattle.records.specs.declared.record.Kind.{Kind}
use Rattle.records.specs.declared.record.Kind.TheVariants.{Truth, Label, Negation, Conjunction, Next, UntilWithin, Until}
use Rattle.records.specs.declared.record.Record.{Record}

-- how many state formulas stand in a formula, itself among them; equal ones are counted each time
abbrev mutual
  pub size : Formula → ℕ
  size truth = 1
  size (label i) = 1
  size (negation f) = size f + 1
  size (conjunction f g) = size f + size g + 1
  size (probability c b p) = path_size p + 1

  -- the same of the parts of a path formula
  pub path_size : PathFormula → ℕ
  path_size (next f) = size f
  path_size (until_within k f g) = size f + size g
  path_size (until f g) = size f + size g

-- the state formulas of a formula in the order of its records: those of the left part, then those of the right, then itself
abbrev mutual
  pub parts : Formula → List Formula
  parts truth = truth ∷ []
  parts (label i) = label i ∷ []
  parts (negation f) = parts f ++ (negation f ∷ [])
  parts (conjunction f g) = parts f ++ (parts g ++ (conjunction f g ∷ []))
  parts (probability c b p) = path_parts p ++ (probability c b p ∷ [])

  -- those of the parts of a path formula
  pub path_parts : PathFormula → List Formula
  path_parts (next f) = parts f
  path_parts (until_within k f g) = parts f ++ parts g
  path_parts (until f g) = parts f ++ parts g

-- the code's own comparison for a comparison
abbrev pub coded : Comparison → Code
coded below = Below
coded at_most = AtMost
coded above = Above
coded at_least = AtLeast

-- a record as it is read: no states are counted yet
abbrev pub line : Kind → ℕ → ℕ → Option Code → ℕ → ℕ → Record
line kind first second comparison number steps = record {
  kind = kind;
  first = first;
  second = second;
  comparison = comparison;
  number = number;
  steps = steps;
  yes = 0;
  undecided = 0;
}

-- a formula's own record comes last: its number, where its first record has the number k
abbrev pub own : ℕ → Formula → ℕ
own k f = k + size f - 1

-- the kind of a probability over a path
abbrev pub path_kind : PathFormula → Kind
path_kind (next f) = Next
path_kind (until_within k f g) = UntilWithin
path_kind (until f g) = Until

-- its first part, by the number of that part's own record
abbrev pub path_first : ℕ → PathFormula → ℕ
path_first k (next f) = own k f
path_first k (until_within n f g) = own k f
path_first k (until f g) = own k f

-- its second part, if it has two
abbrev pub path_second : ℕ → PathFormula → ℕ
path_second k (next f) = 0
path_second k (until_within n f g) = own (k + size f) g
path_second k (until f g) = own (k + size f) g

-- its steps, if it has any
abbrev pub path_steps : PathFormula → ℕ
path_steps (next f) = 0
path_steps (until_within n f g) = n
path_steps (until f g) = 0

-- the records of a formula, of which the first has the number k
abbrev mutual
  pub records : ℕ → Formula → List Record
  records k truth = line Truth 0 0 None 0 0 ∷ []
  records k (label i) = line Label 0 0 None i 0 ∷ []
  records k (negation f) = records k f ++ (line Negation (own k f) 0 None 0 0 ∷ [])
  records k (conjunction f g) = records k f ++ (records (k + size f) g ++ (line Conjunction (own k f) (own (k + size f) g) None 0 0 ∷ []))
  records k (probability c b p) = path_records k p ++ (line (path_kind p) (path_first k p) (path_second k p) (Some (coded c)) b (path_steps p) ∷ [])

  -- the records of the parts of a path formula
  pub path_records : ℕ → PathFormula → List Record
  path_records k (next f) = records k f
  path_records k (until_within n f g) = records k f ++ records (k + size f) g
  path_records k (until f g) = records k f ++ records (k + size f) g
