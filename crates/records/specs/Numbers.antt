-- The numbers of the kinds of formulas and of the comparisons.
use Rattle.std.specs.Prelude.{ℕ, Some, None, Option}
use Rattle.records.specs.declared.comparison.Comparison.{Comparison}
use Rattle.records.specs.declared.comparison.Comparison.TheVariants.{Below, AtMost, Above, AtLeast}
use Rattle.records.specs.declared.record.Kind.{Kind}
use Rattle.records.specs.declared.record.Kind.TheVariants.{Truth, Label, Negation, Conjunction, Next, UntilWithin, Until}

-- the number of a kind
abbrev pub kind_number : Kind → ℕ
kind_number Truth = 0
kind_number Label = 1
kind_number Negation = 2
kind_number Conjunction = 3
kind_number Next = 4
kind_number UntilWithin = 5
kind_number Until = 6

-- the number of a comparison, in the order `<`, `<=`, `>`, `>=`
abbrev pub comparison_number : Comparison → ℕ
comparison_number Below = 1
comparison_number AtMost = 2
comparison_number Above = 3
comparison_number AtLeast = 4

-- the same of one that may be missing, which has the number 0
abbrev pub optional_comparison_number : Option Comparison → ℕ
optional_comparison_number None = 0
optional_comparison_number (Some c) = comparison_number c
