-- What is asked of a formula that a text spells: the numbers and the untils by their places in the text, the depth, the size.
use Rattle.std.specs.Prelude.{ℕ, ◌+◌, max, ◌&&◌, [], ◌∷◌, length, is_some, Some, None, Option, nat_le}
use Rattle.std.specs.Option.{option_or}
use Rattle.text.specs.Refusals.{ask, first}
use Rattle.theory.specs.Mixes.{whole}
use Rattle.theory.specs.Formulas.{Comparison, at_most, Formula, PathFormula, truth, label, negation, conjunction, probability, next, until_within, until, extremal, most_steps}
use Rattle.grammar.specs.Spelling.{sign, print_bound, print}
use Rattle.records.specs.declared.fault.FormulaFault.{FormulaFault}
use Rattle.records.specs.declared.fault.FormulaFault.TheVariants as fault
use Rattle.formula.specs.Records.{size}

-- the place of the first number above its limit, where the formula's text begins at the place `at`: the bound of a
-- probability stands after `P` and the comparison, the steps of an until after its left part and `U<=`
abbrev mutual
  pub first_large : ℕ → Formula → Option ℕ
  first_large at truth = None
  first_large at (label i) = None
  first_large at (negation f) = first_large (at + 1) f
  first_large at (conjunction f g) = option_or (first_large (at + 1) f) (first_large (at + 1 + length (print f) + 1) g)
  first_large at (probability c b p) = option_or (ask (nat_le b whole) (at + 1 + length (sign c))) (path_first_large (at + 1 + length (print_bound c b) + 1) p)

  -- the same of a path formula
  pub path_first_large : ℕ → PathFormula → Option ℕ
  path_first_large at (next f) = first_large (at + 1) f
  path_first_large at (until_within k f g) =
      option_or (first_large at f) (option_or (ask (nat_le k most_steps) (at + length (print f) + 1 + length (sign at_most))) (first_large (at + length (print f) + 1 + length (print_bound at_most k)) g))
  path_first_large at (until f g) = option_or (first_large at f) (first_large (at + length (print f) + 1) g)

-- the place, if the path is an until without steps, and the bound none of its three
abbrev pub unbounded : Comparison → ℕ → PathFormula → ℕ → Option ℕ
unbounded c b (next f) at = None
unbounded c b (until_within k f g) at = None
unbounded c b (until f g) at = ask (is_some (extremal c b)) at

-- the place of the first `P` over such an until, where the formula's text begins at the place `at`
abbrev mutual
  pub first_unbounded : ℕ → Formula → Option ℕ
  first_unbounded at truth = None
  first_unbounded at (label i) = None
  first_unbounded at (negation f) = first_unbounded (at + 1) f
  first_unbounded at (conjunction f g) = option_or (first_unbounded (at + 1) f) (first_unbounded (at + 1 + length (print f) + 1) g)
  first_unbounded at (probability c b p) = option_or (unbounded c b p at) (path_first_unbounded (at + 1 + length (print_bound c b) + 1) p)

  -- the same of a path formula
  pub path_first_unbounded : ℕ → PathFormula → Option ℕ
  path_first_unbounded at (next f) = first_unbounded (at + 1) f
  path_first_unbounded at (until_within k f g) = option_or (first_unbounded at f) (first_unbounded (at + length (print f) + 1 + length (print_bound at_most k)) g)
  path_first_unbounded at (until f g) = option_or (first_unbounded at f) (first_unbounded (at + length (print f) + 1) g)

-- the depth: 1 without parts, else one more than the deepest part; a path is no part of its own
abbrev mutual
  pub depth : Formula → ℕ
  depth truth = 1
  depth (label i) = 1
  depth (negation f) = depth f + 1
  depth (conjunction f g) = max (depth f) (depth g) + 1
  depth (probability c b p) = path_depth p + 1

  -- the depth of the deepest part of a path formula
  pub path_depth : PathFormula → ℕ
  path_depth (next f) = depth f
  path_depth (until_within k f g) = max (depth f) (depth g)
  path_depth (until f g) = max (depth f) (depth g)

-- a fault at a place, if there is the place
abbrev pub placed : (ℕ → FormulaFault) → Option ℕ → Option FormulaFault
placed fault None = None
placed fault (Some place) = Some (fault place)

-- the fault of a formula by the places of its first large number and of its first such `P`, its depth, its size, and how
-- many records are lent: the first question whose answer is no
abbrev pub fault_by : Option ℕ → ℕ → ℕ → ℕ → Option ℕ → Option FormulaFault
fault_by large deep count lent unbounded = first (
    placed fault.Number large
    ∷ ask (nat_le deep 32) fault.Depth
    ∷ ask (nat_le count 64 && nat_le count lent) fault.Records
    ∷ placed fault.Until unbounded
    ∷ [])

-- the fault of a formula for which so many records are lent
abbrev pub formula_fault : ℕ → Formula → Option FormulaFault
formula_fault lent f = fault_by (first_large 0 f) (depth f) (size f) lent (first_unbounded 0 f)
