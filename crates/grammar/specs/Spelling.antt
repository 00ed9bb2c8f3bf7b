-- How formulas are spelled, byte by byte, with no blanks; and that a text spells at most one.
use Rattle.std.specs.Prelude.{◌≡◌, ℕ, ◌+◌, ◌^◌, ◌<◌, List, [], ◌∷◌, ◌++◌, decimal}
use Rattle.theory.specs.Formulas.{Comparison, below, at_most, above, at_least, Formula, PathFormula, truth, label, negation, conjunction, probability, next, until_within, until}

-- the comparisons `<` (60), `<=`, `>` (62) and `>=`, where `=` is 61
abbrev pub sign : Comparison → List ℕ
sign below = 60 ∷ []
sign at_most = 60 ∷ 61 ∷ []
sign above = 62 ∷ []
sign at_least = 62 ∷ 61 ∷ []

-- a comparison and the bound that it compares with, as `>=5`
abbrev pub print_bound : Comparison → ℕ → List ℕ
print_bound c b = sign c ++ decimal b

-- state formulas: `true`, a letter from `a` (97) on, `!f`, `(f&g)`, and `P` with a comparison, a bound and a path, as `P>=5[Xa]`;
-- path formulas: `Xf`, `fU<=kg` and `fUg`
abbrev mutual
  pub print : Formula → List ℕ
  print truth = 116 ∷ 114 ∷ 117 ∷ 101 ∷ []
  print (label i) = (97 + i) ∷ []
  print (negation f) = 33 ∷ print f
  print (conjunction f g) = 40 ∷ (print f ++ (38 ∷ (print g ++ (41 ∷ []))))
  print (probability c b p) = 80 ∷ (print_bound c b ++ (91 ∷ (print_path p ++ (93 ∷ []))))

  -- the text of a path formula
  pub print_path : PathFormula → List ℕ
  print_path (next f) = 88 ∷ print f
  print_path (until_within k f g) = print f ++ (85 ∷ (print_bound at_most k ++ print g))
  print_path (until f g) = print f ++ (85 ∷ print g)

-- a number of at most ten digits
abbrev pub FewDigits : ℕ → Type 0
FewDigits n = n < 10 ^ 10

-- a formula that can be spelled: its letters are a to p, its numbers have at most ten digits
abbrev mutual
  pub Spelled : Formula → Type 0
  Spelled truth = Unit {0}
  Spelled (label i) = i < 16
  Spelled (negation f) = Spelled f
  Spelled (conjunction f g) = Spelled f × Spelled g
  Spelled (probability c b p) = FewDigits b × SpelledPath p

  -- the same of a path formula
  pub SpelledPath : PathFormula → Type 0
  SpelledPath (next f) = Spelled f
  SpelledPath (until_within k f g) = FewDigits k × Spelled f × Spelled g
  SpelledPath (until f g) = Spelled f × Spelled g

-- the theorem of the grammar: a text has at most one reading
abbrev pub OneReading : Type 0
OneReading = (f g : Formula) → Spelled f → Spelled g → print f ≡ print g → f ≡ g
