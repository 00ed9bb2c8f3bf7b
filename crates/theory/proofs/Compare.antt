-- Comparisons: as a test, under a factor, and along what makes them harder to fit.
use Rattle.std.proofs.Common.{◌≡◌, ℕ, ◌*◌, ◌≤◌, true, ◌↔◌, le_trans, lt_of_lt_of_le, lt_of_le_of_lt, mul-le-mul_right, lt_of_mul-lt-mul_right, mul-lt-mul_of_pos_right, le_of_mul-le-mul_right, ltb-true, lt-ltb, le-leb, leb-true, List}
use Rattle.theory.specs.Mixes.{greater, lesser}
use Rattle.theory.specs.Rules.{RuleLaws}
use Rattle.theory.specs.Formulas.{Comparison, below, at_most, above, at_least, Fits}
use Rattle.theory.specs.Verdicts.{fits, asked}
use Rattle.theory.specs.Distances.{Harder}

-- the test decides
pub fits_test : (c : Comparison) (x y : ℕ) → (fits c x y ≡ true) ↔ Fits c x y
fits_test below x y = (ltb-true x y, lt-ltb x y)
fits_test at_most x y = (leb-true x y, le-leb x y)
fits_test above x y = (ltb-true y x, lt-ltb y x)
fits_test at_least x y = (leb-true y x, le-leb y x)

-- where x fits, so does x'
pub fits_harder : (c : Comparison) (x x' y : ℕ) → Harder c x x' → Fits c x y → Fits c x' y
fits_harder below x x' y h f = lt_of_le_of_lt h f
fits_harder at_most x x' y h f = le_trans h f
fits_harder above x x' y h f = lt_of_lt_of_le f h
fits_harder at_least x x' y h f = le_trans f h

-- under a factor
pub harder_times : (c : Comparison) (x x' d : ℕ) → Harder c x x' → Harder c (x * d) (x' * d)
harder_times below x x' d h = mul-le-mul_right d h
harder_times at_most x x' d h = mul-le-mul_right d h
harder_times above x x' d h = mul-le-mul_right d h
harder_times at_least x x' d h = mul-le-mul_right d h

-- a comparison holds under a factor
pub fits_times : (c : Comparison) (x y d : ℕ) → 1 ≤ d → Fits c x y → Fits c (x * d) (y * d)
fits_times below x y d h f = mul-lt-mul_of_pos_right f h
fits_times at_most x y d h f = mul-le-mul_right d f
fits_times above x y d h f = mul-lt-mul_of_pos_right f h
fits_times at_least x y d h f = mul-le-mul_right d f

-- and without it
pub fits_part : (c : Comparison) (x y d : ℕ) → 1 ≤ d → Fits c (x * d) (y * d) → Fits c x y
fits_part below x y d h f = lt_of_mul-lt-mul_right d f
fits_part at_most x y d h f = le_of_mul-le-mul_right f h
fits_part above x y d h f = lt_of_mul-lt-mul_right d f
fits_part at_least x y d h f = le_of_mul-le-mul_right f h

-- what the preference of a comparison puts first is harder to fit
pub asked_harder : (c : Comparison) (x y : ℕ) → asked c x y ≡ true → Harder c x y
asked_harder below x y = leb-true y x
asked_harder at_most x y = leb-true y x
asked_harder above x y = leb-true x y
asked_harder at_least x y = leb-true x y

-- a rule that is lawful with the greater preferred and with the lesser is lawful with the preference of each comparison
pub asked_laws : (mix : ℕ → List (ℕ × ℕ) → ℕ) → RuleLaws greater mix → RuleLaws lesser mix → (c : Comparison) → RuleLaws (asked c) mix
asked_laws mix g h below = g
asked_laws mix g h at_most = g
asked_laws mix g h above = h
asked_laws mix g h at_least = h
