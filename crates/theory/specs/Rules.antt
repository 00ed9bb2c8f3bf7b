-- Chapter 3. Value rules: what the values are, which of two is preferred, and how the values of a row are mixed by its weights.
use Rattle.std.specs.Prelude.{◌≡◌, ℕ, ◌+◌, ◌≤◌, Bool, true, ◌⊎◌, List, [], ◌∷◌, ◌++◌}
use Rattle.model.specs.Mdp.{Row, Each}

-- a row with the value of each branch's target beside the branch's weight
abbrev pub valued : {V : Type 0} → (ℕ → V) → Row → List (ℕ × V)
valued v [] = []
valued v (b ∷ bs) = (b.weight, v b.target) ∷ valued v bs

-- the weights of a row of values, summed
abbrev pub total_weight : {V : Type 0} → List (ℕ × V) → ℕ
total_weight [] = 0
total_weight (p ∷ ps) = p.0 + total_weight ps

-- the rows of values that a lawful model has: the denominator is 1 to 1,000,000, each weight at least 1, and they sum to the denominator
pub record LawfulMix {V : Type 0} (d : ℕ) (row : List (ℕ × V)) : Type 0 where
  pub some_unit : 1 ≤ d
  pub few_units : d ≤ 1000000
  pub weights : Each (λ (p : ℕ × V). 1 ≤ p.0) row
  pub sums : total_weight row ≡ d

-- the laws of a rule: the preference is a total order, and a value at least as good in a lawful row never makes the mix less good
pub record RuleLaws {V : Type 0} (at_least_as_good : V → V → Bool) (mix : ℕ → List (ℕ × V) → V) : Type 0 where
  pub reflexive : (x : V) → at_least_as_good x x ≡ true
  pub transitive : (x y z : V) → at_least_as_good x y ≡ true → at_least_as_good y z ≡ true → at_least_as_good x z ≡ true
  pub antisymmetric : (x y : V) → at_least_as_good x y ≡ true → at_least_as_good y x ≡ true → x ≡ y
  pub complete : (x y : V) → (at_least_as_good x y ≡ true) ⊎ (at_least_as_good y x ≡ true)
  pub monotone : (d : ℕ) (before after : List (ℕ × V)) (w : ℕ) (x y : V) →
      LawfulMix d (before ++ ((w, x) ∷ after)) → at_least_as_good x y ≡ true →
      at_least_as_good (mix d (before ++ ((w, x) ∷ after))) (mix d (before ++ ((w, y) ∷ after))) ≡ true
