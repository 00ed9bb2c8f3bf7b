-- From a program's lists and loops to the definitions: values in a list, and the best so far.
use Rattle.std.proofs.Common.{◌≡◌, ℕ, zero, suc, ◌<◌, Bool, false, cond, List, [], ◌∷◌, refl, ◌∙◌, inl, inr, ⊎_elim}
use Rattle.std.proofs.lemmas.Bool.{cases_Bool, both_ways}
use Rattle.model.specs.Mdp.{Mdp, Lawful}
use Rattle.theory.specs.Rules.{RuleLaws}
use Rattle.theory.specs.Rounds.{most, rounds}
use Rattle.theory.proofs.Rounds.{round_same}

module _ {V : Type 0} (at_least_as_good : V → V → Bool) where
  -- the loop's way: the best so far, replaced only by what is strictly better
  abbrev pub so_far : V → List V → V
  so_far x [] = x
  so_far x (y ∷ ys) = so_far (cond (at_least_as_good x y) x y) ys

module _ {V : Type 0} (at_least_as_good : V → V → Bool) (mix : ℕ → List (ℕ × V) → V) (laws : RuleLaws at_least_as_good mix) where
  -- k rounds read the starting values of the states only
  pub rounds_same : (m : Mdp) → Lawful m → (f g : ℕ → V) → ((t : ℕ) → t < m.states → f t ≡ g t) →
      (k s : ℕ) → s < m.states → rounds at_least_as_good mix k m f s ≡ rounds at_least_as_good mix k m g s
  rounds_same m l f g h zero s p = h s p
  rounds_same m l f g h (suc k) s p = round_same at_least_as_good mix laws m l (rounds at_least_as_good mix k m f) (rounds at_least_as_good mix k m g) (λ t q. rounds_same m l f g h k t q) s p

  -- the better of two values, the first of equals
  abbrev better : V → V → V
  better x y = cond (at_least_as_good x y) x y

  -- it does not matter which pair is compared first
  better_assoc : (x y z : V) → better (better x y) z ≡ better x (better y z)
  better_assoc x y z = elim (cases_Bool (at_least_as_good x y)) [
    | inl e ↦ elim (cases_Bool (at_least_as_good y z)) [
      | inl f ↦ rw (e, f, e, laws.transitive x y z e f)
      | inr f ↦ rw (e, f)
    ]
    | inr e ↦ elim (cases_Bool (at_least_as_good y z)) [
      | inl f ↦ rw (e, f, e)
      | inr f ↦ rw (e, f, not_over x y z e f)
    ]
  ]
    where
      not_over : (x y z : V) → at_least_as_good x y ≡ false → at_least_as_good y z ≡ false → at_least_as_good x z ≡ false
      not_over x y z e f = elim (cases_Bool (at_least_as_good x z)) [
        | inl g ↦ ⊎_elim (λ q. absurd (both_ways (at_least_as_good y z) f q)) (λ q. absurd (both_ways (at_least_as_good x y) e (laws.transitive x z y g q))) (laws.complete y z)
        | inr g ↦ g
      ]

  -- the most preferred of a list with one more in front
  most_better : (x y : V) (ys : List V) → most at_least_as_good (better x y) ys ≡ better x (most at_least_as_good y ys)
  most_better x y [] = refl
  most_better x y (z ∷ zs) = better_assoc x y (most at_least_as_good z zs)

  -- the loop finds the most preferred
  pub so_far_most : (x : V) (xs : List V) → so_far at_least_as_good x xs ≡ most at_least_as_good x xs
  so_far_most x [] = refl
  so_far_most x (y ∷ ys) = so_far_most (better x y) ys ∙ most_better x y ys
