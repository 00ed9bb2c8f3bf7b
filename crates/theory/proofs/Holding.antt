-- What the adversaries of the held model do.
use Rattle.std.proofs.Common.{◌≡◌, ℕ, zero, suc, ◌<◌, Bool, true, false, cond, ltb, List, [], ◌∷◌, map, refl, ap, ◌∙◌, arith, lt-ltb, inl, inr}
use Rattle.std.proofs.lemmas.Bool.{cases_Bool}
use mathlib.Core.Bool.{and-false}
use Rattle.model.specs.Mdp.{Mdp, Lawful, hold, to}
use Rattle.theory.specs.Adversaries.{Adversary, Allowed, chosen}
use Rattle.theory.specs.Rounds.{mixed, value, most_of, rounds}

module _ (stop : ℕ → Bool) (m : Mdp) where
  -- a held state: one row back to itself
  pub hold_yes : (s : ℕ) → s < m.states → stop s ≡ true → (hold stop m).choices s ≡ (to s m.denominator ∷ []) ∷ []
  hold_yes s p e = rw (lt-ltb s m.states p, e)

  -- any other: as below
  pub hold_no : (s : ℕ) → stop s ≡ false → (hold stop m).choices s ≡ m.choices s
  hold_no s e = rw (e, and-false (ltb s m.states))

  -- what is allowed over the hold is allowed below it
  pub unheld_allowed : Lawful m → (σ : Adversary) → Allowed (hold stop m) σ → Allowed m σ
  unheld_allowed l σ a h s p = elim (cases_Bool (stop s)) [
    | inl e ↦ let q : σ (s ∷ h) < 1 = rw (hold_yes s p e) at (a h s p) in let c = l.some_choice s p in omega arith
    | inr e ↦ rw (hold_no s e) at (a h s p)
  ]

  -- the adversary that takes the one choice of a held state
  pub lifted : Adversary → Adversary
  lifted σ [] = 0
  lifted σ (s ∷ h) = cond (stop s) 0 (σ (s ∷ h))

  -- it is allowed there
  pub lifted_allowed : (σ : Adversary) → Allowed m σ → Allowed (hold stop m) (lifted σ)
  unfolding lifted
  lifted_allowed σ a h s p = elim (cases_Bool (stop s)) [
    | inl e ↦ rw (hold_yes s p e, e) (omega arith)
    | inr e ↦ rw (hold_no s e, e) (a h s p)
  ]

  -- and takes the same row where the state is not held
  pub lifted_row : (σ : Adversary) (h : List ℕ) (s : ℕ) → stop s ≡ false → chosen (hold stop m) (lifted σ) h s ≡ chosen m σ h s
  unfolding lifted
  lifted_row σ h s e = rw (hold_no s e, e)

  -- the row taken at a held state
  pub stop_row : (σ : Adversary) → Allowed (hold stop m) σ → (h : List ℕ) (s : ℕ) → s < m.states → stop s ≡ true → chosen (hold stop m) σ h s ≡ to s m.denominator ∷ []
  stop_row σ a h s p e =
      let q : σ (s ∷ h) < 1 = rw (hold_yes s p e) at (a h s p) in
      let z : σ (s ∷ h) ≡ 0 = omega arith in
      rw (hold_yes s p e, z)

  -- an adversary over the hold takes the same rows elsewhere
  pub unheld_row : (σ : Adversary) (h : List ℕ) (s : ℕ) → stop s ≡ false → chosen (hold stop m) σ h s ≡ chosen m σ h s
  unheld_row σ h s e = rw (hold_no s e)

  -- a held state keeps its value
  pub stay : {V : Type 0} (mix : ℕ → List (ℕ × V) → V) → ((x : V) → mix m.denominator ((m.denominator, x) ∷ []) ≡ x) →
      (v : ℕ → V) (σ : Adversary) → Allowed (hold stop m) σ → (k : ℕ) (h : List ℕ) (s : ℕ) → s < m.states → stop s ≡ true → value mix k (hold stop m) v σ h s ≡ v s
  stay mix same v σ a zero h s p e = refl
  stay mix same v σ a (suc k) h s p e = ap (mixed mix (hold stop m) (value mix k (hold stop m) v σ (s ∷ h))) (stop_row σ a h s p e)
      ∙ same _ ∙ stay mix same v σ a k (s ∷ h) s p e

-- the three kinds of state
pub data Kind (left right : ℕ → Bool) (s : ℕ) : Type 0 where
  reached : right s ≡ true → Kind left right s
  lost : right s ≡ false → left s ≡ false → Kind left right s
  under_way : right s ≡ false → left s ≡ true → Kind left right s

-- every state is of one kind
pub kind : (left right : ℕ → Bool) (s : ℕ) → Kind left right s
kind left right s = elim (cases_Bool (right s)) [
  | inl e ↦ reached e
  | inr e ↦ elim (cases_Bool (left s)) [ inl f ↦ under_way e f | inr f ↦ lost e f ]
]

-- rounds leave a held state as it was
pub rounds_stay : {V : Type 0} (at_least_as_good : V → V → Bool) (mix : ℕ → List (ℕ × V) → V) (stop : ℕ → Bool) (m : Mdp) →
    ((x : V) → mix m.denominator ((m.denominator, x) ∷ []) ≡ x) →
    (v : ℕ → V) (k s : ℕ) → s < m.states → stop s ≡ true → rounds at_least_as_good mix k (hold stop m) v s ≡ v s
rounds_stay at_least_as_good mix stop m same v zero s p e = refl
rounds_stay at_least_as_good mix stop m same v (suc k) s p e =
    ap (λ cs. most_of at_least_as_good (rounds at_least_as_good mix k (hold stop m) v s) (map (mixed mix (hold stop m) (rounds at_least_as_good mix k (hold stop m) v)) cs)) (hold_yes stop m s p e)
    ∙ same (rounds at_least_as_good mix k (hold stop m) v s) ∙ rounds_stay at_least_as_good mix stop m same v k s p e
