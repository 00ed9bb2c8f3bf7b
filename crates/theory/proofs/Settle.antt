-- Marks that only grow settle within as many rounds as there are states.
use Rattle.std.proofs.Common.{◌≡◌, ℕ, zero, suc, ◌+◌, ◌-◌, ◌<◌, ◌≤◌, Bool, true, false, cond, ◌⊎◌, sym, refl, ◌∙◌, inl, inr, le_refl, le_of_suc-le-suc, not-suc-le-zero, suc-add, eq-or-lt_of_le, zero-add, sub-add_cancel, arith}
use Rattle.std.proofs.lemmas.Bool.{cases_Bool, both_ways, not-true}
use mathlib.Core.Bool.{or-false}
use Rattle.model.specs.Mdp.{Mdp, Lawful}
use Rattle.theory.specs.Rules.{RuleLaws}
use Rattle.theory.specs.Rounds.{rounds}
use Rattle.theory.specs.Mixes.{mix_marks, no_first, yes_first}
use Rattle.theory.specs.Ends.{held, stops}
use Rattle.theory.specs.WithoutSteps.{all_marks, some_marks, unmarked, Settled}
use Rattle.theory.proofs.Rounds.{rising, falling, round_same}
use Rattle.theory.proofs.RuleLaws.{marks_greater, marks_lesser}
use Rattle.theory.proofs.Holding.{rounds_stay}
use Rattle.theory.proofs.WithoutSteps.{held_lawful}
use Rattle.theory.proofs.Sure.{unmarked_stays, yes_first_yes}

-- how many of the first n are marked
pub marked_count : ℕ → (ℕ → Bool) → ℕ
marked_count zero f = 0
marked_count (suc n) f = cond (f n) 1 0 + marked_count n f

-- at most all
marked_count_most : (n : ℕ) (f : ℕ → Bool) → marked_count n f ≤ n
unfolding marked_count
marked_count_most zero f = le_refl 0
marked_count_most (suc n) f = elim (cases_Bool (f n)) [ inl e ↦ rw e (omega (arith, marked_count_most n f)) | inr e ↦ rw e (omega (arith, marked_count_most n f)) ]

-- the last or one before
last_or : (n s : ℕ) → s < suc n → (s ≡ n) ⊎ (s < n)
last_or n s h = eq-or-lt_of_le (le_of_suc-le-suc h)

-- all alike, or more are marked
same_or_more : (n : ℕ) (f g : ℕ → Bool) → ((s : ℕ) → s < n → f s ≡ true → g s ≡ true) →
    ((marked_count n f ≤ marked_count n g) × ((s : ℕ) → s < n → g s ≡ f s)) ⊎ (marked_count n f < marked_count n g)
unfolding marked_count
same_or_more zero f g h = inl (le_refl 0, λ s p. absurd (not-suc-le-zero p))
same_or_more (suc n) f g h = go (cases_Bool (f n)) (cases_Bool (g n)) (same_or_more n f g (λ s p. h s (omega arith)))
  where
    all : g n ≡ f n → ((s : ℕ) → s < n → g s ≡ f s) → (s : ℕ) → s < suc n → g s ≡ f s
    all e k s p = elim (last_or n s p) [ inl q ↦ rw q e | inr q ↦ k s q ]

    go : (f n ≡ true) ⊎ (f n ≡ false) → (g n ≡ true) ⊎ (g n ≡ false) → ((marked_count n f ≤ marked_count n g) × ((s : ℕ) → s < n → g s ≡ f s)) ⊎ (marked_count n f < marked_count n g) →
        ((cond (f n) 1 0 + marked_count n f ≤ cond (g n) 1 0 + marked_count n g) × ((s : ℕ) → s < suc n → g s ≡ f s)) ⊎ (cond (f n) 1 0 + marked_count n f < cond (g n) 1 0 + marked_count n g)
    go (inl x) (inl y) (inl (i)) = inl (rw (x, y) (omega (arith, i.0)), all (y ∙ sym x) i.1)
    go (inl x) (inl y) (inr i) = inr (rw (x, y) (omega arith))
    go (inl x) (inr y) i = absurd (both_ways (g n) y (h n (le_refl (suc n)) x))
    go (inr x) (inl y) (inl i) = inr (rw (x, y) (omega (arith, i.0)))
    go (inr x) (inl y) (inr i) = inr (rw (x, y) (omega arith))
    go (inr x) (inr y) (inl i) = inl (rw (x, y) (omega (arith, i.0)), all (y ∙ sym x) i.1)
    go (inr x) (inr y) (inr i) = inr (rw (x, y) (omega arith))

module _ (m : Mdp) (marks : ℕ → ℕ → Bool) (grow : (k s : ℕ) → s < m.states → marks k s ≡ true → marks (suc k) s ≡ true) where
  -- as long as marks are added, there are at least as many marks as rounds
  settle_from : (fuel k : ℕ) → k + fuel ≡ suc m.states → k ≤ marked_count m.states (marks k) → (j : ℕ) × (j ≤ m.states) × Settled m marks j
  settle_from zero k e h = absurd (omega (arith, marked_count_most m.states (marks k)))
  settle_from (suc fuel) k e h = elim (same_or_more m.states (marks k) (marks (suc k)) (grow k)) [
    | inl i ↦ (k, omega (arith, marked_count_most m.states (marks k)), i.1)
    | inr i ↦ settle_from fuel (suc k) (omega arith) (omega arith)
  ]

  -- so they settle within as many rounds as there are states
  pub settle : (j : ℕ) × (j ≤ m.states) × Settled m marks j
  settle = settle_from (suc m.states) 0 (omega arith) (omega arith)

-- no preferred: what is marked stays marked
pub no_first_grows : (x y : Bool) → no_first x y ≡ true → x ≡ true → y ≡ true
no_first_grows true y e f = e
no_first_grows false y e f = absurd (both_ways false refl f)

-- and the other way round
pub from_no_first : (x y : Bool) → (x ≡ true → y ≡ true) → no_first x y ≡ true
from_no_first true y h = h refl
from_no_first false y h = refl

-- the same for yes preferred
pub from_yes_first : (x y : Bool) → (y ≡ true → x ≡ true) → yes_first x y ≡ true
from_yes_first true y h = refl
from_yes_first false true h = h refl
from_yes_first false false h = refl

module _ (left right : ℕ → Bool) (m : Mdp) (l : Lawful m) where
  -- the three fixed points of marks are reached within as many rounds as there are states
  pub all_settles : (j : ℕ) × (j ≤ m.states) × Settled m (all_marks left right m right) j
  all_settles = settle m (all_marks left right m right) (λ k s p. no_first_grows _ _
      (falling no_first mix_marks marks_lesser (held left right m) (held_lawful left right m l) right
      (λ t q. from_no_first _ _ (λ r. rounds_stay no_first mix_marks (stops left right) m or-false right 1 t q (rw r) ∙ r)) k s p))

  -- with yes preferred, marks settle that begin with marks that the first round keeps
  some_settle : (from : ℕ → Bool) → ((t : ℕ) → t < m.states → from t ≡ true → some_marks left right m from 1 t ≡ true) →
      (j : ℕ) × (j ≤ m.states) × Settled m (some_marks left right m from) j
  some_settle from kept = settle m (some_marks left right m from) (λ k s p. yes_first_yes _ _
      (rising yes_first mix_marks marks_greater (held left right m) (held_lawful left right m l) from (λ t q. from_yes_first _ _ (kept t q)) k s p))

  -- those that begin with right
  pub some_settles : (j : ℕ) × (j ≤ m.states) × Settled m (some_marks left right m right) j
  some_settles = some_settle right (λ t q r. rounds_stay yes_first mix_marks (stops left right) m or-false right 1 t q (rw r) ∙ r)

  -- those that begin with what is unmarked
  pub unmarked_settles : (k : ℕ) → Settled m (all_marks left right m right) k → (j : ℕ) × (j ≤ m.states) × Settled m (some_marks left right m (unmarked left right m k)) j
  unmarked_settles k settled = some_settle (unmarked left right m k) (λ t q r. unmarked_stays left right m l k settled 1 t q (not-true _ r))

-- once settled, always settled
module _ (at_least_as_good : Bool → Bool → Bool) (laws : RuleLaws at_least_as_good mix_marks) (m : Mdp) (l : Lawful m) (v : ℕ → Bool) where
  -- the next round
  settled_next : (k : ℕ) → Settled m (λ i. rounds at_least_as_good mix_marks i m v) k → Settled m (λ i. rounds at_least_as_good mix_marks i m v) (suc k)
  settled_next k e s p = round_same at_least_as_good mix_marks laws m l (rounds at_least_as_good mix_marks (suc k) m v) (rounds at_least_as_good mix_marks k m v) e s p

  -- any later round
  pub settled_later : (k d : ℕ) → Settled m (λ i. rounds at_least_as_good mix_marks i m v) k → Settled m (λ i. rounds at_least_as_good mix_marks i m v) (d + k)
  settled_later k zero e = rw (zero-add k) e
  settled_later k (suc d) e = rw (suc-add d k) (settled_next (d + k) (settled_later k d e))

  -- by the k-th round, if by an earlier one
  pub settled_by : (k : ℕ) → (j : ℕ) × (j ≤ k) × Settled m (λ i. rounds at_least_as_good mix_marks i m v) j → Settled m (λ i. rounds at_least_as_good mix_marks i m v) k
  settled_by k r = rw (sub-add_cancel r.1) at (settled_later r.0 (k - r.0) r.2)

module _ (left right : ℕ → Bool) (m : Mdp) (l : Lawful m) where
  -- so all three are settled after as many rounds as there are states
  pub all_settled : Settled m (all_marks left right m right) m.states
  all_settled = settled_by no_first marks_lesser (held left right m) (held_lawful left right m l) right m.states (all_settles left right m l)

  -- those with yes preferred
  pub some_settled : Settled m (some_marks left right m right) m.states
  some_settled = settled_by yes_first marks_greater (held left right m) (held_lawful left right m l) right m.states (some_settles left right m l)

  -- those that begin with what is unmarked
  pub unmarked_settled : Settled m (some_marks left right m (unmarked left right m m.states)) m.states
  unmarked_settled = settled_by yes_first marks_greater (held left right m) (held_lawful left right m l) (unmarked left right m m.states) m.states
      (unmarked_settles left right m l m.states all_settled)
