-- Larger sets never make a tally smaller; only the states count. Next.
use Rattle.std.proofs.Common.{◌≡◌, ℕ, zero, suc, ◌*◌, ◌^◌, ◌<◌, ◌≤◌, Bool, true, false, cond, List, [], ◌∷◌, sym, refl, ap, ◌∙◌, inl, inr, le_trans, add-zero, arith, leb-true, div-mul-le_self, mul-le-mul_right}
use Rattle.std.proofs.lemmas.Bool.{cases_Bool, both_ways}
use mathlib.Core.Path.{fun_ext}
use native.Mathlib.Nat.{pow-succ', pow-zero}
use mathlib.Core.Bool.{or-true}
use Rattle.model.specs.Mdp.{Mdp, Row, Lawful, Each}
use Rattle.theory.specs.Adversaries.{Adversary, Allowed, chosen}
use Rattle.theory.specs.Tallies.{runs, meets, weigh, tally_after, second_in, next_tally}
use Rattle.theory.specs.Rules.{valued, RuleLaws}
use Rattle.theory.specs.Rounds.{value, rounds}
use Rattle.theory.specs.Mixes.{whole, sum_of, mix_down, mix_up, greater, lesser}
use Rattle.theory.specs.Ends.{NextEndsBound, start}
use Rattle.theory.proofs.Rounds.{row_within, some_adversary, no_adversary}
use Rattle.theory.proofs.RuleLaws.{down_greater, down_lesser, up_greater, up_lesser}
use Rattle.theory.proofs.Tallies.{spread, spread_le, spread_mul, weigh_suc}
use Rattle.theory.proofs.Ends.{rounds_close, greater_close, lesser_close, up_above}
use Rattle.theory.proofs.Exact.{mix_sum, one_in}

-- each state of one set lies in the other
abbrev pub Subset : Mdp → (ℕ → Bool) → (ℕ → Bool) → Type 0
Subset m f g = (s : ℕ) → s < m.states → f s ≡ true → g s ≡ true

-- the first power
pow_one : (d : ℕ) → d ^ 1 ≡ d
pow_one d = pow-succ' d 0 ∙ rw (pow-zero d) (omega arith)

module _ (m : Mdp) (l : Lawful m) (σ : Adversary) (a : Allowed m σ) where
  -- a property that implies another on paths through states weighs no more
  weigh_below : (k : ℕ) (p q : List ℕ → Bool) (h : List ℕ) (s : ℕ) → s < m.states →
      ((ss : List ℕ) → Each (λ t. t < m.states) ss → p ss ≡ true → q ss ≡ true) → weigh p (runs k m σ h s) ≤ weigh q (runs k m σ h s)
  weigh_below zero p q h s x f = elim (cases_Bool (p (s ∷ []))) [
    | inl e ↦ rw (e, f (s ∷ []) (x, tt) e) (omega arith)
    | inr e ↦ rw e (omega arith)
  ]
  weigh_below (suc k) p q h s x f = rw (weigh_suc p k m σ h s, weigh_suc q k m σ h s)
      (spread_le m.states _ _ (chosen m σ h s) (row_within m l s (σ (s ∷ h)) (a h s x))
      (λ t y. weigh_below k (λ ss. p (s ∷ ss)) (λ ss. q (s ∷ ss)) (s ∷ h) t y (λ ss e. f (s ∷ ss) (x, e))))

  -- meeting an until is kept by larger sets
  meets_below : (left left' right right' : ℕ → Bool) → Subset m left left' → Subset m right right' →
      (ss : List ℕ) → Each (λ t. t < m.states) ss → meets left right ss ≡ true → meets left' right' ss ≡ true
  meets_below left left' right right' f g [] w e = e
  meets_below left left' right right' f g (s ∷ ss) w e = elim (cases_Bool (right s)) [
    | inl r ↦ rw (g s w.0 r)
    | inr r ↦ elim (cases_Bool (left s)) [
      | inl q ↦ rw (f s w.0 q, meets_below left left' right right' f g ss w.1 (rw (r, q) at e)) (or-true (right' s))
      | inr q ↦ absurd (both_ways false refl (rw (r, q) at e))
    ]
  ]

  -- so the tally of an until grows with its sets
  pub tally_below : (left left' right right' : ℕ → Bool) → Subset m left left' → Subset m right right' →
      (k : ℕ) (h : List ℕ) (s : ℕ) → s < m.states → tally_after left right k m σ h s ≤ tally_after left' right' k m σ h s
  tally_below left left' right right' f g k h s p =
      weigh_below k (meets left right) (meets left' right') h s p (meets_below left left' right right' f g)

  -- and being there after one step
  second_below : (set set' : ℕ → Bool) → Subset m set set' → (ss : List ℕ) → Each (λ t. t < m.states) ss → second_in set ss ≡ true → second_in set' ss ≡ true
  second_below set set' f [] w e = e
  second_below set set' f (s ∷ []) w e = e
  second_below set set' f (s ∷ t ∷ ss) w e = f t w.1.0 e

  -- so the tally of a next grows with its set
  pub next_below : (set set' : ℕ → Bool) → Subset m set set' → (s : ℕ) → s < m.states → next_tally set m σ s ≤ next_tally set' m σ s
  next_below set set' f s p = weigh_below 1 (second_in set) (second_in set') [] s p (second_below set set' f)

  -- the tally of a next is a sum over the row taken
  pub next_spread : (set : ℕ → Bool) (s : ℕ) → next_tally set m σ s ≡ spread (one_in set) (chosen m σ [] s)
  next_spread set s = weigh_suc (second_in set) 0 m σ [] s ∙ ap (λ f. spread f (chosen m σ [] s)) (fun_ext (λ t. add-zero (one_in set t)))

  -- the start in units is the whole times the start in ones
  start_spread : (set : ℕ → Bool) (r : Row) → spread (start set) r ≡ spread (one_in set) r * whole
  start_spread set r = ap (λ f. spread f r) (fun_ext (λ t. go (set t))) ∙ sym (spread_mul whole (one_in set) r)
    where
      go : (b : Bool) → cond b whole 0 ≡ cond b 1 0 * whole
      go true = refl
      go false = refl

  -- the weighted sum of the starts is the tally times the whole
  next_is : (set : ℕ → Bool) (s : ℕ) → sum_of (valued (start set) (chosen m σ [] s)) ≡ next_tally set m σ s * whole
  next_is set s = start_spread set (chosen m σ [] s) ∙ ap (λ n. n * whole) (sym (next_spread set s))

  -- the value rounded down lies at or below the tally
  pub next_down : (set : ℕ → Bool) (s : ℕ) → value mix_down 1 m (start set) σ [] s * m.denominator ^ 1 ≤ next_tally set m σ s * whole
  next_down set s = rw (next_is set s, pow_one m.denominator) (div-mul-le_self (next_tally set m σ s * whole) m.denominator)

  -- the value rounded up lies at or above it
  pub next_up : (set : ℕ → Bool) (s : ℕ) → next_tally set m σ s * whole ≤ value mix_up 1 m (start set) σ [] s * m.denominator ^ 1
  next_up set s = rw (next_is set s, pow_one m.denominator) (up_above m.denominator (next_tally set m σ s * whole) l.some_unit)

  -- the value by plain sums is the tally
  next_sum : (set : ℕ → Bool) (s : ℕ) → value mix_sum 1 m (one_in set) σ [] s ≡ next_tally set m σ s
  next_sum set s = sym (next_spread set s)

module _ (prefer : ℕ → ℕ → Bool) (laws : RuleLaws prefer mix_sum) (set : ℕ → Bool) (m : Mdp) (l : Lawful m) (s : ℕ) (p : s < m.states) where
  -- no adversary's tally of a next is preferred to what one round of plain sums gives
  pub next_tally_best : (σ : Adversary) → Allowed m σ → prefer (rounds prefer mix_sum 1 m (one_in set) s) (next_tally set m σ s) ≡ true
  next_tally_best σ a = rw (next_sum m l σ a set s) at (no_adversary prefer mix_sum laws m l (one_in set) 1 s p σ a)

  -- some adversary has that tally
  pub next_tally_reached : (σ : Adversary) × Allowed m σ × (next_tally set m σ s ≡ rounds prefer mix_sum 1 m (one_in set) s)
  next_tally_reached = let c = some_adversary prefer mix_sum laws m l (one_in set) 1 s p in (c.0, c.1, sym (next_sum m l c.0 c.1 set s) ∙ c.2)

module _ (set : ℕ → Bool) (m : Mdp) (l : Lawful m) (s : ℕ) (p : s < m.states) where
  -- next: the ends after one round with nothing held
  pub next_none_above : (σ : Adversary) → Allowed m σ → next_tally set m σ s * whole ≤ rounds greater mix_up 1 m (start set) s * m.denominator ^ 1
  next_none_above σ a = le_trans (next_up m l σ a set s)
      (mul-le-mul_right (m.denominator ^ 1) (leb-true _ _ (no_adversary greater mix_up up_greater m l (start set) 1 s p σ a)))

  -- no adversary lies below the lower end for the worst
  pub next_none_below : (σ : Adversary) → Allowed m σ → rounds lesser mix_down 1 m (start set) s * m.denominator ^ 1 ≤ next_tally set m σ s * whole
  next_none_below σ a = le_trans
      (mul-le-mul_right (m.denominator ^ 1) (leb-true _ _ (no_adversary lesser mix_down down_lesser m l (start set) 1 s p σ a)))
      (next_down m l σ a set s)

  -- some adversary reaches the lower end for the best
  pub next_best_some : (σ : Adversary) × Allowed m σ × (rounds greater mix_down 1 m (start set) s * m.denominator ^ 1 ≤ next_tally set m σ s * whole)
  next_best_some = let c = some_adversary greater mix_down down_greater m l (start set) 1 s p in (c.0, c.1, rw c.2 at (next_down m l c.0 c.1 set s))

  -- some adversary is down at the upper end for the worst
  pub next_worst_some : (σ : Adversary) × Allowed m σ × (next_tally set m σ s * whole ≤ rounds lesser mix_up 1 m (start set) s * m.denominator ^ 1)
  next_worst_some = let c = some_adversary lesser mix_up up_lesser m l (start set) 1 s p in (c.0, c.1, rw c.2 at (next_up m l c.0 c.1 set s))

-- the ends of a next bound every adversary
pub next_ends_bound : NextEndsBound
next_ends_bound set m l s p = (
  record {
    bounds = record { none_above = next_none_above set m l s p; some_reaches = next_best_some set m l s p };
    gap = rounds_close greater greater_close m l (start set) 1 s p;
  },
  record {
    bounds = record { none_below = next_none_below set m l s p; some_reaches = next_worst_some set m l s p };
    gap = rounds_close lesser lesser_close m l (start set) 1 s p;
  },
)
