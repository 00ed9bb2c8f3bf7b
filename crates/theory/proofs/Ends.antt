-- the ends after k rounds over the held model bound the tallies of the model itself.
use Rattle.std.proofs.Common.{◌≡◌, ℕ, zero, suc, ◌+◌, ◌-◌, ◌*◌, ◌/◌, ◌^◌, ◌<◌, ◌≤◌, Bool, true, false, cond, List, [], ◌∷◌, map, length, le_trans, le_of_eq, le_refl, mul-le-mul_right, div-lt_iff_lt-mul, div-mul-le_self, arith, leb-true}
use Rattle.std.proofs.lemmas.Bool.Decides.{nat_tests}
use native.Mathlib.Nat.{pow-succ', pow-zero, div-eq_of_lt-le}
use Rattle.model.specs.Mdp.{Mdp, Row, Lawful, LawfulRow, Each}
use Rattle.model.proofs.Lists.{each_map}
use Rattle.theory.specs.Adversaries.{Adversary, Allowed, chosen}
use Rattle.theory.specs.Tallies.{tally_after, tally}
use Rattle.theory.specs.Rounds.{most, most_of, mixed, value, rounds}
use Rattle.theory.specs.Mixes.{whole, mix_down, mix_up, greater, lesser}
use Rattle.theory.specs.Ends.{EndsBound, Close, held, stops, start, lower, upper}
use Rattle.theory.proofs.Rounds.{row_within, ascends_within, some_adversary, no_adversary}
use Rattle.theory.proofs.RuleLaws.{down_greater, down_lesser, up_greater, up_lesser, div_mono}
use Rattle.theory.proofs.Tallies.{spread, spread_mul, spread_le, spread_add, tally_right, tally_out, tally_none, tally_on}
use Rattle.model.specs.HoldLaws.{hold_lawful}
use Rattle.theory.proofs.Holding.{unheld_allowed, lifted, lifted_allowed, lifted_row, unheld_row, stay, reached, lost, under_way, kind}

-- rounding up does not fall below
pub up_above : (d a : ℕ) → 1 ≤ d → a ≤ (a + (d - 1)) / d * d
up_above d a h = omega arith

-- rounding up what is at most c per part more lands at most c + 1 higher than rounding down
pub up_near_down : (d a b c : ℕ) → 1 ≤ d → b ≤ a + d * c → (b + (d - 1)) / d ≤ a / d + suc c
up_near_down d a b c h e =
    let q : (b + (d - 1)) / d < a / d + suc (suc c) = (div-lt_iff_lt-mul {k = d} h).1 (omega arith) in omega arith

-- the row back to a state keeps its value, rounded down
pub down_back : (d x : ℕ) → 1 ≤ d → mix_down d ((d, x) ∷ []) ≡ x
down_back d x h = div-eq_of_lt-le d (omega arith) (omega arith)

-- and rounded up
pub up_back : (d x : ℕ) → 1 ≤ d → mix_up d ((d, x) ∷ []) ≡ x
up_back d x h = div-eq_of_lt-le d (omega arith) (omega arith)

module _ (left right : ℕ → Bool) (m : Mdp) (l : Lawful m) (σ τ : Adversary) (a : Allowed m σ) (b : Allowed (held left right m) τ)
    (agree : (h : List ℕ) (s : ℕ) → stops left right s ≡ false → chosen (held left right m) τ h s ≡ chosen m σ h s) where
  -- a held state keeps its start
  keep_down : (k : ℕ) (h : List ℕ) (s : ℕ) → s < m.states → stops left right s ≡ true → value mix_down k (held left right m) (start right) τ h s ≡ start right s
  keep_down = stay (stops left right) m mix_down (λ x. down_back m.denominator x l.some_unit) (start right) τ b

  -- the same, rounded up
  keep_up : (k : ℕ) (h : List ℕ) (s : ℕ) → s < m.states → stops left right s ≡ true → value mix_up k (held left right m) (start right) τ h s ≡ start right s
  keep_up = stay (stops left right) m mix_up (λ x. up_back m.denominator x l.some_unit) (start right) τ b

  -- an adversary's value rounded down lies at or below its tally
  pub value_down : (k : ℕ) (h : List ℕ) (s : ℕ) → s < m.states →
      value mix_down k (held left right m) (start right) τ h s * m.denominator ^ k ≤ tally_after left right k m σ h s * whole
  value_down zero h s p = elim (kind left right s) [
    | reached e ↦ rw e (omega (arith, pow-zero m.denominator))
    | lost e f ↦ rw e (omega arith)
    | under_way e f ↦ rw e (omega arith)
  ]
  value_down (suc k) h s p = elim (kind left right s) [
    | reached e ↦ rw (keep_down (suc k) h s p (rw e), tally_right left right m l σ a (suc k) h s p e, e) (omega arith)
    | lost e f ↦ rw (keep_down (suc k) h s p (rw (e, f)), e) (omega arith)
    | under_way e f ↦
        let v : ℕ → ℕ = value mix_down k (held left right m) (start right) τ (s ∷ h) in
        let r : Row = chosen m σ h s in
        let t = tally_on left right m l σ a k h s e f in
        let le = spread_le m.states (λ x. v x * m.denominator ^ k) (λ x. tally_after left right k m σ (s ∷ h) x * whole) r
        (row_within m l s (σ (s ∷ h)) (a h s p)) (λ x q. value_down k (s ∷ h) x q) in
        let d = mul-le-mul_right (m.denominator ^ k) (div-mul-le_self (spread v r) m.denominator) in
        rw (agree h s (rw (e, f)), t, pow-succ' m.denominator k)
        (omega (arith, spread_mul (m.denominator ^ k) v r, spread_mul whole (tally_after left right k m σ (s ∷ h)) r))
  ]

  -- and rounded up at or above it
  pub tally_up : (k : ℕ) (h : List ℕ) (s : ℕ) → s < m.states →
      tally_after left right k m σ h s * whole ≤ value mix_up k (held left right m) (start right) τ h s * m.denominator ^ k
  tally_up zero h s p = elim (kind left right s) [
    | reached e ↦ rw (tally_right left right m l σ a 0 h s p e, e) (omega arith)
    | lost e f ↦ rw (tally_out left right m l σ a 0 h s e f) (omega arith)
    | under_way e f ↦ rw (tally_none left right m l σ a h s e) (omega arith)
  ]
  tally_up (suc k) h s p = elim (kind left right s) [
    | reached e ↦ rw (keep_up (suc k) h s p (rw e), tally_right left right m l σ a (suc k) h s p e, e) (omega arith)
    | lost e f ↦ rw (tally_out left right m l σ a (suc k) h s e f) (omega arith)
    | under_way e f ↦
        let v : ℕ → ℕ = value mix_up k (held left right m) (start right) τ (s ∷ h) in
        let r : Row = chosen m σ h s in
        let t = tally_on left right m l σ a k h s e f in
        let le = spread_le m.states (λ x. tally_after left right k m σ (s ∷ h) x * whole) (λ x. v x * m.denominator ^ k) r
        (row_within m l s (σ (s ∷ h)) (a h s p)) (λ x q. tally_up k (s ∷ h) x q) in
        let d = mul-le-mul_right (m.denominator ^ k) (up_above m.denominator (spread v r) l.some_unit) in
        rw (agree h s (rw (e, f)), t, pow-succ' m.denominator k)
        (omega (arith, spread_mul (m.denominator ^ k) v r, spread_mul whole (tally_after left right k m σ (s ∷ h)) r))
  ]

module _ (left right : ℕ → Bool) (m : Mdp) (l : Lawful m) (k s : ℕ) (p : s < m.states) where
  -- the ends bound every adversary, best
  pub best_none_above : (σ : Adversary) → Allowed m σ → tally left right k m σ s * whole ≤ upper greater left right k m s * m.denominator ^ k
  best_none_above σ a =
      let τ = lifted (stops left right) m σ in
      let b = lifted_allowed (stops left right) m σ a in
      let t = tally_up left right m l σ τ a b (lifted_row (stops left right) m σ) k [] s p in
      let u = leb-true _ _ (no_adversary greater mix_up up_greater (held left right m) (hold_lawful (stops left right) m l) (start right) k s p τ b) in
      le_trans t (mul-le-mul_right (m.denominator ^ k) u)

  -- some adversary reaches the lower end for the best
  pub best_some : (σ : Adversary) × Allowed m σ × (lower greater left right k m s * m.denominator ^ k ≤ tally left right k m σ s * whole)
  best_some =
      let c = some_adversary greater mix_down down_greater (held left right m) (hold_lawful (stops left right) m l) (start right) k s p in
      let a = unheld_allowed (stops left right) m l c.0 c.1 in
      (c.0, a, rw c.2 at (value_down left right m l c.0 c.0 a c.1 (unheld_row (stops left right) m c.0) k [] s p))

  -- the ends bound every adversary, worst
  pub worst_none_below : (σ : Adversary) → Allowed m σ → lower lesser left right k m s * m.denominator ^ k ≤ tally left right k m σ s * whole
  worst_none_below σ a =
      let τ = lifted (stops left right) m σ in
      let b = lifted_allowed (stops left right) m σ a in
      let t = value_down left right m l σ τ a b (lifted_row (stops left right) m σ) k [] s p in
      let u = leb-true _ _ (no_adversary lesser mix_down down_lesser (held left right m) (hold_lawful (stops left right) m l) (start right) k s p τ b) in
      le_trans (mul-le-mul_right (m.denominator ^ k) u) t

  -- some adversary is down at the upper end for the worst
  pub worst_some : (σ : Adversary) × Allowed m σ × (tally left right k m σ s * whole ≤ upper lesser left right k m s * m.denominator ^ k)
  worst_some =
      let c = some_adversary lesser mix_up up_lesser (held left right m) (hold_lawful (stops left right) m l) (start right) k s p in
      let a = unheld_allowed (stops left right) m l c.0 c.1 in
      (c.0, a, rw c.2 at (tally_up left right m l c.0 c.0 a c.1 (unheld_row (stops left right) m c.0) k [] s p))

-- a preference that takes from two pairs of close numbers a pair of close numbers
abbrev pub KeepsClose : (ℕ → ℕ → Bool) → Type 0
KeepsClose prefer = (c x y x' y' : ℕ) → Close c x y → Close c x' y' → Close c (cond (prefer x x') x x') (cond (prefer y y') y y')

-- the greater of two does
pub greater_close : KeepsClose greater
greater_close c x y x' y' p q =
    let a = p.under in let b = p.near in let d = q.under in let e = q.near in
    record { under = grind (arith, nat_tests); near = grind (arith, nat_tests) }

-- so does the lesser
pub lesser_close : KeepsClose lesser
lesser_close c x y x' y' p q =
    let a = p.under in let b = p.near in let d = q.under in let e = q.near in
    record { under = grind (arith, nat_tests); near = grind (arith, nat_tests) }

module _ (prefer : ℕ → ℕ → Bool) (keeps : KeepsClose prefer) where
  -- so are the most preferred of two lists
  most_close : (c : ℕ) (f g : Row → ℕ) (r : Row) (rs : List Row) → Close c (f r) (g r) → Each (λ q. Close c (f q) (g q)) rs →
      Close c (most prefer (f r) (map f rs)) (most prefer (g r) (map g rs))
  most_close c f g r [] p e = p
  most_close c f g r (q ∷ qs) p e = keeps c _ _ _ _ p (most_close c f g q qs e.0 e.1)

  -- empty or not
  pub most_of_close : (c x y : ℕ) (f g : Row → ℕ) (rs : List Row) → 1 ≤ length rs → Each (λ q. Close c (f q) (g q)) rs →
      Close c (most_of prefer x (map f rs)) (most_of prefer y (map g rs))
  most_of_close c x y f g [] h e = absurd (omega arith)
  most_of_close c x y f g (r ∷ rs) h e = most_close c f g r rs e.0 e.1

  module _ (m : Mdp) (l : Lawful m) where
    -- the mixes of one row, rounded down and up, move one unit apart
    row_close : (c : ℕ) (u v : ℕ → ℕ) (r : Row) → LawfulRow m.states m.denominator r → ((t : ℕ) → t < m.states → Close c (u t) (v t)) →
        Close (suc c) (mixed mix_down m u r) (mixed mix_up m v r)
    row_close c u v r lr h =
        let d = m.denominator in
        let w = ascends_within m.states 0 r lr.ascends in
        let lo = spread_le m.states u v r w (λ t q. (h t q).under) in
        let hi = spread_le m.states v (λ t. u t + c) r w (λ t q. (h t q).near) in
        let ad = spread_add u c r in
        let su = lr.sums in
        let un = l.some_unit in
        record {
          under = div_mono d (spread u r) (spread v r + (d - 1)) (omega arith);
          near = up_near_down d (spread u r) (spread v r) c un (rw su at (le_trans hi (le_of_eq ad)));
        }

    -- so for each row
    pub each_close : (c : ℕ) (u v : ℕ → ℕ) (rs : List Row) → Each (LawfulRow m.states m.denominator) rs → ((t : ℕ) → t < m.states → Close c (u t) (v t)) →
        Each (λ r. Close (suc c) (mixed mix_down m u r) (mixed mix_up m v r)) rs
    each_close c u v rs e h = each_map (LawfulRow m.states m.denominator) (λ r. Close (suc c) (mixed mix_down m u r) (mixed mix_up m v r)) (λ r lr. row_close c u v r lr h) rs e

    -- after k rounds the two are at most k apart
    pub rounds_close : (v : ℕ → ℕ) (k s : ℕ) → s < m.states → Close k (rounds prefer mix_down k m v s) (rounds prefer mix_up k m v s)
    rounds_close v zero s p = record { under = le_refl (v s); near = omega arith }
    rounds_close v (suc k) s p = most_of_close (suc k) _ _ (mixed mix_down m (rounds prefer mix_down k m v)) (mixed mix_up m (rounds prefer mix_up k m v))
        (m.choices s) (l.some_choice s p) (each_close k (rounds prefer mix_down k m v) (rounds prefer mix_up k m v) (m.choices s) (l.rows s) (λ t q. rounds_close v k t q))

-- the upper end lies at most k above the lower
pub ends_close : (prefer : ℕ → ℕ → Bool) → KeepsClose prefer → (left right : ℕ → Bool) (m : Mdp) → Lawful m → (k s : ℕ) → s < m.states →
    Close k (lower prefer left right k m s) (upper prefer left right k m s)
ends_close prefer keeps left right m l k s p = rounds_close prefer keeps (held left right m) (hold_lawful (stops left right) m l) (start right) k s p

-- the ends bound every adversary
pub ends_bound : EndsBound
ends_bound left right m l k s p = (
  record {
    bounds = record { none_above = best_none_above left right m l k s p; some_reaches = best_some left right m l k s p };
    gap = ends_close greater greater_close left right m l k s p;
  },
  record {
    bounds = record { none_below = worst_none_below left right m l k s p; some_reaches = worst_some left right m l k s p };
    gap = ends_close lesser lesser_close left right m l k s p;
  },
)
