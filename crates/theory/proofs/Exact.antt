-- The largest and the smallest tally: the tally is the value under the rule that only adds up.
use Rattle.std.proofs.Common.{◌≡◌, ℕ, zero, suc, ◌*◌, ◌^◌, ◌<◌, Bool, true, false, cond, List, [], ◌∷◌, sym, ap, ◌∙◌, arith}
use native.Mathlib.Nat.{pow-succ', pow-zero}
use Rattle.model.specs.Mdp.{Mdp, Lawful}
use Rattle.theory.specs.Adversaries.{Adversary, Allowed, chosen}
use Rattle.theory.specs.Tallies.{tally_after, tally}
use Rattle.theory.specs.Rules.{RuleLaws}
use Rattle.theory.specs.Rounds.{mixed, value, rounds}
use Rattle.theory.specs.Mixes.{sum_of, greater, lesser}
use Rattle.theory.specs.Ends.{held, stops}
use Rattle.theory.proofs.Rounds.{row_within, some_adversary, no_adversary, valued_same}
use Rattle.theory.proofs.RuleLaws.{sum_better, greater_laws, lesser_laws}
use Rattle.theory.proofs.Tallies.{tally_right, tally_out, tally_none, tally_on}
use Rattle.model.specs.HoldLaws.{hold_lawful}
use Rattle.theory.proofs.Holding.{unheld_allowed, lifted, lifted_allowed, lifted_row, unheld_row, stop_row, reached, lost, under_way, kind}

-- the rule that only adds up
abbrev pub mix_sum : ℕ → List (ℕ × ℕ) → ℕ
mix_sum d ps = sum_of ps

-- one in the set, 0 elsewhere
abbrev pub one_in : (ℕ → Bool) → ℕ → ℕ
one_in right s = cond (right s) 1 0

-- it is lawful with the greater preferred
pub sum_greater : RuleLaws greater mix_sum
sum_greater = greater_laws mix_sum (λ d before after w x y h. sum_better before after w x y h)

-- and with the lesser
pub sum_lesser : RuleLaws lesser mix_sum
sum_lesser = lesser_laws mix_sum (λ d before after w x y h. sum_better before after w x y h)

module _ (left right : ℕ → Bool) (m : Mdp) (l : Lawful m) (σ τ : Adversary) (a : Allowed m σ) (b : Allowed (held left right m) τ)
    (agree : (h : List ℕ) (s : ℕ) → stops left right s ≡ false → chosen (held left right m) τ h s ≡ chosen m σ h s) where
  -- a held state keeps its share
  keep_sum : (k : ℕ) (h : List ℕ) (s : ℕ) → s < m.states → stops left right s ≡ true →
      value mix_sum k (held left right m) (one_in right) τ h s ≡ m.denominator ^ k * one_in right s
  keep_sum zero h s p e = rw (pow-zero m.denominator) (omega arith)
  keep_sum (suc k) h s p e = ap (mixed mix_sum (held left right m) (value mix_sum k (held left right m) (one_in right) τ (s ∷ h))) (stop_row (stops left right) m τ b h s p e)
      ∙ rw (keep_sum k (s ∷ h) s p e, pow-succ' m.denominator k) (omega arith)

  -- an adversary's value under it is its tally
  pub value_sum : (k : ℕ) (h : List ℕ) (s : ℕ) → s < m.states → value mix_sum k (held left right m) (one_in right) τ h s ≡ tally_after left right k m σ h s
  value_sum zero h s p = elim (kind left right s) [
    | reached e ↦ rw e
    | lost e f ↦ rw (tally_out left right m l σ a 0 h s e f, e)
    | under_way e f ↦ rw (tally_none left right m l σ a h s e, e)
  ]
  value_sum (suc k) h s p = elim (kind left right s) [
    | reached e ↦ rw (keep_sum (suc k) h s p (rw e), tally_right left right m l σ a (suc k) h s p e, e) (omega arith)
    | lost e f ↦ rw (keep_sum (suc k) h s p (rw (e, f)), tally_out left right m l σ a (suc k) h s e f, e) (omega arith)
    | under_way e f ↦ rw (agree h s (rw (e, f)), tally_on left right m l σ a k h s e f)
        (ap sum_of (valued_same m.states _ _ (chosen m σ h s) (row_within m l s (σ (s ∷ h)) (a h s p)) (λ t q. value_sum k (s ∷ h) t q)))
  ]

-- the tally that is preferred to all others: with the greater preferred the largest, with the lesser the smallest
abbrev pub best_tally : (ℕ → ℕ → Bool) → (ℕ → Bool) → (ℕ → Bool) → ℕ → Mdp → ℕ → ℕ
best_tally prefer left right k m s = rounds prefer mix_sum k (held left right m) (one_in right) s

module _ (prefer : ℕ → ℕ → Bool) (laws : RuleLaws prefer mix_sum) (left right : ℕ → Bool) (m : Mdp) (l : Lawful m) (k s : ℕ) (p : s < m.states) where
  -- no adversary's tally is preferred to it
  pub tally_best : (σ : Adversary) → Allowed m σ → prefer (best_tally prefer left right k m s) (tally left right k m σ s) ≡ true
  tally_best σ a =
      let τ = lifted (stops left right) m σ in
      let b = lifted_allowed (stops left right) m σ a in
      rw (value_sum left right m l σ τ a b (lifted_row (stops left right) m σ) k [] s p) at
      (no_adversary prefer mix_sum laws (held left right m) (hold_lawful (stops left right) m l) (one_in right) k s p τ b)

  -- some adversary has it
  pub tally_reached : (σ : Adversary) × Allowed m σ × (tally left right k m σ s ≡ best_tally prefer left right k m s)
  tally_reached =
      let c = some_adversary prefer mix_sum laws (held left right m) (hold_lawful (stops left right) m l) (one_in right) k s p in
      let a = unheld_allowed (stops left right) m l c.0 c.1 in
      (c.0, a, sym (value_sum left right m l c.0 c.0 a c.1 (unheld_row (stops left right) m c.0) k [] s p) ∙ c.2)
