-- A ring with two states or more, and a weight below the denominator, is lawful.
use Rattle.std.specs.Prelude.{◌≡◌, ℕ, ◌+◌, ◌-◌, ◌<◌, ◌≤◌, List, [], ◌∷◌, length, ◌==◌, nat_lt, refl}
use Rattle.std.proofs.Common.{arith}
use Rattle.std.proofs.lemmas.Bool.{cond_both, ltb-true, ltb-false, eqb-true, eqb-false}
use Rattle.model.specs.Mdp.{Row, Lawful, LawfulRow, Each, to}
use Rattle.ring.specs.Rings.{ring_model, turn}

module _ (n d w : ℕ) (round : (2 ≤ n) × (n ≤ 512)) (divisible : d ≤ 1000000) (weighted : (1 ≤ w) × (w < d)) where
  -- the row of a state
  turn_row : (s : ℕ) → s < n → LawfulRow n d (turn n d w s)
  turn_row s h =
      cond_both (s == n - 1) (to 0 w ∷ to s (d - w) ∷ []) (to s (d - w) ∷ to (s + 1) w ∷ []) (LawfulRow n d)
      (λ e. let k = eqb-true s (n - 1) e in record { ascends = (omega arith, omega arith, omega arith, (omega arith, omega arith, omega arith, tt)); sums = omega arith })
      (λ e. let k = eqb-false s (n - 1) e in record { ascends = (omega arith, omega arith, omega arith, (omega arith, omega arith, omega arith, tt)); sums = omega arith })

  -- the choices of a state, by whether it exists
  by_place : (P : List Row → Type 0) (s : ℕ) → (s < n → P (turn n d w s ∷ [])) → (n ≤ s → P []) → P ((ring_model n d w).choices s)
  by_place P s here past = cond_both (nat_lt s n) (turn n d w s ∷ []) [] P (λ e. here (ltb-true s n e)) (λ e. past (ltb-false s n e))

  -- a ring keeps the laws of a model
  pub ring_lawful : Lawful (ring_model n d w)
  ring_lawful = record {
    some_state = omega arith;
    few_states = omega arith;
    some_unit = omega arith;
    few_units = divisible;
    some_choice = λ s h. by_place (λ rows. 1 ≤ length rows) s (λ _. omega arith) (λ k. omega arith);
    few_choices = λ s. by_place (λ rows. length rows ≤ 2048) s (λ _. omega arith) (λ k. omega arith);
    rows = λ s. by_place (Each (LawfulRow n d)) s (λ k. (turn_row s k, tt)) (λ k. tt);
    sixteen_letters = λ s. refl;
    none_past = λ s h. by_place (λ rows. rows ≡ []) s (λ k. absurd (omega arith)) (λ k. refl);
    no_labels_past = λ s h. refl;
  }
