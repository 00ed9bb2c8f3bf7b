-- A ladder in range is lawful.
use Rattle.std.specs.Prelude.{◌≡◌, ℕ, ◌+◌, ◌-◌, ◌<◌, ◌≤◌, Bool, cond, List, [], ◌∷◌, length, ◌==◌, nat_lt, refl}
use Rattle.std.proofs.Common.{arith}
use Rattle.std.proofs.lemmas.Bool.{cond_both, ltb-true, ltb-false, eqb-true, eqb-false}
use Rattle.model.specs.Mdp.{Row, Lawful, LawfulRow, Each, no_labels, to}
use Rattle.ladder.specs.Ladders.{ladder_model, ladder_labels, ladder_choices, climb, only}

module _ (r d w : ℕ) (rungs : (1 ≤ r) × (r ≤ 511)) (units : (1 ≤ d) × (d ≤ 1000000)) (up : (1 ≤ w) × (w ≤ d)) where
  -- the row that stays
  stay_row : (s : ℕ) → s ≤ r → LawfulRow (r + 1) d (to s d ∷ [])
  stay_row s h = record { ascends = (omega arith, omega arith, omega arith, tt); sums = omega arith }

  -- the row that climbs, with two branches or one
  climb_row : (s : ℕ) → s < r → LawfulRow (r + 1) d (climb d w s)
  climb_row s h =
      cond_both (nat_lt w d) (to 0 (d - w) ∷ to (s + 1) w ∷ []) (to (s + 1) w ∷ []) (LawfulRow (r + 1) d)
      (λ e. let k = ltb-true w d e in record { ascends = (omega arith, omega arith, omega arith, (omega arith, omega arith, omega arith, tt)); sums = omega arith })
      (λ e. let k = ltb-false w d e in record { ascends = (omega arith, omega arith, omega arith, tt); sums = omega arith })

  -- the choices of a state, by where it stands
  by_place : (P : List Row → Type 0) (s : ℕ) → (s < r → P ((to s d ∷ []) ∷ climb d w s ∷ [])) → (s ≡ r → P ((to s d ∷ []) ∷ [])) → (r < s → P []) → P (ladder_choices r d w s)
  by_place P s below at past =
      cond_both (nat_lt s r) ((to s d ∷ []) ∷ climb d w s ∷ []) (cond (s == r) ((to s d ∷ []) ∷ []) []) P (λ e. below (ltb-true s r e))
      (λ e. cond_both (s == r) ((to s d ∷ []) ∷ []) [] P (λ f. at (eqb-true s r f)) (λ f. let k = ltb-false s r e in let n = eqb-false s r f in past (omega arith)))

  -- the labels of a state, by where it stands
  by_label : (P : List Bool → Type 0) (s : ℕ) → (s ≡ r → P (only 0)) → (s ≡ 0 → P (only 1)) → P no_labels → P (ladder_labels r s)
  by_label P s top bottom none =
      cond_both (s == r) (only 0) (cond (s == 0) (only 1) no_labels) P (λ e. top (eqb-true s r e))
      (λ e. cond_both (s == 0) (only 1) no_labels P (λ f. bottom (eqb-true s 0 f)) (λ f. none))

  -- a ladder keeps the laws of a model
  pub ladder_lawful : Lawful (ladder_model r d w)
  ladder_lawful = record {
    some_state = omega arith;
    few_states = omega arith;
    some_unit = units.0;
    few_units = units.1;
    some_choice = λ s h. by_place (λ rows. 1 ≤ length rows) s (λ _. omega arith) (λ _. omega arith) (λ k. omega arith);
    few_choices = λ s. by_place (λ rows. length rows ≤ 2048) s (λ _. omega arith) (λ _. omega arith) (λ k. omega arith);
    rows = λ s. by_place (Each (LawfulRow (r + 1) d)) s (λ k. (stay_row s (omega arith), (climb_row s k, tt))) (λ k. (stay_row s (omega arith), tt)) (λ k. tt);
    sixteen_letters = λ s. by_label (λ ls. length ls ≡ 16) s (λ _. refl) (λ _. refl) refl;
    none_past = λ s h. by_place (λ rows. rows ≡ []) s (λ k. absurd (omega arith)) (λ k. absurd (omega arith)) (λ k. refl);
    no_labels_past = λ s h. by_label (λ ls. ls ≡ no_labels) s (λ k. absurd (omega arith)) (λ k. absurd (omega arith)) refl;
  }
