-- A lawful model with states held is lawful.
use Rattle.std.specs.Prelude.{◌≡◌, ℕ, ◌<◌, ◌≤◌, Bool, ◌&&◌, List, [], length, nat_lt}
use Rattle.std.proofs.Common.{arith}
use Rattle.std.proofs.lemmas.Bool.{cond_both, ltb-true, and_parts}
use Rattle.model.specs.Mdp.{Mdp, Row, Lawful, LawfulRow, Each, stay, hold}

module _ (set : ℕ → Bool) (m : Mdp) where
  -- what holds of the one choice of each held state and of its choices in m holds of its choices
  pub hold_cases : (P : List Row → Type 0) (s : ℕ) → (s < m.states → P (stay m.denominator s)) → P (m.choices s) → P ((hold set m).choices s)
  hold_cases P s held free =
      cond_both (nat_lt s m.states && set s) (stay m.denominator s) (m.choices s) P
      (λ e. held (ltb-true s m.states (and_parts (nat_lt s m.states) (set s) e).0)) (λ _. free)

  -- a model with states held keeps the laws of a model
  pub hold_lawful : Lawful m → Lawful (hold set m)
  hold_lawful l = record {
    some_state = l.some_state;
    few_states = l.few_states;
    some_unit = l.some_unit;
    few_units = l.few_units;
    some_choice = λ s h. hold_cases (λ rows. 1 ≤ length rows) s (λ _. omega arith) (l.some_choice s h);
    few_choices = λ s. hold_cases (λ rows. length rows ≤ 2048) s (λ _. omega arith) (l.few_choices s);
    rows = λ s. hold_cases (Each (LawfulRow m.states m.denominator)) s (λ k. (record { ascends = (omega arith, k, l.some_unit, tt); sums = omega arith }, tt)) (l.rows s);
    sixteen_letters = l.sixteen_letters;
    none_past = λ s h. hold_cases (λ rows. rows ≡ []) s (λ k. absurd (omega arith)) (l.none_past s h);
    no_labels_past = l.no_labels_past;
  }
