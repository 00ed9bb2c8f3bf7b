-- What the outcome of a formula means follows from the counts of its row.
use Rattle.std.proofs.Common.{◌≡◌, ◌≢◌, ℕ, zero, suc, ◌+◌, ◌<◌, Bool, true, false, cond, eqb, ltb, count_by, List, [], ◌∷◌, length, get_or, sym, refl, ◌∙◌, inl, inr, arith}
use Rattle.std.proofs.lemmas.Bool.{cases_Bool, cond_both, cond-true, cond-false, ltb-true, ltb-false, eqb-true, eq-eqb, true_from_ne_false}
use Rattle.std.proofs.lemmas.List.Sums.{sum_by-cons}
use Rattle.std.proofs.lemmas.List.FromFn.{get_or-map-range_with_len, length-map-range_with_len}
use Rattle.model.specs.Mdp.{Mdp}
use Rattle.theory.specs.Formulas.{Formula}
use Rattle.theory.specs.Verdicts.{VerdictSets}
use Rattle.theory.specs.Found.{verdicts, JudgedRightly}
use Rattle.trial.specs.VerdictBytes.{verdict_number, verdict_by}
use Rattle.trial.specs.Rows.{byte_at}
use Rattle.trial.specs.Judging.{row_of}
use Rattle.trial.proofs.Meanings.{none_possible, two_open}
use Rattle.limits_text.specs.declared.outcome.Outcome.TheVariants as outcome
use Rattle.limits_text.specs.Outcomes.{counts_of, outcome_of, OutcomeMeans}

-- a byte that is counted stands somewhere in the row
some_there : (b : ℕ) (row : List ℕ) → 0 < count_by (λ x. eqb x b) row → (i : ℕ) × (i < length row) × (get_or row i 0 ≡ b)
some_there b [] h = absurd (omega arith)
some_there b (x ∷ xs) h =
    elim (cases_Bool (eqb x b)) [
      | inl e ↦ (0, omega arith, eqb-true x b e)
      | inr e ↦
          let count : count_by (λ y. eqb y b) (x ∷ xs) ≡ cond {A = ℕ} (eqb x b) 1 0 + count_by (λ y. eqb y b) xs = sum_by-cons (λ y. cond (eqb y b) 1 0) x xs in
          let none : cond {A = ℕ} (eqb x b) 1 0 ≡ 0 = cond-false (eqb x b) 1 0 e in
          let rest = some_there b xs (omega arith) in
          (suc rest.0, omega (arith, rest.1), rest.2)
    ]

-- one that is not counted stands nowhere
none_there : (b : ℕ) (row : List ℕ) → count_by (λ x. eqb x b) row ≡ 0 → (i : ℕ) → i < length row → get_or row i 0 ≢ b
none_there b [] e i h = absurd (omega arith)
none_there b (x ∷ xs) e zero h = λ same.
    let count : count_by (λ y. eqb y b) (x ∷ xs) ≡ cond {A = ℕ} (eqb x b) 1 0 + count_by (λ y. eqb y b) xs = sum_by-cons (λ y. cond (eqb y b) 1 0) x xs in
    let one : cond {A = ℕ} (eqb x b) 1 0 ≡ 1 = cond-true (eqb x b) 1 0 (eq-eqb x b same) in
    omega arith
none_there b (x ∷ xs) e (suc i) h =
    let count : count_by (λ y. eqb y b) (x ∷ xs) ≡ cond {A = ℕ} (eqb x b) 1 0 + count_by (λ y. eqb y b) xs = sum_by-cons (λ y. cond (eqb y b) 1 0) x xs in
    none_there b xs (omega arith) i (omega arith)

-- what the byte of a verdict tells of its sets, where it is none of a no
other_sure : (x y : Bool) → verdict_number (verdict_by x y) ≢ 0 → verdict_number (verdict_by x y) ≢ 2 → x ≡ true
other_sure true y not_no not_undecided = refl
other_sure false true not_no not_undecided = absurd (not_undecided refl)
other_sure false false not_no not_undecided = absurd (not_no refl)

other_possible : (x y : Bool) → (x ≡ true → y ≡ true) → verdict_number (verdict_by x y) ≢ 0 → y ≡ true
other_possible true y within not_no = within refl
other_possible false true within not_no = refl
other_possible false false within not_no = absurd (not_no refl)

module _ (m : Mdp) (f : Formula) (rightly : JudgedRightly m f) where
  -- the verdicts on the formula, and its row
  abbrev v : VerdictSets
  v = verdicts m f

  abbrev row : List ℕ
  row = row_of m f

  -- the row has a byte for each state
  long : length row ≡ m.states
  long = length-map-range_with_len (byte_at v) 0 m.states

  -- which is that of its verdict
  there : (s : ℕ) → s < m.states → get_or row s 0 ≡ byte_at v s
  there s h = get_or-map-range_with_len (byte_at v) 0 m.states s s 0 h (omega arith)

  -- what is sure is possible
  within : (s : ℕ) → s < m.states → v.sure s ≡ true → v.possible s ≡ true
  within s h e = true_from_ne_false (v.possible s) (λ none. (rightly.meant s h).no_fails none ((rightly.meant s h).yes_holds e))

  -- with a no, the formula fails at its state
  fails : 0 < count_by (λ b. eqb b 0) row → OutcomeMeans m f outcome.Fails
  fails some =
      let at = some_there 0 row some in
      let inside : at.0 < m.states = omega (arith, at.1, long) in
      (at.0, inside, (rightly.meant at.0 inside).no_fails (none_possible (v.sure at.0) (v.possible at.0) (sym (there at.0 inside) ∙ at.2)))

  module _ (no : count_by (λ b. eqb b 0) row ≡ 0) where
    -- without one no state has it
    not_no : (s : ℕ) → s < m.states → byte_at v s ≢ 0
    not_no s h = λ e. none_there 0 row no s (omega (arith, long)) (there s h ∙ e)

    -- with an undecided state, that one is so, and every state is possible
    undecided : 0 < count_by (λ b. eqb b 2) row → OutcomeMeans m f outcome.Undecided
    undecided some =
        let at = some_there 2 row some in
        let inside : at.0 < m.states = omega (arith, at.1, long) in
        let both = two_open (v.sure at.0) (v.possible at.0) (sym (there at.0 inside) ∙ at.2) in
        ((at.0, inside, record { not_sure = both.0; is_possible = both.1 }), λ s h. other_possible (v.sure s) (v.possible s) (within s h) (not_no s h))

    -- without one too, every state is sure
    holds : count_by (λ b. eqb b 2) row ≡ 0 → OutcomeMeans m f outcome.Holds
    holds none = λ s h. (rightly.meant s h).yes_holds (other_sure (v.sure s) (v.possible s) (not_no s h) (λ e. none_there 2 row none s (omega (arith, long)) (there s h ∙ e)))

  -- so the outcome means what it says
  pub outcome_means : OutcomeMeans m f (outcome_of (counts_of row))
  outcome_means =
      cond_both (ltb 0 (counts_of row).no) _ _ (OutcomeMeans m f) (λ e. fails (ltb-true 0 _ e)) (λ e.
      let no : count_by (λ b. eqb b 0) row ≡ 0 = omega (arith, ltb-false 0 _ e) in
      cond_both (ltb 0 (counts_of row).undecided) _ _ (OutcomeMeans m f) (λ e'. undecided no (ltb-true 0 _ e')) (λ e'. let none : count_by (λ b. eqb b 2) row ≡ 0 = omega (arith, ltb-false 0 _ e') in holds no none))
