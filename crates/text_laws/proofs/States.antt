-- What the limits say of each state of a content, and of each branch.
use Rattle.std.proofs.Common.{◌≡◌, ℕ, zero, suc, ◌+◌, ◌^◌, ◌<◌, ◌≤◌, List, [], ◌∷◌, length, get_or, sym, ap, subst, ⊎_elim, arith, length-append}
use Rattle.std.proofs.lemmas.List.{get_or_past}
use Rattle.std.proofs.lemmas.Bool.{cases_lt}
use Rattle.model.specs.declared.branch.Branch.{Branch}
use Rattle.model.specs.Mdp.{Row, Each, LawfulRow, Lawful, Ascends, total}
use Rattle.model.proofs.Lists.{each_at, each_from_get_or, each_map}
use Rattle.text.specs.Contents.{State, Content, no_state, model_of, all_choices}

-- a state of a model with n states and the denominator d
pub record LawfulState (n d : ℕ) (s : State) : Type 0 where
  pub labels : length s.labels ≡ 16
  pub some_choice : 1 ≤ length s.choices
  pub rows : Each (LawfulRow n d) s.choices

-- a state has no more choices than all states together
choices_of_one : (ss : List State) (s : ℕ) → length (get_or ss s no_state).choices ≤ length (all_choices ss)
choices_of_one [] s = omega arith
choices_of_one (t ∷ ss) zero = omega (arith, length-append t.choices (all_choices ss))
choices_of_one (t ∷ ss) (suc s) = omega (arith, choices_of_one ss s, length-append t.choices (all_choices ss))

-- a content of lawful states, with all numbers in range, is that of a lawful model
pub lawful_content : (c : Content) → (1 ≤ length c.states) × (length c.states ≤ 512) → (1 ≤ c.denominator) × (c.denominator ≤ 1000000) → length (all_choices c.states) ≤ 2048 → Each (LawfulState (length c.states) c.denominator) c.states → Lawful (model_of c)
lawful_content c n d few each =
    let past : (s : ℕ) → length c.states ≤ s → get_or c.states s no_state ≡ no_state = λ s h. get_or_past c.states s no_state h in
    record {
      some_state = n.0;
      few_states = n.1;
      some_unit = d.0;
      few_units = d.1;
      some_choice = λ s h. (each_at (LawfulState _ _) c.states s no_state each h).some_choice;
      few_choices = λ s. omega (arith, choices_of_one c.states s, few);
      rows = λ s. ⊎_elim (λ h. (each_at (LawfulState _ _) c.states s no_state each h).rows) (λ h. subst (λ t. Each (LawfulRow (length c.states) c.denominator) t.choices) (sym (past s h)) tt) (cases_lt s (length c.states));
      sixteen_letters = λ s. ⊎_elim (λ h. (each_at (LawfulState _ _) c.states s no_state each h).labels) (λ h. ap (λ t. length t.labels) (past s h)) (cases_lt s (length c.states));
      none_past = λ s h. ap (λ t. t.choices) (past s h);
      no_labels_past = λ s h. ap (λ t. t.labels) (past s h);
    }

-- each state of a lawful content is lawful
pub lawful_states : (c : Content) → Lawful (model_of c) → Each (LawfulState (length c.states) c.denominator) c.states
lawful_states c h =
    each_from_get_or (LawfulState (length c.states) c.denominator) c.states no_state (λ s l. record { labels = h.sixteen_letters s; some_choice = h.some_choice s l; rows = h.rows s })

-- a branch with numbers of seven digits at the most
pub record Small (b : Branch) : Type 0 where
  pub target : b.target < 10 ^ 7
  pub weight : b.weight < 10 ^ 7

-- the branches of a row that ascends and does not sum to too much are small
small_row : (n low : ℕ) (r : Row) → n < 10 ^ 7 → Ascends n low r → total r < 10 ^ 7 → Each Small r
small_row n low [] few h sum = tt
small_row n low (b ∷ bs) few h sum =
    (record { target = omega arith; weight = omega arith }, small_row n (b.target + 1) bs few h.3 (omega arith))

-- the branches of a state are small
pub small_rows : (n d : ℕ) (s : State) → n < 10 ^ 7 → d < 10 ^ 7 → LawfulState n d s → Each (Each Small) s.choices
small_rows n d s few_states few_units h =
    each_map (LawfulRow n d) (Each Small) (λ r k. small_row n 0 r few_states k.ascends (omega (arith, k.sums))) s.choices h.rows
