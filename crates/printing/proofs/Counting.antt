-- How many choices and branches a lawful model has, as sums over its states.
use Rattle.std.proofs.Common.{◌≡◌, ℕ, ◌*◌, ◌<◌, ◌≤◌, ◌^◌, List, [], ◌∷◌, map, length, refl, ap, ◌∙◌, arith, length-append}
use Rattle.std.specs.List.{range_with_len, sum_by}
use Rattle.std.proofs.lemmas.List.FromFn.{fill_by_all, length-range_with_len}
use Rattle.std.proofs.lemmas.List.Elements.{All-from_get_or}
use Rattle.std.proofs.lemmas.List.Sums.{sum_by-cons, sum_by-le}
use Rattle.std.specs.declared.iter.Map.{Map}
use Rattle.std.specs.declared.ops.Range.{Range}
use Rattle.std.specs.Fn.{Called}
use Rattle.std.specs.Iterator.Adapters.{map_source, map_callee}
use Rattle.std.proofs.iter.Yields.{nat_range_steps}
use Rattle.std.proofs.lemmas.Iterator.{YieldsList, maps, YieldsList-from_range, YieldsList-from_map}
use denote.Param.Members.{Mut}
use Rattle.model.specs.Mdp.{Mdp, Row, row, LawfulRow, Each, Lawful}
use Rattle.model.proofs.Rows.{ascends_short}
use Rattle.text.specs.Contents.{all_choices, all_branches}
use Rattle.text.proofs.Joining.{branches_append}
use Rattle.printing.specs.Layouts.{state_of}

-- lawful rows have at most 512 branches each
rows_short : (n d : ℕ) (rs : List Row) → n ≤ 512 → Each (LawfulRow n d) rs → length (all_branches rs) ≤ 512 * length rs
rows_short n d [] h each = omega arith
rows_short n d (r ∷ rs) h each =
    let one = ascends_short n 0 r each.0.ascends (omega arith) in
    let rest = rows_short n d rs h each.1 in
    simp length-append (omega arith)

-- what a map over the numbers below n yields, where the closure computes h
pub over_range : {F : Type 0} (g : Mut F (ℕ × Unit {0}) ℕ) (h : ℕ → ℕ) (n : ℕ) {end : ℕ} {s : Map (Range ℕ) F} {f : F} → map_source s ≡ record { start = 0; end = end } → end ≡ n → map_callee s ≡ f → ((x r : ℕ) (q : F) → Called g f (x, tt) r q → (q ≡ f) × (r ≡ h x)) → YieldsList (maps nat_range_steps g) (λ r. r) s (map h (range_with_len 0 n))
over_range g h n {end} source all callee calls = YieldsList-from_map g h (YieldsList-from_range 0 end n source (omega (arith, all))) callee calls

-- n terms of at most `most` each
sum_short : (f : ℕ → ℕ) (most n : ℕ) → ((k : ℕ) → f k ≤ most) → sum_by f (range_with_len 0 n) ≤ n * most
sum_short f most n each =
    let ns = range_with_len 0 n in
    omega (arith, sum_by-le f most ns (All-from_get_or (λ k. f k ≤ most) ns 0 (λ i _. each _)), ap (λ k. k * most) (length-range_with_len 0 n))

-- the branches of rows that a function of the number gives
rows_counted : (f : ℕ → Row) (ns : List ℕ) → length (all_branches (map f ns)) ≡ sum_by (λ k. length (f k)) ns
rows_counted f [] = refl
rows_counted f (k ∷ ns) = simp (length-append, rows_counted f ns, sum_by-cons)

module _ (m : Mdp) where
  -- how many choices a state has
  abbrev pub choices_at : ℕ → ℕ
  choices_at s = length (m.choices s)

  -- and how many branches those have
  abbrev pub branches_at : ℕ → ℕ
  branches_at s = length (all_branches (m.choices s))

  -- how many branches a choice has
  abbrev pub branches_of : ℕ → ℕ → ℕ
  branches_of s k = length (row m s k)

  -- the choices of several states
  pub choices_counted : (ns : List ℕ) → length (all_choices (map (state_of m) ns)) ≡ sum_by choices_at ns
  choices_counted [] = refl
  choices_counted (s ∷ ns) = simp (length-append, choices_counted ns, sum_by-cons)

  -- the branches of several states
  pub branches_counted : (ns : List ℕ) → length (all_branches (all_choices (map (state_of m) ns))) ≡ sum_by branches_at ns
  branches_counted [] = refl
  branches_counted (s ∷ ns) = simp (branches_append, branches_counted ns, sum_by-cons)

  -- the branches of the choices of a state
  pub state_counted : (s : ℕ) → branches_at s ≡ sum_by (branches_of s) (range_with_len 0 (choices_at s))
  state_counted s =
      ap (λ rs. length (all_branches rs)) (fill_by_all (row m s) (m.choices s) (choices_at s) [] refl (λ k h. refl)) ∙ rows_counted (row m s) (range_with_len 0 (choices_at s))

  module _ (l : Lawful m) where
    -- a state of a lawful model has at most 512 branches for each of 2,048 choices
    branches_few : (s : ℕ) → branches_at s ≤ 1048576
    branches_few s =
        let each = rows_short m.states m.denominator (m.choices s) l.few_states (l.rows s) in
        let few = l.few_choices s in
        omega arith

    -- so each of the three sums fits
    pub choices_fit : sum_by choices_at (range_with_len 0 m.states) < 2 ^ 64
    choices_fit = let few = l.few_states in omega (arith, sum_short choices_at 2048 m.states (λ s. l.few_choices s))

    pub branches_fit : sum_by branches_at (range_with_len 0 m.states) < 2 ^ 64
    branches_fit = let few = l.few_states in omega (arith, sum_short branches_at 1048576 m.states branches_few)

    pub state_fits : (s : ℕ) → sum_by (branches_of s) (range_with_len 0 (choices_at s)) < 2 ^ 64
    state_fits s = omega (arith, state_counted s, branches_few s)
