-- Where the fields of a line begin, told by the lengths of the fields before.
use Rattle.std.proofs.Common.{◌≡◌, ℕ, zero, suc, ◌+◌, ◌<◌, ◌≤◌, min, eqb, inl, inr, List, [], ◌∷◌, length, take, ap, ◌∙◌, arith}
use Rattle.std.specs.List.{onto_first, slice_split, sum_by}
use Rattle.std.proofs.Math.Nat.{min-zero, zero-min}
use Rattle.std.proofs.lemmas.Bool.{cases_Bool, cond-true, cond-false}
use Rattle.std.proofs.lemmas.List.Splits.{slice_split-cons_yes, slice_split-cons_no, length-slice_split}
use Rattle.std.proofs.lemmas.List.Sums.{sum_by-cons, sum_by-take-le}
use Rattle.printing.specs.Carets.{field_place}

-- the bytes of a field and the tab behind it
abbrev pub with_tab : List ℕ → ℕ
with_tab field = length field + 1

-- the parts of a line at each tab
abbrev pub tab_parts : List ℕ → List (List ℕ)
tab_parts line = slice_split (λ b. eqb b 9) line

-- the bytes of the first k fields and the tabs behind them
abbrev pub passed : ℕ → List (List ℕ) → ℕ
passed k parts = sum_by with_tab (take k parts)

-- a byte more at the front of the first part
onto_passed : (k b : ℕ) (parts : List (List ℕ)) → 0 < length parts → passed (suc k) (onto_first b parts) ≡ 1 + passed (suc k) parts
onto_passed k b [] some = absurd (omega arith)
onto_passed k b (part ∷ parts) some = omega (arith, sum_by-cons with_tab (b ∷ part) (take k parts), sum_by-cons with_tab part (take k parts))

-- field k begins behind the first k fields and their tabs, or at the line's end, past which these come by one at most
pub places : (k : ℕ) (line : List ℕ) → (passed k (tab_parts line) ≤ length line + 1) × (min (passed k (tab_parts line)) (length line) ≡ field_place k line)
places k [] = (sum_by-take-le with_tab ([] ∷ []) k, min-zero _)
places zero (b ∷ bs) = (omega arith, zero-min _)
places (suc k) (b ∷ bs) = elim (cases_Bool (eqb b 9)) [
  | inl e ↦
      let rest = places k bs in
      let here = ap (passed (suc k)) (slice_split-cons_yes (λ x. eqb x 9) b bs e) ∙ sum_by-cons with_tab [] (take k (tab_parts bs)) in
      let next = ap (λ n. 1 + field_place n bs) (cond-true (eqb b 9) k (suc k) e) in
      (omega (arith, rest.0, here), omega (arith, rest.1, here, next))
  | inr e ↦
      let rest = places (suc k) bs in
      let here = ap (passed (suc k)) (slice_split-cons_no (λ x. eqb x 9) b bs e) ∙ onto_passed k b (tab_parts bs) (omega (arith, length-slice_split (λ x. eqb x 9) bs)) in
      let next = ap (λ n. 1 + field_place n bs) (cond-false (eqb b 9) k (suc k) e) in
      (omega (arith, rest.0, here), omega (arith, rest.1, here, next))
]
