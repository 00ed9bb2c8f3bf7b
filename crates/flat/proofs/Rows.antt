-- A row, and how it grows.
use Rattle.std.proofs.Common.{◌≡◌, ℕ, ◌+◌, ◌-◌, ◌<◌, ltb, List, [], ◌∷◌, ◌++◌, length, get_or, true, Some, refl, ap, ◌∙◌, arith, length-append}
use Rattle.std.proofs.Math.Seq.{get_or-append_seam}
use Rattle.std.proofs.lemmas.Option.{slice_get-get_or}
use Rattle.std.specs.Option.{option_map_or}
use Rattle.model.specs.declared.branch.Branch.{Branch}
use Rattle.model.specs.Mdp.{Row, total}
use Rattle.flat.specs.Flats.{row_start}
use Rattle.flat.specs.Readings.{goes_above}

-- the total with one branch more
pub total-push : (row : Row) (b : Branch) → total (row ++ (b ∷ [])) ≡ b.weight + total row
total-push [] b = refl
total-push (c ∷ row) b = omega (arith, total-push row b)

-- the element put at the end of a list is at its last place
pub last-push : {X : Type 0} (xs : List X) (x d : X) → get_or (xs ++ (x ∷ [])) (length (xs ++ (x ∷ [])) - 1) d ≡ x
last-push xs x d =
    let place : length (xs ++ (x ∷ [])) - 1 ≡ length xs = omega (arith, length-append xs (x ∷ [])) in
    ap (λ n. get_or (xs ++ (x ∷ [])) n d) place ∙ get_or-append_seam xs x [] d

-- the row of a choice that is opened begins with the next branch
pub row_start-push : (offsets : List ℕ) (k : ℕ) → row_start (offsets ++ (k ∷ [])) ≡ k
row_start-push offsets k = last-push offsets k 0

-- with one branch more, a target is above the row where it is above that branch
pub goes_above-push : (row : Row) (b : Branch) (t : ℕ) → goes_above (row ++ (b ∷ [])) t ≡ ltb b.target t
goes_above-push row b t =
    let all = row ++ (b ∷ []) in
    let within : length all - 1 < length all = omega (arith, length-append row (b ∷ [])) in
    ap (λ o. option_map_or (λ (c : Branch). ltb c.target t) o true) (slice_get-get_or all (length all - 1) b within ∙ ap Some (last-push row b b))
