-- The flat arrays of a list of states, and that they hold these states.
use Rattle.std.proofs.Common.{◌≡◌, ℕ, zero, suc, ◌+◌, ◌-◌, ◌<◌, ◌≤◌, List, [], ◌∷◌, ◌++◌, map, length, get_or, take, drop, sym, refl, ap, ◌∙◌, add-one, arith}
use Rattle.std.specs.List.{range_with_len, flat_map}
use Rattle.std.proofs.lemmas.List.{append_assoc, length-append, length-map, length-take, length-drop, get_or-map, get_or-take, get_or-drop, take_at, drop_at, ext_get_or}
use Rattle.std.proofs.lemmas.List.FromFn.{fill_by_all, length-map-range_with_len, get_or-map-range_with_len}
use Rattle.model.specs.Mdp.{Row, no_labels}
use Rattle.text.specs.Contents.{State, no_state, all_choices, all_branches}
use Rattle.flat.specs.Flats.{piece, flat_state, flat_states, StartsOk, OffsetsOk, sums, starts_of, offsets_of, branches_of, labels_in}

-- there is one sum more than numbers
length_sums : (k : ℕ) (xs : List ℕ) → length (sums k xs) ≡ length xs + 1
length_sums k [] = refl
length_sums k (x ∷ xs) = let h = length_sums (k + x) xs in omega arith

-- lists put behind one another, and the running sums of their lengths
module _ {X A : Type 0} (f : X → List A) where
  -- where each list begins, k being before the first; then where the last ends
  abbrev marks : ℕ → List X → List ℕ
  marks k xs = sums k (map (λ x. length (f x)) xs)

  -- there is one mark more than lists
  length_marks : (k : ℕ) (xs : List X) → length (marks k xs) ≡ length xs + 1
  length_marks k xs = length_sums k (map (λ x. length (f x)) xs) ∙ ap (λ n. n + 1) (length-map xs (λ x. length (f x)))

  -- the first mark
  first_mark : (k : ℕ) (xs : List X) → get_or (marks k xs) 0 0 ≡ k
  first_mark k [] = refl
  first_mark k (x ∷ xs) = refl

  -- between two neighbouring marks stands the list of that place
  between_marks : (xs : List X) (before : List A) (k : ℕ) (d : X) → k < length xs → take (get_or (marks (length before) xs) (suc k) 0 - get_or (marks (length before) xs) k 0) (drop (get_or (marks (length before) xs) k 0) (before ++ flat_map f xs)) ≡ f (get_or xs k d)
  between_marks [] before k d h = absurd (omega arith)
  between_marks (x ∷ xs) before zero d h =
      let first = first_mark (length before + length (f x)) xs in
      rw (drop_at before (f x ++ flat_map f xs) (length before) refl) (take_at (f x) (flat_map f xs) (get_or (marks (length before + length (f x)) xs) 0 0 - length before) (omega arith))
  between_marks (x ∷ xs) before (suc k) d h =
      rw (← append_assoc, ← length-append before (f x)) (between_marks xs (before ++ f x) k d (omega arith))

  -- the marks rise, up to the end of the last list
  rising : (xs : List X) (k i : ℕ) → i < length xs → (get_or (marks k xs) i 0 ≤ get_or (marks k xs) (suc i) 0) × (get_or (marks k xs) (suc i) 0 ≤ k + length (flat_map f xs))
  rising [] k i h = absurd (omega arith)
  rising (x ∷ xs) k zero h =
      let first = first_mark (k + length (f x)) xs in
      let whole = length-append (f x) (flat_map f xs) in
      omega arith
  rising (x ∷ xs) k (suc i) h =
      let rest = rising xs (k + length (f x)) i (omega arith) in
      let whole = length-append (f x) (flat_map f xs) in
      omega arith

-- all choices are the states' choices put behind one another
choices_joined : (ss : List State) → all_choices ss ≡ flat_map (λ s. s.choices) ss
choices_joined [] = refl
choices_joined (s ∷ ss) = ap (λ rs. s.choices ++ rs) (choices_joined ss)

-- all branches are the rows put behind one another
branches_joined : (rs : List Row) → all_branches rs ≡ flat_map (λ r. r) rs
branches_joined [] = refl
branches_joined (r ∷ rs) = ap (λ bs. r ++ bs) (branches_joined rs)

-- each piece is the row of its choice
piece_row : (rs : List Row) (k : ℕ) → k < length rs → get_or rs k [] ≡ piece (sums 0 (map (λ r. length r) rs)) (all_branches rs) k
piece_row rs k h = rw (branches_joined, add-one) (sym (between_marks (λ r. r) rs [] k [] h))

-- what a list has at each place, counted from place a on for n places, is that part of the list
part_counted : {X : Type 0} (f : ℕ → X) (xs : List X) (d : X) → ((k : ℕ) → k < length xs → get_or xs k d ≡ f k) → (a n : ℕ) → a + n ≤ length xs → map f (range_with_len a n) ≡ take n (drop a xs)
part_counted f xs d is a n h =
    let counted = length-map-range_with_len f a n in
    let lengths : length (map f (range_with_len a n)) ≡ length (take n (drop a xs)) = rw (length-map-range_with_len, length-take, length-drop) (omega arith) in
    let part : (i : ℕ) → i < n → get_or (take n (drop a xs)) i d ≡ f (a + i) = λ i l. get_or-take n (drop a xs) i d l ∙ get_or-drop a xs i d ∙ is (a + i) (omega arith) in
    ext_get_or d (map f (range_with_len a n)) (take n (drop a xs)) lengths (λ i l. get_or-map-range_with_len f a n i (a + i) d (omega arith) refl ∙ sym (part i (omega arith)))

-- the choices of a state stand between two neighbouring starts
choices_held : (ss : List State) (k : ℕ) → k < length ss → map (piece (offsets_of ss) (branches_of ss)) (range_with_len (get_or (starts_of ss) k 0) (get_or (starts_of ss) (k + 1) 0 - get_or (starts_of ss) k 0)) ≡ (get_or ss k no_state).choices
choices_held ss k h =
    let up = rising (λ s. s.choices) ss 0 k h in
    let whole = ap length (choices_joined ss) in
    let start : ℕ = get_or (starts_of ss) k 0 in
    let count : ℕ = get_or (starts_of ss) (suc k) 0 - start in
    let counted = part_counted (piece (offsets_of ss) (branches_of ss)) (all_choices ss) [] (piece_row (all_choices ss)) start count (omega arith) in
    rw add-one (counted ∙ rw choices_joined (between_marks (λ s. s.choices) ss [] k no_state h))

-- a state of the arrays is the state of that place
state_held : (ss : List State) (k : ℕ) → k < length ss → get_or ss k no_state ≡ flat_state (labels_in ss) (starts_of ss) (offsets_of ss) (branches_of ss) k
state_held ss k h = λ i. record {
  labels = sym (get_or-map (λ s. s.labels) ss k no_state no_labels h) i;
  choices = sym (choices_held ss k h) i;
}

-- the arrays hold the states
pub unflat : (ss : List State) → flat_states (labels_in ss) (starts_of ss) (offsets_of ss) (branches_of ss) ≡ ss
unflat ss =
    let count = length-map ss (λ s. s.labels) in
    sym (fill_by_all (flat_state (labels_in ss) (starts_of ss) (offsets_of ss) (branches_of ss)) ss (length (labels_in ss)) no_state (sym count) (λ k h. state_held ss k (omega arith)))

-- there is one start more than states
pub length_starts : (ss : List State) → length (starts_of ss) ≡ length ss + 1
length_starts ss = length_marks (λ s. s.choices) 0 ss

-- and one offset more than choices
pub length_offsets : (ss : List State) → length (offsets_of ss) ≡ length (all_choices ss) + 1
length_offsets ss = length_marks (λ r. r) 0 (all_choices ss)

-- the starts rise and stand in the offsets
pub starts_ok : (ss : List State) → StartsOk (length ss) (length (offsets_of ss)) (starts_of ss)
starts_ok ss k h =
    let up = rising (λ s. s.choices) ss 0 k h in
    let whole = ap length (choices_joined ss) in
    let count = length_offsets ss in
    rw add-one (omega arith)

-- the offsets rise and stand in the branches
pub offsets_ok : (ss : List State) → OffsetsOk (length (branches_of ss)) (offsets_of ss)
offsets_ok ss k h =
    let count = length_offsets ss in
    let up = rising (λ r. r) (all_choices ss) 0 k (omega arith) in
    let whole = ap length (branches_joined (all_choices ss)) in
    rw add-one (omega arith)
