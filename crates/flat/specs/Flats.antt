-- What flat arrays hold: `starts` has the number of the first choice of each state and then the number of choices,
-- `offsets` the number of the first branch of each choice and then the number of branches.
use Rattle.std.specs.Prelude.{◌≡◌, ℕ, ◌+◌, ◌-◌, ◌<◌, ◌≤◌, Bool, List, [], ◌∷◌, map, length, take, drop, vec_items, slice_index, slice_index_or}
use Rattle.std.specs.List.{range_with_len}
use Rattle.model.specs.declared.branch.Branch.{Branch}
use Rattle.model.specs.declared.labels.Labels.{Labels}
use Rattle.model.specs.Mdp.{Row, no_labels}
use Rattle.text.specs.Contents.{State, Content, all_choices, all_branches}
use Rattle.flat.specs.declared.flat.Flat.{Flat}

-- the row of choice number k, counted over all states
abbrev pub piece : List ℕ → List Branch → ℕ → Row
piece offsets branches k = take (slice_index offsets (k + 1) - slice_index offsets k) (drop (slice_index offsets k) branches)

-- where the row of the last choice begins; 0 where there is no choice
abbrev pub row_start : List ℕ → ℕ
row_start offsets = slice_index offsets (length offsets - 1)

-- the flags of each set of labels
abbrev pub letters : List Labels → List (List Bool)
letters labels = map (λ l. l.letters) labels

-- state s of the arrays
abbrev pub flat_state : List (List Bool) → List ℕ → List ℕ → List Branch → ℕ → State
flat_state labels starts offsets branches s = record {
  labels = slice_index_or labels s no_labels;
  choices = map (piece offsets branches) (range_with_len (slice_index starts s) (slice_index starts (s + 1) - slice_index starts s));
}

-- all states of the arrays
abbrev pub flat_states : List (List Bool) → List ℕ → List ℕ → List Branch → List State
flat_states labels starts offsets branches = map (flat_state labels starts offsets branches) (range_with_len 0 (length labels))

-- what flat arrays tell
abbrev pub content : Flat → Content
content f = record {
  denominator = f.denominator;
  states = flat_states (letters (vec_items f.labels)) (vec_items f.starts) (vec_items f.offsets) (vec_items f.branches);
}

-- the first choices of n states rise and stand in `offsets`, of this length
abbrev pub StartsOk : ℕ → ℕ → List ℕ → Type 0
StartsOk n count starts = (s : ℕ) → s < n → (slice_index starts s ≤ slice_index starts (s + 1)) × (slice_index starts (s + 1) < count)

-- the first branches of the choices rise and stand in `branches`, of this length
abbrev pub OffsetsOk : ℕ → List ℕ → Type 0
OffsetsOk count offsets = (k : ℕ) → k + 1 < length offsets → (slice_index offsets k ≤ slice_index offsets (k + 1)) × (slice_index offsets (k + 1) ≤ count)

-- the running sums of numbers, from k on: k, then one for each number
abbrev pub sums : ℕ → List ℕ → List ℕ
sums k [] = k ∷ []
sums k (x ∷ xs) = k ∷ sums (k + x) xs

-- the number of the first choice of each state, then the number of choices
abbrev pub starts_of : List State → List ℕ
starts_of states = sums 0 (map (λ s. length s.choices) states)

-- the number of the first branch of each choice, then the number of branches
abbrev pub offsets_of : List State → List ℕ
offsets_of states = sums 0 (map (λ r. length r) (all_choices states))

-- the branches of all choices
abbrev pub branches_of : List State → List Branch
branches_of states = all_branches (all_choices states)

-- the labels of all states
abbrev pub labels_in : List State → List (List Bool)
labels_in states = map (λ s. s.labels) states

-- the arrays are those of these states, and nothing else stands in them
pub record LaidOut (states : List State) (f : Flat) : Type 0 where
  pub labels : letters (vec_items f.labels) ≡ labels_in states
  pub starts : vec_items f.starts ≡ starts_of states
  pub offsets : vec_items f.offsets ≡ offsets_of states
  pub branches : vec_items f.branches ≡ branches_of states
