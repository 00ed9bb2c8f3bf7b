-- Values of states at the front of a list.
use Rattle.std.specs.Prelude.{◌≡◌, ℕ, ◌<◌, List, slice_index_or}

-- the first n values of a list, one for each state, are those of a function
-- d stands for a value past the end of the list, and is never read
abbrev pub ValuesOf : {V : Type 0} → ℕ → List V → (ℕ → V) → Type 0
ValuesOf {V} n values f = (d : V) (s : ℕ) → s < n → slice_index_or values s d ≡ f s
