-- Where a row stands in flat arrays.
use Rattle.std.specs.Prelude.{◌≡◌, ℕ, ◌+◌, ◌<◌, ◌≤◌, length, vec_items, slice_index}
use Rattle.model.specs.Mdp.{Row}
use Rattle.flat.specs.declared.flat.Flat.{Flat}
use Rattle.flat.specs.Flats.{piece}

-- choice number k, counted over all states, is there, and the row is its piece of the branches
pub record Stands (f : Flat) (r : Row) (k : ℕ) : Type 0 where
  pub choice : k + 1 < length (vec_items f.offsets)
  pub order : slice_index (vec_items f.offsets) k ≤ slice_index (vec_items f.offsets) (k + 1)
  pub within : slice_index (vec_items f.offsets) (k + 1) ≤ length (vec_items f.branches)
  pub is : r ≡ piece (vec_items f.offsets) (vec_items f.branches) k
