-- What fresh tables hold.
use Rattle.std.specs.Prelude.{◌≡◌, [], ◌∷◌, vec_items}
use Rattle.model.specs.Mdp.{no_labels, to}
use Rattle.text.specs.Contents.{Content}
use Rattle.flat.specs.declared.flat.Flat.{Flat}
use Rattle.flat.specs.Flats.{letters}

-- the denominator 1 and one state, with no labels and one choice, which leads back to it
abbrev pub fresh_content : Content
fresh_content = record { denominator = 1; states = record { labels = no_labels; choices = (to 0 1 ∷ []) ∷ [] } ∷ [] }

-- flat arrays that hold that content
pub record FreshFlat (f : Flat) : Type 0 where
  pub denominator : f.denominator ≡ 1
  pub labels : letters (vec_items f.labels) ≡ no_labels ∷ []
  pub starts : vec_items f.starts ≡ 0 ∷ 1 ∷ []
  pub offsets : vec_items f.offsets ≡ 0 ∷ 1 ∷ []
  pub branches : vec_items f.branches ≡ to 0 1 ∷ []
