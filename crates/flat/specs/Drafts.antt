-- What is put into flat arrays while a text is read.
use Rattle.std.specs.Prelude.{◌≡◌, ℕ, List, [], ◌∷◌, ◌++◌, length, vec_items}
use Rattle.model.specs.declared.branch.Branch.{Branch}
use Rattle.model.specs.declared.labels.Labels.{Labels}
use Rattle.flat.specs.declared.flat.Flat.{Flat}

-- the arrays are empty, and the denominator is 1
pub record Emptied (f : Flat) : Type 0 where
  pub denominator : f.denominator ≡ 1
  pub labels : vec_items f.labels ≡ []
  pub starts : vec_items f.starts ≡ []
  pub offsets : vec_items f.offsets ≡ []
  pub branches : vec_items f.branches ≡ []

-- the arrays with these elements put at their ends
pub record Added (ls : List Labels) (ss os : List ℕ) (bs : List Branch) (f g : Flat) : Type 0 where
  pub labels : vec_items g.labels ≡ vec_items f.labels ++ ls
  pub starts : vec_items g.starts ≡ vec_items f.starts ++ ss
  pub offsets : vec_items g.offsets ≡ vec_items f.offsets ++ os
  pub branches : vec_items g.branches ≡ vec_items f.branches ++ bs

-- the arrays are as they were
abbrev pub Same : Flat → Flat → Type 0
Same f g = Added [] [] [] [] f g

-- one state more, with these labels, whose first choice is the next
abbrev pub Labelled : Labels → Flat → Flat → Type 0
Labelled l f g = Added (l ∷ []) (length (vec_items f.offsets) ∷ []) [] [] f g

-- one choice more, whose first branch is the next
abbrev pub Opened : Flat → Flat → Type 0
Opened f g = Added [] [] (length (vec_items f.branches) ∷ []) [] f g

-- one branch more
abbrev pub Branched : Branch → Flat → Flat → Type 0
Branched b f g = Added [] [] [] (b ∷ []) f g

-- the arrays end with the numbers of choices and of branches, and the denominator is set
pub record Closed (d : ℕ) (f g : Flat) : Type 0 where
  pub denominator : g.denominator ≡ d
  pub ended : Added [] (length (vec_items f.offsets) ∷ []) (length (vec_items f.branches) ∷ []) [] f g
