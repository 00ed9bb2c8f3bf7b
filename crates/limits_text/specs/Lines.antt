-- The lines of a list of limits.
use Rattle.std.specs.Prelude.{ℕ, cond, List, [], ◌∷◌, ◌==◌}
use Rattle.text.specs.Cuts.{pieces}
use Rattle.limits_text.specs.declared.item.Item.{Item}
use Rattle.limits_text.specs.declared.item.Item.TheVariants.{Nothing, Heading, Formula}

-- the lines of a list: an LF (10) stands between two of them
abbrev pub list_lines : List ℕ → List (List ℕ)
list_lines list = pieces 10 list

-- what a line is: nothing where it is empty, a heading where it begins with `#` (35), else a formula
abbrev pub item_of : List ℕ → Item
item_of [] = Nothing
item_of (b ∷ bs) = cond (b == 35) Heading Formula
