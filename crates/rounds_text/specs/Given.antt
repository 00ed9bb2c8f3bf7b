-- Numbers that are given as text.
use Rattle.std.specs.Prelude.{ℕ, Bool, cond, List, map, Some, None, Option, nat_le}
use Rattle.std.specs.List.{list_all}
use Rattle.text.specs.Cuts.{pieces}
use Rattle.text.specs.Fields.{numeral, amount}

-- the numbers that a word writes, parted by commas (44), if each piece is a number of at most ten digits
abbrev pub numbers_given : List ℕ → Option (List ℕ)
numbers_given word = cond (list_all (numeral 10) (pieces 44 word)) (Some (map amount (pieces 44 word))) None

-- is each number 0 or 1?
abbrev pub are_marks : List ℕ → Bool
are_marks numbers = list_all (λ n. nat_le n 1) numbers
