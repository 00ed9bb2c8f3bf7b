-- Chapter 5. The rules at hand: parts rounded down, parts rounded up, and marks.
use Rattle.std.specs.Prelude.{ℕ, ◌+◌, ◌-◌, ◌*◌, ◌/◌, Bool, false, not, ◌||◌, List, [], ◌∷◌, nat_le}
use Rattle.theory.specs.Rules.{RuleLaws}

-- a value in parts is a number of units; this many make the whole
abbrev pub whole : ℕ
whole = 1000000000

-- the sum of weight times value
abbrev pub sum_of : List (ℕ × ℕ) → ℕ
sum_of [] = 0
sum_of (p ∷ ps) = p.0 * p.1 + sum_of ps

-- the weighted mean, rounded down
abbrev pub mix_down : ℕ → List (ℕ × ℕ) → ℕ
mix_down d ps = sum_of ps / d

-- the weighted mean, rounded up
abbrev pub mix_up : ℕ → List (ℕ × ℕ) → ℕ
mix_up d ps = (sum_of ps + (d - 1)) / d

-- marks: a row with a yes among its values is mixed to yes
abbrev pub mix_marks : ℕ → List (ℕ × Bool) → Bool
mix_marks d [] = false
mix_marks d (p ∷ ps) = p.1 || mix_marks d ps

-- the greater number is preferred
abbrev pub greater : ℕ → ℕ → Bool
greater x y = nat_le y x

-- the lesser number is preferred
abbrev pub lesser : ℕ → ℕ → Bool
lesser x y = nat_le x y

-- yes is preferred
abbrev pub yes_first : Bool → Bool → Bool
yes_first x y = x || not y

-- no is preferred
abbrev pub no_first : Bool → Bool → Bool
no_first x y = not x || y

-- the theorem of these rules: each keeps the laws, with either preference
pub record RulesLawful : Type 0 where
  pub down_greater : RuleLaws greater mix_down
  pub down_lesser : RuleLaws lesser mix_down
  pub up_greater : RuleLaws greater mix_up
  pub up_lesser : RuleLaws lesser mix_up
  pub marks_yes : RuleLaws yes_first mix_marks
  pub marks_no : RuleLaws no_first mix_marks
