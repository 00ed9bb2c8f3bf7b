-- The table of a formula: a line for each state with its verdict, and both ends if the formula has any.
use Rattle.std.specs.Prelude.{ℕ, cond, List, ◌++◌, Some, None, codes, decimal, Option, ◌==◌}
use Rattle.theory.specs.Found.{TwoEnds}
use Rattle.printing.specs.Layouts.{laid}
use Rattle.limits_text.specs.Cells.{at_right, at_left}

-- the word for a verdict byte
abbrev pub verdict_word : ℕ → List ℕ
verdict_word b = cond (b == 0) (codes "no") (cond (b == 1) (codes "yes") (codes "undecided"))

-- what stands behind the state in its line: the word for its verdict, and the lower and the upper end in units if there are any
abbrev pub verdict_cells : ℕ → Option (ℕ × ℕ) → List ℕ
verdict_cells b None = verdict_word b
verdict_cells b (Some ends) = at_left 9 (verdict_word b) ++ (codes "  " ++ (at_right 10 (decimal ends.0) ++ (codes "  " ++ at_right 10 (decimal ends.1))))

-- the line of a state with this verdict byte and these ends
abbrev pub state_line : ℕ → ℕ → Option (ℕ × ℕ) → List ℕ
state_line s b ends = codes "  " ++ (at_right 5 (decimal s) ++ (codes "  " ++ (verdict_cells b ends ++ codes "\n")))

-- the names of the columns, of a table with ends and of one without
abbrev pub heading : {A : Type 0} → Option A → List ℕ
heading None = codes "  state  verdict\n"
heading (Some ends) = codes "  state  verdict         lower       upper\n"

-- both ends at a state, if there are ends
abbrev pub units_at : Option TwoEnds → ℕ → Option (ℕ × ℕ)
units_at None s = None
units_at (Some ends) s = Some (ends.0 s, ends.1 s)

-- the table of a row of verdict bytes, and of the ends that it was read off if there are any: the heading, and a line for each state
abbrev pub table : List ℕ → Option TwoEnds → List ℕ
table row ends = heading ends ++ laid (λ s b. state_line s b (units_at ends s)) 0 row
