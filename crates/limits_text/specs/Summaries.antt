-- The summary of a list of limits.
use Rattle.std.specs.Prelude.{ℕ, List, ◌++◌, length, count_by, codes, decimal}
use Rattle.limits_text.specs.declared.outcome.Outcome.{Outcome}
use Rattle.limits_text.specs.declared.outcome.Outcome.TheVariants.{Holds, Fails, Undecided, Refused}
use Rattle.limits_text.specs.declared.summary.Summary.{Summary}
use Rattle.limits_text.specs.Cells.{at_right}
use Rattle.limits_text.specs.Outcomes.{same_outcome}

-- how many of some outcomes are this one
abbrev pub how_many : Outcome → List Outcome → ℕ
how_many x os = count_by (λ o. same_outcome o x) os

-- the summary of the outcomes of a list's formulas
abbrev pub summary_of : List Outcome → Summary
summary_of os = record { formulas = length os; hold = how_many Holds os; fail = how_many Fails os; undecided = how_many Undecided os; refused = how_many Refused os }

-- a line of the summary: a number, and what it counts
abbrev pub summary_line : ℕ → List ℕ → List ℕ
summary_line n what = codes "  " ++ (at_right 5 (decimal n) ++ (codes "  " ++ (what ++ codes "\n")))

-- a summary in words, a line for each number
abbrev pub summary_text : Summary → List ℕ
summary_text s =
    codes "summary\n" ++ (summary_line s.formulas (codes "formulas")
    ++ (summary_line s.hold (codes "hold at every state")
    ++ (summary_line s.fail (codes "fail somewhere")
    ++ (summary_line s.undecided (codes "undecided somewhere and fail nowhere")
    ++ summary_line s.refused (codes "refused")))))
