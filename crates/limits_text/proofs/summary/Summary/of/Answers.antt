use Rattle.std.proofs.Common.{length, ◌∙◌}
use Rattle.limits_text.specs.declared.outcome.Outcome.TheVariants.{Holds, Fails, Undecided, Refused}
use Rattle.limits_text.proofs.Counting.{counted}
use Rattle.limits_text.proofs.summary.Summary.of.Goals as goal

-- each number is that of the outcomes that are so
pub returns : goal.returns
returns c =
    let os = c.args.outcomes.now in
    let hold = c.how_many.ensures ∙ counted Holds os in
    let fail = c.how_many-2.ensures ∙ counted Fails os in
    let undecided = c.how_many-3.ensures ∙ counted Undecided os in
    let refused = c.how_many-4.ensures ∙ counted Refused os in
    λ i. record { formulas = length os; hold = hold i; fail = fail i; undecided = undecided i; refused = refused i }
