-- Counting outcomes by their own test is counting by the test that is defined.
use Rattle.std.proofs.Common.{◌≡◌, List, count_by, rules, tests}
use Rattle.limits_text.specs.declared.outcome.Outcome.{Outcome}
use Rattle.limits_text.specs.contracts.outcome.OutcomePartialEq.TheImpl.{ghosts}
use Rattle.limits_text.specs.Outcomes.{same_outcome}
use Rattle.limits_text.specs.Summaries.{how_many}

-- the tests answer the same
same : (x y : Outcome) → ghosts.eq x y ≡ same_outcome x y
same x y = search (rules, tests)

-- so they count the same
pub counted : (x : Outcome) (os : List Outcome) → count_by (λ o. ghosts.eq o x) os ≡ how_many x os
counted x os = λ i. count_by (λ o. same o x i) os
