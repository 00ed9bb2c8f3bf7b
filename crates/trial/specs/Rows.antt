-- Rows of verdict bytes: a byte for each state, 0 for no, 1 for yes and 2 for undecided.
use Rattle.std.specs.Prelude.{ℕ, Bool, false, not, List, ◌==◌, slice_index}
use Rattle.theory.specs.Ends.{start}
use Rattle.rules.specs.declared.part.Part.{Part}
use Rattle.rules.specs.Parts.{part_of}
use Rattle.rules.specs.Values.{told}
use Rattle.rounds.specs.Runs.{listed}
use Rattle.theory.specs.WithoutSteps.{Extremal, over_none, at_most_none, at_least_whole}
use Rattle.theory.specs.Verdicts.{VerdictSets}
use Rattle.trial.specs.VerdictBytes.{verdict_number, verdict_at}
use Rattle.trial.specs.Queries.{marked}
-- the verdicts of an until without steps, which the settled marks find on the sets of its parts
pub use Rattle.theory.specs.Found.{extremal_verdicts, until_verdicts}

-- the verdicts that a row tells: a state is sure if its byte is 1, and possible if it is not 0
abbrev pub sets : List ℕ → VerdictSets
sets row = record { sure = marked row; possible = λ s. not (slice_index row s == 0) }

-- the byte of a state
abbrev pub byte_at : VerdictSets → ℕ → ℕ
byte_at v s = verdict_number (verdict_at v s)

-- the row of n states
abbrev pub bytes : ℕ → VerdictSets → List ℕ
bytes n v = listed n (byte_at v)

-- the verdicts that two lists of marks tell: of the sure states and of the possible ones
abbrev pub told_sets : List Bool → List Bool → VerdictSets
told_sets sures possibles = record { sure = told sures false; possible = told possibles false }

-- the verdicts that the marks on the sure sets of an until's parts and those on their possible sets tell: larger sets help the first
-- bound and the third, and hinder the second
abbrev pub bound_sets : Extremal → List Bool → List Bool → VerdictSets
bound_sets over_none on_sure on_possible = told_sets on_sure on_possible
bound_sets at_most_none on_sure on_possible = told_sets on_possible on_sure
bound_sets at_least_whole on_sure on_possible = told_sets on_sure on_possible

-- both ends of a path formula begin with the whole in a set and 0 elsewhere; as parts
abbrev pub start_part : (ℕ → Bool) → ℕ → Part
start_part set s = part_of (start set s)
