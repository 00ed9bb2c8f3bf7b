-- Figures worked out by hand on three small models: what a trial over them answers, and what judging some texts finds.
use Rattle.std.specs.Prelude.{◌≡◌, ℕ, List, None, Ok, codes, Option, slice_index, true}
use Rattle.model.specs.Mdp.{Mdp}
use Rattle.theory.specs.Tallies.{tally}
use Rattle.theory.specs.Formulas.{Formula, truth, label, Holds, has_label}
use Rattle.text.specs.Contents.{Content, model_of}
use Rattle.text.specs.Texts.{Describes}
use Rattle.ladder.specs.Ladders.{ladder_model}
use Rattle.ladder.specs.Refusals.{ladder_fault}
use Rattle.rules.specs.Parts.{part_of}
use Rattle.records.specs.declared.comparison.Comparison.{Comparison}
use Rattle.records.specs.declared.comparison.Comparison.TheVariants.{Above, AtLeast}
use Rattle.formula.specs.Records.{size}
use Rattle.trial.specs.declared.aim.Aim.{Aim}
use Rattle.trial.specs.declared.aim.Aim.TheVariants.{Best, Worst}
use Rattle.trial.specs.declared.verdict.Verdict.{Verdict}
use Rattle.trial.specs.declared.verdict.Verdict.TheVariants.{No, Yes, Undecided}
use Rattle.trial.specs.VerdictBytes.{verdict_number}
use Rattle.trial.specs.Queries.{Query}
use Rattle.trial.specs.Answers.{started, advanced, ends_answer, verdict_answer}
use Rattle.trial.specs.Judging.{Reads, row_of}

-- the text of the model T: state 0 waits with 2 parts out of 3 and goes to 1 with 1; state 1, which has label a, stays
abbrev pub thirds : List ℕ
thirds = codes "mdp\t2\t3\ns\t-\nc\nb\t0\t2\nb\t1\t1\ns\ta\nc\nb\t1\t3\nend\n"

-- the text of the model R: state 0 tries again with 1 part out of 4 and goes to 1 with 3, or it goes to 1 and to 2 with 2 each; states 1, which
-- has label a, and 2, which has label b, stay
abbrev pub retry : List ℕ
retry = codes "mdp\t3\t4\ns\t-\nc\nb\t0\t1\nb\t1\t3\nc\nb\t1\t2\nb\t2\t2\ns\ta\nc\nb\t1\t4\ns\tb\nc\nb\t2\t4\nend\n"

-- the text describes one content, and P holds of the model of that
pub record OfText (text : List ℕ) (P : Mdp → Type 0) : Type 0 where
  pub content : Content
  pub described : Describes text content
  pub only : (c : Content) → Describes text c → c ≡ content
  pub holds : P (model_of content)

-- the query that stands after a start, with every state left and the states that have label a right, and an advance by k rounds
abbrev pub towards_a : Mdp → Aim → ℕ → Option Query
towards_a m aim k = advanced (started m.states (row_of m truth) (row_of m (label 0)) aim None) k

-- the ends of that query at state 0 are these
abbrev pub Ends : Mdp → Aim → ℕ → ℕ → ℕ → Type 0
Ends m aim k lo hi = ends_answer m (towards_a m aim k) 0 ≡ Ok (part_of lo, part_of hi, k)

-- the verdict after one round for the worst, at state 0 under this comparison and bound, is this one
abbrev pub VerdictAfterOne : Mdp → Comparison → ℕ → Verdict → Type 0
VerdictAfterOne m c b v = verdict_answer m (towards_a m Worst 1) 0 c b ≡ Ok v

-- a yes tells that P holds, a no that it does not
abbrev pub Tells : Verdict → Type 0 → Type 0
Tells Yes P = P
Tells No P = ¬ P
Tells Undecided P = Unit {0}

-- judging the text gives the state s this verdict: the text spells a formula, whose row has it there, and so it is of all adversaries
pub record Judges (m : Mdp) (text : List ℕ) (s : ℕ) (v : Verdict) : Type 0 where
  pub formula : Formula
  pub reads : Reads text (size formula) formula
  pub found : slice_index (row_of m formula) s ≡ verdict_number v
  pub tells : Tells v (Holds m formula s)

-- the tally of so many steps towards label a, from state 0 and through any states, of the adversary that always takes choice 0
abbrev pub tally_to_a : Mdp → ℕ → ℕ
tally_to_a m k = tally (λ s. true) (has_label m 0) k m (λ p. 0) 0

-- the figures on T: the tally is 1 out of 3 after one step and 5 out of 9 after two; both for the best and for the worst the ends are these after no
-- round, after one and after two; and after one, for the worst, `>=` is a yes with the lower end for its bound and undecided with the upper one, where
-- `>` is a no
pub record OfThirds (m : Mdp) : Type 0 where
  pub tally_1 : tally_to_a m 1 ≡ 1
  pub tally_2 : tally_to_a m 2 ≡ 5
  pub best_first : Ends m Best 0 0 0
  pub worst_first : Ends m Worst 0 0 0
  pub best_1 : Ends m Best 1 333333333 333333334
  pub worst_1 : Ends m Worst 1 333333333 333333334
  pub best_2 : Ends m Best 2 555555555 555555556
  pub worst_2 : Ends m Worst 2 555555555 555555556
  pub at_least_lower : VerdictAfterOne m AtLeast 333333333 Yes
  pub at_least_upper : VerdictAfterOne m AtLeast 333333334 Undecided
  pub above_upper : VerdictAfterOne m Above 333333334 No

-- the figures on R: for the best the ends are these after no round, after one and after two; at state 0 label a is not certain to be reached, as the second
-- choice can go to 2, and it is reached with a positive probability; at state 2 it never is
pub record OfRetry (m : Mdp) : Type 0 where
  pub best_0 : Ends m Best 0 0 0
  pub best_1 : Ends m Best 1 750000000 750000000
  pub best_2 : Ends m Best 2 937500000 937500000
  pub not_certain : Judges m (codes "P>=1000000000[trueUa]") 0 No
  pub positive : Judges m (codes "P>0[trueUa]") 0 Yes
  pub never : Judges m (codes "P<=0[trueUa]") 2 Yes

-- the figures on the ladder with 2 rungs, the denominator 4 and the weight 3: there is such a ladder, and after two rounds the best climbs twice and the
-- worst stays
pub record OfLadder : Type 0 where
  pub made : ladder_fault 2 4 3 ≡ None
  pub best_2 : Ends (ladder_model 2 4 3) Best 2 562500000 562500000
  pub worst_2 : Ends (ladder_model 2 4 3) Worst 2 0 0

-- all of them
pub record Figures : Type 0 where
  pub of_thirds : OfText thirds OfThirds
  pub of_retry : OfText retry OfRetry
  pub of_ladder : OfLadder
