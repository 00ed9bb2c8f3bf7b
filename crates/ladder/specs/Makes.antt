-- What making a ladder answers.
use Rattle.std.specs.Prelude.{◌≡◌, ℕ, Some, None, Ok, Err, Result}
use Rattle.model.specs.Mdp.{Mdp, Lawful}
use Rattle.ladder.specs.declared.fault.LadderFault.{LadderFault}
use Rattle.ladder.specs.declared.ladder.Ladder.{Ladder}
use Rattle.ladder.specs.Ladders.{ladder_model}
use Rattle.ladder.specs.Laws.{ladder_lawful}
use Rattle.ladder.specs.Refusals.{ladder_fault}

-- the model that a ladder stands for
abbrev pub model_of : Ladder → Mdp
model_of l = ladder_model l.rungs l.denominator l.weight

-- it is lawful, since the three numbers are in range
pub lawful_of : (l : Ladder) → Lawful (model_of l)
lawful_of l = ladder_lawful l.rungs l.denominator l.weight l.climbable l.divisible l.weighted

-- the ladder has these three numbers, so it stands for the model that they give
pub record Is (r d w : ℕ) (l : Ladder) : Type 0 where
  pub rungs : l.rungs ≡ r
  pub denominator : l.denominator ≡ d
  pub weight : l.weight ≡ w
  pub model : model_of l ≡ ladder_model r d w

-- a ladder is made exactly if no question is answered no, and then it is the one asked for; else the first no is told
abbrev pub Made : ℕ → ℕ → ℕ → Result Ladder LadderFault → Type 0
Made r d w (Ok l) = (ladder_fault r d w ≡ None) × Is r d w l
Made r d w (Err e) = ladder_fault r d w ≡ Some e
