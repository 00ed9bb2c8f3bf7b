-- Rows of a formula: the row that is worked out from the rows of its parts is its own.
use Rattle.std.proofs.Common.{◌≡◌, ℕ, Some, None, Option, refl}
use Rattle.model.specs.Mdp.{Mdp, Lawful}
use Rattle.theory.specs.WithoutSteps.{Extremal}
use Rattle.theory.specs.Formulas.{Comparison, Formula, negation, conjunction, probability, next, until_within, until, extremal}
use Rattle.theory.specs.Verdicts.{VerdictSets, SameVerdicts, negated, joined, next_verdicts, until_within_verdicts}
use Rattle.theory.specs.Found.{verdicts, until_verdicts}
use Rattle.theory.proofs.Judge.{sound}
use Rattle.theory.proofs.Judged.{negated_alike, joined_alike}
use Rattle.theory.proofs.Alike.{next_verdicts_alike, until_within_verdicts_alike, extremal_verdicts_alike}
use Rattle.trial.specs.Rows.{sets, bytes}
use Rattle.trial.proofs.Bytes.{bytes_sets, bytes_same}

module _ (m : Mdp) (l : Lawful m) where
  -- an until without steps of them
  until_alike : (o : Option Extremal) (v v' w w' : VerdictSets) → SameVerdicts m v v' → SameVerdicts m w w' → SameVerdicts m (until_verdicts o m v w) (until_verdicts o m v' w')
  until_alike None v v' w w' x y = record { sures = λ s h. refl; possibles = λ s h. refl }
  until_alike (Some o) v v' w w' x y = extremal_verdicts_alike m l o v v' w w' x y

  -- the row of a formula tells its verdicts: what is sure holds, and what holds is possible
  pub formula_sets : (f : Formula) → SameVerdicts m (sets (bytes m.states (verdicts m f))) (verdicts m f)
  formula_sets f = bytes_sets m (verdicts m f) (λ s h e. (sound m l f s h).holds_possible ((sound m l f s h).yes_holds e))

  -- the row of a negation, from the row of its part
  pub negation_row : (f : Formula) → bytes m.states (negated (sets (bytes m.states (verdicts m f)))) ≡ bytes m.states (verdicts m (negation f))
  negation_row f = bytes_same m _ _ (negated_alike m _ _ (formula_sets f))

  -- of a conjunction
  pub conjunction_row : (f g : Formula) → bytes m.states (joined (sets (bytes m.states (verdicts m f))) (sets (bytes m.states (verdicts m g)))) ≡ bytes m.states (verdicts m (conjunction f g))
  conjunction_row f g = bytes_same m _ _ (joined_alike m _ _ _ _ (formula_sets f) (formula_sets g))

  -- of a next under a comparison with a bound
  pub next_row : (c : Comparison) (b : ℕ) (f : Formula) → bytes m.states (next_verdicts c b m (sets (bytes m.states (verdicts m f)))) ≡ bytes m.states (verdicts m (probability c b (next f)))
  next_row c b f = bytes_same m _ _ (next_verdicts_alike m l c b _ _ (formula_sets f))

  -- of an until with steps
  pub until_within_row : (c : Comparison) (b k : ℕ) (f g : Formula) →
      bytes m.states (until_within_verdicts c b k m (sets (bytes m.states (verdicts m f))) (sets (bytes m.states (verdicts m g)))) ≡ bytes m.states (verdicts m (probability c b (until_within k f g)))
  until_within_row c b k f g = bytes_same m _ _ (until_within_verdicts_alike m l c b k _ _ _ _ (formula_sets f) (formula_sets g))

  -- of an until without steps
  pub until_row : (c : Comparison) (b : ℕ) (f g : Formula) →
      bytes m.states (until_verdicts (extremal c b) m (sets (bytes m.states (verdicts m f))) (sets (bytes m.states (verdicts m g)))) ≡ bytes m.states (verdicts m (probability c b (until f g)))
  until_row c b f g = bytes_same m _ _ (until_alike (extremal c b) _ _ _ _ (formula_sets f) (formula_sets g))
