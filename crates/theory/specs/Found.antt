-- Chapter 11. The verdicts that rounds and marks find, a function of the formula, and what they mean for all adversaries.
use Rattle.std.specs.Prelude.{◌≡◌, ℕ, ◌^◌, ◌<◌, Bool, true, false, Some, None, Option}
use Rattle.model.specs.Mdp.{Mdp, Lawful}
use Rattle.theory.specs.Adversaries.{Adversary}
use Rattle.theory.specs.Tallies.{tally, next_tally}
use Rattle.theory.specs.Ends.{lower, upper, next_lower, next_upper, BoundsBest, BoundsWorst}
use Rattle.theory.specs.WithoutSteps.{Extremal, over_none, at_most_none, at_least_whole, marked_set}
use Rattle.theory.specs.Formulas.{Comparison, below, at_most, above, at_least, Formula, truth, label, negation, conjunction, probability, PathFormula, next, until_within, until, extremal, has_label, SetOf, Holds, HasOneSet}
use Rattle.theory.specs.Verdicts.{VerdictSets, asked, known, negated, joined, next_verdicts, until_within_verdicts, SameVerdicts, Judged}
use Rattle.theory.specs.Distances.{Decided, Undecided, NearBound}

-- until without steps: what the settled marks find on the sure states of the parts, and on the possible ones
abbrev pub extremal_verdicts : Extremal → Mdp → VerdictSets → VerdictSets → VerdictSets
extremal_verdicts over_none m v w = record { sure = marked_set over_none v.sure w.sure m; possible = marked_set over_none v.possible w.possible m }
extremal_verdicts at_most_none m v w = record { sure = marked_set at_most_none v.possible w.possible m; possible = marked_set at_most_none v.sure w.sure m }
extremal_verdicts at_least_whole m v w = record { sure = marked_set at_least_whole v.sure w.sure m; possible = marked_set at_least_whole v.possible w.possible m }

-- the verdicts of an until without steps under its bound; under any other bound it is a no everywhere
abbrev pub until_verdicts : Option Extremal → Mdp → VerdictSets → VerdictSets → VerdictSets
until_verdicts None m v w = known (λ s. false)
until_verdicts (Some o) m v w = extremal_verdicts o m v w

-- the verdicts that are found of a formula, from those of its parts
abbrev mutual
  pub verdicts : Mdp → Formula → VerdictSets
  verdicts m truth = known (λ s. true)
  verdicts m (label i) = known (has_label m i)
  verdicts m (negation f) = negated (verdicts m f)
  verdicts m (conjunction f g) = joined (verdicts m f) (verdicts m g)
  verdicts m (probability c b p) = path_verdicts m c b p

  -- a path formula under its comparison and bound
  pub path_verdicts : Mdp → Comparison → ℕ → PathFormula → VerdictSets
  path_verdicts m c b (next f) = next_verdicts c b m (verdicts m f)
  path_verdicts m c b (until_within k f g) = until_within_verdicts c b k m (verdicts m f) (verdicts m g)
  path_verdicts m c b (until f g) = until_verdicts (extremal c b) m (verdicts m f) (verdicts m g)

-- a lower and an upper end at each state
abbrev pub TwoEnds : Type 0
TwoEnds = (ℕ → ℕ) × (ℕ → ℕ)

-- the ends that the verdicts of a formula are read off: of a next and of an until with steps, the lower one over the sure states of
-- its parts and the upper one over the possible ones; other formulas have none
abbrev pub ends_of : Mdp → Formula → Option TwoEnds
ends_of m truth = None
ends_of m (label i) = None
ends_of m (negation f) = None
ends_of m (conjunction f g) = None
ends_of m (probability c b (next f)) =
    let v = verdicts m f in
    Some (next_lower (asked c) v.sure m, next_upper (asked c) v.possible m)
ends_of m (probability c b (until_within k f g)) =
    let v = verdicts m f in
    let w = verdicts m g in
    Some (lower (asked c) v.sure w.sure k m, upper (asked c) v.possible w.possible k m)
ends_of m (probability c b (until f g)) = None

-- lo and hi bound the tallies that a comparison is decided by: for the best where it is `<` or `<=`, for the worst where `>` or `>=`
abbrev pub BoundsBy : Comparison → Mdp → (Adversary → ℕ) → ℕ → ℕ → ℕ → Type 0
BoundsBy below m tallied all lo hi = BoundsBest m tallied all lo hi
BoundsBy at_most m tallied all lo hi = BoundsBest m tallied all lo hi
BoundsBy above m tallied all lo hi = BoundsWorst m tallied all lo hi
BoundsBy at_least m tallied all lo hi = BoundsWorst m tallied all lo hi

-- lo and hi bound a formula at a state: the tallies of a next and of an until with steps, over the sets of states of its parts, which
-- need not be decided; no other formula has ends
abbrev pub BoundsFormula : Mdp → Formula → ℕ → ℕ → ℕ → Type 0
BoundsFormula m truth s lo hi = ⊥
BoundsFormula m (label i) s lo hi = ⊥
BoundsFormula m (negation f) s lo hi = ⊥
BoundsFormula m (conjunction f g) s lo hi = ⊥
BoundsFormula m (probability c b (next f)) s lo hi =
    (set : ℕ → Bool) → SetOf m (Holds m f) set →
    BoundsBy c m (λ σ. next_tally set m σ s) (m.denominator ^ 1) lo hi
BoundsFormula m (probability c b (until_within k f g)) s lo hi =
    (left right : ℕ → Bool) → SetOf m (Holds m f) left → SetOf m (Holds m g) right →
    BoundsBy c m (λ σ. tally left right k m σ s) (m.denominator ^ k) lo hi
BoundsFormula m (probability c b (until f g)) s lo hi = ⊥

-- the theorem of a formula's ends: those that its verdicts are read off bound it, at every state
abbrev pub FormulaEndsBound : Type 0
FormulaEndsBound = (m : Mdp) → Lawful m → (f : Formula) (ends : TwoEnds) → ends_of m f ≡ Some ends →
    (s : ℕ) → s < m.states → BoundsFormula m f s (ends.0 s) (ends.1 s)

-- what the verdict on a formula at a state means: a yes holds, a no fails, and an undecided one is near its bound
pub record VerdictMeans (m : Mdp) (f : Formula) (s : ℕ) : Type 0 where
  pub yes_holds : (verdicts m f).sure s ≡ true → Holds m f s
  pub no_fails : (verdicts m f).possible s ≡ false → ¬ (Holds m f s)
  pub undecided_near : Undecided (verdicts m f) s → NearBound m (λ g. Decided m (verdicts m g)) f s

-- a formula is judged rightly: the verdicts are those that are defined and the only ones, they mean what they say at every state, and
-- the formula has exactly one set of states, so that none of this is said of nothing
pub record JudgedRightly (m : Mdp) (f : Formula) : Type 0 where
  pub defined : Judged m f (verdicts m f)
  pub only : (u : VerdictSets) → Judged m f u → SameVerdicts m u (verdicts m f)
  pub meant : (s : ℕ) → s < m.states → VerdictMeans m f s
  pub one_set : HasOneSet m f

-- the theorem of judging: every formula is judged rightly on every lawful model
abbrev pub AllJudgedRightly : Type 0
AllJudgedRightly = (m : Mdp) → Lawful m → (f : Formula) → JudgedRightly m f
