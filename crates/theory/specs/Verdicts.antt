-- Chapter 9. Verdicts: yes, no or undecided, told by the sure states and the possible ones.
use Rattle.std.specs.Prelude.{◌≡◌, ℕ, ◌<◌, Bool, true, false, not, ◌&&◌, Some, None, Option, nat_le, nat_lt}
use Rattle.model.specs.Mdp.{Mdp, Lawful}
use Rattle.theory.specs.Mixes.{greater, lesser}
use Rattle.theory.specs.Ends.{lower, upper, next_lower, next_upper}
use Rattle.theory.specs.WithoutSteps.{Extremal, over_none, at_most_none, at_least_whole, WithoutSteps}
use Rattle.theory.specs.Formulas.{Comparison, below, at_most, above, at_least, Formula, truth, label, negation, conjunction, probability, PathFormula, next, until_within, until, extremal, has_label, SetOf, Holds}

-- the verdicts on all states: a sure state is a yes, a possible one that is not sure is undecided, any other is a no
pub record VerdictSets : Type 0 where
  pub sure : ℕ → Bool
  pub possible : ℕ → Bool

-- does x compare with y so?
abbrev pub fits : Comparison → ℕ → ℕ → Bool
fits below x y = nat_lt x y
fits at_most x y = nat_le x y
fits above x y = nat_lt y x
fits at_least x y = nat_le y x

-- `<` and `<=` ask for the best adversary's tally, `>` and `>=` for the worst one's
abbrev pub asked : Comparison → ℕ → ℕ → Bool
asked below = greater
asked at_most = greater
asked above = lesser
asked at_least = lesser

-- of a lower and an upper end, the one that fits the comparison less easily
abbrev pub harder_end : Comparison → ℕ → ℕ → ℕ
harder_end below lo hi = hi
harder_end at_most lo hi = hi
harder_end above lo hi = lo
harder_end at_least lo hi = lo

-- of a lower and an upper end, the one that fits the comparison more easily
abbrev pub easier_end : Comparison → ℕ → ℕ → ℕ
easier_end below lo hi = lo
easier_end at_most lo hi = lo
easier_end above lo hi = hi
easier_end at_least lo hi = hi

-- verdicts are read off two ends and a bound: sure if the harder end fits, possible if the easier one does
abbrev pub read_off : Comparison → ℕ → (ℕ → ℕ) → (ℕ → ℕ) → VerdictSets
read_off c b lo hi = record {
  sure = λ s. fits c (harder_end c (lo s) (hi s)) b;
  possible = λ s. fits c (easier_end c (lo s) (hi s)) b;
}

-- next: the lower end over the sure states of the part, the upper end over its possible ones
abbrev pub next_verdicts : Comparison → ℕ → Mdp → VerdictSets → VerdictSets
next_verdicts c b m v = read_off c b (next_lower (asked c) v.sure m) (next_upper (asked c) v.possible m)

-- until with k steps: likewise, after k rounds
abbrev pub until_within_verdicts : Comparison → ℕ → ℕ → Mdp → VerdictSets → VerdictSets → VerdictSets
until_within_verdicts c b k m v w = read_off c b (lower (asked c) v.sure w.sure k m) (upper (asked c) v.possible w.possible k m)

-- two sets are the same on the states of a model
abbrev pub Alike : Mdp → (ℕ → Bool) → (ℕ → Bool) → Type 0
Alike m f g = (s : ℕ) → s < m.states → f s ≡ g s

-- two verdicts are: both their sets
pub record SameVerdicts (m : Mdp) (v w : VerdictSets) : Type 0 where
  pub sures : Alike m v.sure w.sure
  pub possibles : Alike m v.possible w.possible

-- the verdicts where a set is known: none is undecided
abbrev pub known : (ℕ → Bool) → VerdictSets
known set = record { sure = set; possible = set }

-- not: a yes is where the part is a no
abbrev pub negated : VerdictSets → VerdictSets
negated v = record { sure = λ s. not (v.possible s); possible = λ s. not (v.sure s) }

-- and: state by state
abbrev pub joined : VerdictSets → VerdictSets → VerdictSets
joined v w = record { sure = λ s. v.sure s && w.sure s; possible = λ s. v.possible s && w.possible s }

-- until without steps, over verdicts v and w on its parts: a yes is where it holds on the sets that make it hardest, a no where it fails on those that make it easiest
-- larger sets help the first bound and the third, and hinder the second
abbrev pub ExtremalJudged : Extremal → Mdp → VerdictSets → VerdictSets → VerdictSets → Type 0
ExtremalJudged over_none m v w u =
    SetOf m (WithoutSteps over_none v.sure w.sure m) u.sure × SetOf m (WithoutSteps over_none v.possible w.possible m) u.possible
ExtremalJudged at_most_none m v w u =
    SetOf m (WithoutSteps at_most_none v.possible w.possible m) u.sure × SetOf m (WithoutSteps at_most_none v.sure w.sure m) u.possible
ExtremalJudged at_least_whole m v w u =
    SetOf m (WithoutSteps at_least_whole v.sure w.sure m) u.sure × SetOf m (WithoutSteps at_least_whole v.possible w.possible m) u.possible

-- under any other bound it is a no everywhere
abbrev pub UntilJudged : Option Extremal → Mdp → VerdictSets → VerdictSets → VerdictSets → Type 0
UntilJudged None m v w u = SameVerdicts m u (known (λ s. false))
UntilJudged (Some o) m v w u = ExtremalJudged o m v w u

-- u are the verdicts on a formula, given by those on its parts
abbrev mutual
  pub Judged : Mdp → Formula → VerdictSets → Type 0
  Judged m truth u = SameVerdicts m u (known (λ s. true))
  Judged m (label i) u = SameVerdicts m u (known (has_label m i))
  Judged m (negation f) u = (v : VerdictSets) × Judged m f v × SameVerdicts m u (negated v)
  Judged m (conjunction f g) u = (v w : VerdictSets) × Judged m f v × Judged m g w × SameVerdicts m u (joined v w)
  Judged m (probability c b p) u = PathJudged m c b p u

  -- u are the verdicts on a path formula under this comparison and bound
  pub PathJudged : Mdp → Comparison → ℕ → PathFormula → VerdictSets → Type 0
  PathJudged m c b (next f) u = (v : VerdictSets) × Judged m f v × SameVerdicts m u (next_verdicts c b m v)
  PathJudged m c b (until_within k f g) u = (v w : VerdictSets) × Judged m f v × Judged m g w × SameVerdicts m u (until_within_verdicts c b k m v w)
  PathJudged m c b (until f g) u = (v w : VerdictSets) × Judged m f v × Judged m g w × UntilJudged (extremal c b) m v w u

-- every formula has verdicts, and on the states only one
abbrev pub OneVerdict : Type 0
OneVerdict = (m : Mdp) → Lawful m → (f : Formula) → (v : VerdictSets) × Judged m f v × ((u : VerdictSets) → Judged m f u → SameVerdicts m u v)

-- the verdict at s on a statement P of s is correct: a yes holds, and what holds is possible, so a no fails
pub record Correct (v : VerdictSets) (P : Type 0) (s : ℕ) : Type 0 where
  pub yes_holds : v.sure s ≡ true → P
  pub holds_possible : P → v.possible s ≡ true

-- the theorem of verdicts: they are correct for every formula
abbrev pub VerdictsCorrect : Type 0
VerdictsCorrect = (m : Mdp) → Lawful m → (f : Formula) (v : VerdictSets) → Judged m f v → (s : ℕ) → s < m.states → Correct v (Holds m f s) s
