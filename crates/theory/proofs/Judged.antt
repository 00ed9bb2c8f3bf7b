-- Every formula has verdicts, on the states only one, and they are right and near: those that rounds and marks find are meant.
use Rattle.std.proofs.Common.{◌≡◌, ℕ, ◌<◌, Bool, true, false, not, ◌&&◌, Some, None, Option, sym, refl, ap, ◌∙◌, ap₂}
use Rattle.model.specs.Mdp.{Mdp, Lawful}
use Rattle.theory.specs.WithoutSteps.{Extremal, over_none, at_most_none, at_least_whole, WithoutSteps, marked_set}
use Rattle.theory.specs.Formulas.{Comparison, Formula, truth, label, negation, conjunction, probability, PathFormula, next, until_within, until, extremal, has_label, SetOf}
use Rattle.theory.specs.Verdicts.{VerdictSets, Alike, SameVerdicts, known, negated, joined, next_verdicts, until_within_verdicts, ExtremalJudged, UntilJudged, Judged, PathJudged, OneVerdict, VerdictsCorrect}
use Rattle.theory.specs.Distances.{Decided, Undecided, NearBound, UntilNear, NextNear, WithoutStepsDecided}
use Rattle.theory.proofs.Meaning.{marked_iff, hardest, hardest_next}
use Rattle.theory.specs.Found.{extremal_verdicts, until_verdicts, verdicts, path_verdicts, VerdictMeans, AllJudgedRightly}
use Rattle.theory.proofs.Alike.{next_verdicts_alike, until_within_verdicts_alike, extremal_verdicts_alike}
use Rattle.theory.proofs.Judge.{sound}
use Rattle.theory.proofs.Near.{same_set, one_set, within_value, next_value, formula_near, formula_next_near, extremal_decided}

-- verdicts are the same as themselves
same_refl : (m : Mdp) (v : VerdictSets) → SameVerdicts m v v
same_refl m v = record { sures = λ s p. refl; possibles = λ s p. refl }

-- through a third
same_trans : (m : Mdp) (u v w : VerdictSets) → SameVerdicts m u v → SameVerdicts m v w → SameVerdicts m u w
same_trans m u v w x y = record { sures = λ s p. x.sures s p ∙ y.sures s p; possibles = λ s p. x.possibles s p ∙ y.possibles s p }

-- not keeps sameness
pub negated_alike : (m : Mdp) (v w : VerdictSets) → SameVerdicts m v w → SameVerdicts m (negated v) (negated w)
negated_alike m v w x = record { sures = λ s p. ap not (x.possibles s p); possibles = λ s p. ap not (x.sures s p) }

-- and keeps sameness
pub joined_alike : (m : Mdp) (v v' w w' : VerdictSets) → SameVerdicts m v v' → SameVerdicts m w w' → SameVerdicts m (joined v w) (joined v' w')
joined_alike m v v' w w' x y = record { sures = λ s p. ap₂ ◌&&◌ (x.sures s p) (y.sures s p); possibles = λ s p. ap₂ ◌&&◌ (x.possibles s p) (y.possibles s p) }

module _ (m : Mdp) (l : Lawful m) where
  -- the marks find the set of an until without steps
  marked : (o : Extremal) (left right : ℕ → Bool) → SetOf m (WithoutSteps o left right m) (marked_set o left right m)
  marked o left right s p = marked_iff m l s p o left right

  -- they are the verdicts over the sets of the parts
  extremal_found : (o : Extremal) (v w : VerdictSets) → ExtremalJudged o m v w (extremal_verdicts o m v w)
  extremal_found over_none v w = (marked over_none v.sure w.sure, marked over_none v.possible w.possible)
  extremal_found at_most_none v w = (marked at_most_none v.possible w.possible, marked at_most_none v.sure w.sure)
  extremal_found at_least_whole v w = (marked at_least_whole v.sure w.sure, marked at_least_whole v.possible w.possible)

  -- under every bound
  until_found : (o : Option Extremal) (v w : VerdictSets) → UntilJudged o m v w (until_verdicts o m v w)
  until_found None v w = same_refl m (known (λ s. false))
  until_found (Some o) v w = extremal_found o v w

  -- and there is no other
  only_marked : (o : Extremal) (left right set : ℕ → Bool) → SetOf m (WithoutSteps o left right m) set → Alike m set (marked_set o left right m)
  only_marked o left right set x = same_set m (WithoutSteps o left right m) set (marked_set o left right m) x (marked o left right)

  -- so of the two sets of its verdicts
  extremal_only : (o : Extremal) (v w u : VerdictSets) → ExtremalJudged o m v w u → SameVerdicts m u (extremal_verdicts o m v w)
  extremal_only over_none v w u x = record { sures = only_marked over_none v.sure w.sure u.sure x.0; possibles = only_marked over_none v.possible w.possible u.possible x.1 }
  extremal_only at_most_none v w u x = record { sures = only_marked at_most_none v.possible w.possible u.sure x.0; possibles = only_marked at_most_none v.sure w.sure u.possible x.1 }
  extremal_only at_least_whole v w u x = record { sures = only_marked at_least_whole v.sure w.sure u.sure x.0; possibles = only_marked at_least_whole v.possible w.possible u.possible x.1 }

  -- under every bound, from parts that are the same
  until_only : (o : Option Extremal) (v v' w w' u : VerdictSets) → SameVerdicts m v v' → SameVerdicts m w w' → UntilJudged o m v w u → SameVerdicts m u (until_verdicts o m v' w')
  until_only None v v' w w' u x y j = j
  until_only (Some o) v v' w w' u x y j =
      same_trans m u (extremal_verdicts o m v w) (extremal_verdicts o m v' w') (extremal_only o v w u j) (extremal_verdicts_alike m l o v v' w w' x y)

-- what rounds and marks find are verdicts
mutual
  pub found : (m : Mdp) → Lawful m → (f : Formula) → Judged m f (verdicts m f)
  found m l truth = same_refl m (known (λ s. true))
  found m l (label i) = same_refl m (verdicts m (label i))
  found m l (negation f) = (verdicts m f, found m l f, same_refl m (negated (verdicts m f)))
  found m l (conjunction f g) = (verdicts m f, verdicts m g, found m l f, found m l g, same_refl m (joined (verdicts m f) (verdicts m g)))
  found m l (probability c b p) = path_found m l c b p

  -- a path formula, by its parts
  path_found : (m : Mdp) → Lawful m → (c : Comparison) (b : ℕ) (p : PathFormula) → PathJudged m c b p (path_verdicts m c b p)
  path_found m l c b (next f) = (verdicts m f, found m l f, same_refl m (next_verdicts c b m (verdicts m f)))
  path_found m l c b (until_within k f g) = (verdicts m f, verdicts m g, found m l f, found m l g, same_refl m (until_within_verdicts c b k m (verdicts m f) (verdicts m g)))
  path_found m l c b (until f g) = (verdicts m f, verdicts m g, found m l f, found m l g, until_found m l (extremal c b) (verdicts m f) (verdicts m g))

-- and there are no others
mutual
  pub only_found : (m : Mdp) → Lawful m → (f : Formula) (u : VerdictSets) → Judged m f u → SameVerdicts m u (verdicts m f)
  only_found m l truth u j = j
  only_found m l (label i) u j = j
  only_found m l (negation f) u j = same_trans m u (negated j.0) (negated (verdicts m f)) j.2 (negated_alike m j.0 (verdicts m f) (only_found m l f j.0 j.1))
  only_found m l (conjunction f g) u j = same_trans m u (joined j.0 j.1) (joined (verdicts m f) (verdicts m g)) j.4
      (joined_alike m j.0 (verdicts m f) j.1 (verdicts m g) (only_found m l f j.0 j.2) (only_found m l g j.1 j.3))
  only_found m l (probability c b p) u j = path_only_found m l c b p u j

  -- a path formula, by its parts
  path_only_found : (m : Mdp) → Lawful m → (c : Comparison) (b : ℕ) (p : PathFormula) (u : VerdictSets) → PathJudged m c b p u → SameVerdicts m u (path_verdicts m c b p)
  path_only_found m l c b (next f) u j = same_trans m u (next_verdicts c b m j.0) (next_verdicts c b m (verdicts m f)) j.2
      (next_verdicts_alike m l c b j.0 (verdicts m f) (only_found m l f j.0 j.1))
  path_only_found m l c b (until_within k f g) u j =
      same_trans m u (until_within_verdicts c b k m j.0 j.1) (until_within_verdicts c b k m (verdicts m f) (verdicts m g)) j.4
      (until_within_verdicts_alike m l c b k j.0 (verdicts m f) j.1 (verdicts m g) (only_found m l f j.0 j.2) (only_found m l g j.1 j.3))
  path_only_found m l c b (until f g) u j =
      until_only m l (extremal c b) j.0 (verdicts m f) j.1 (verdicts m g) u (only_found m l f j.0 j.2) (only_found m l g j.1 j.3) j.4

-- exactly one
pub one_verdict : OneVerdict
one_verdict m l f = (verdicts m f, found m l f, only_found m l f)

-- they are correct
pub verdicts_correct : VerdictsCorrect
verdicts_correct m l f v j s p =
    let e = only_found m l f v j in
    let c = sound m l f s p in
    record { yes_holds = λ x. c.yes_holds (sym (e.sures s p) ∙ x); holds_possible = λ h. e.possibles s p ∙ c.holds_possible h }

-- the same verdicts are decided, and undecided, alike
decided_same : (m : Mdp) (v w : VerdictSets) → SameVerdicts m v w → Decided m v → Decided m w
decided_same m v w e d s p = sym (e.sures s p) ∙ d s p ∙ e.possibles s p

-- and undecided alike
undecided_same : (m : Mdp) (v w : VerdictSets) → SameVerdicts m v w → (s : ℕ) → s < m.states → Undecided v s → Undecided w s
undecided_same m v w e s p u = record { not_sure = sym (e.sures s p) ∙ u.not_sure; is_possible = sym (e.possibles s p) ∙ u.is_possible }

-- an undecided until with steps over decided parts: its value and where that lies
pub until_near : UntilNear
until_near m l c b k f g v w u i j h x y s p z left right q r =
    let e = within_value m l s p c left right k in (
      hardest c left right k m s,
      e,
      formula_near m l c b k f g (decided_same m v (verdicts m f) (only_found m l f v i) x) (decided_same m w (verdicts m g) (only_found m l g w j) y) s p
          (undecided_same m u (verdicts m (probability c b (until_within k f g))) (only_found m l (probability c b (until_within k f g)) u h) s p z)
          left right q r (hardest c left right k m s) e,
    )

-- the same of a next
pub next_is_near : NextNear
next_is_near m l c b f v u i h x s p z set q =
    let e = next_value m l s p c set in (
      hardest_next c set m s,
      e,
      formula_next_near m l c b f (decided_same m v (verdicts m f) (only_found m l f v i) x) s p
          (undecided_same m u (verdicts m (probability c b (next f))) (only_found m l (probability c b (next f)) u h) s p z) set q (hardest_next c set m s) e,
    )

-- an until without steps over decided parts is decided
pub without_steps_decided : WithoutStepsDecided
without_steps_decided m l c b f g v w u i j h x y =
    let e = only_found m l (probability c b (until f g)) u h in
    let d = extremal_decided m l (extremal c b) (verdicts m f) (verdicts m g) (decided_same m v (verdicts m f) (only_found m l f v i) x) (decided_same m w (verdicts m g) (only_found m l g w j) y) in
    λ s p. e.sures s p ∙ d s p ∙ sym (e.possibles s p)

module _ (m : Mdp) (l : Lawful m) (s : ℕ) (p : s < m.states) where
  -- an undecided formula is near its bound
  undecided_near : (f : Formula) → Undecided (verdicts m f) s → NearBound m (λ g. Decided m (verdicts m g)) f s
  undecided_near truth u = let a : true ≡ false = u.not_sure in absurd cc
  undecided_near (label i) u = let a : has_label m i s ≡ false = u.not_sure in let b : has_label m i s ≡ true = u.is_possible in absurd cc
  undecided_near (negation f) u = λ x.
      let v = verdicts m f in
      let a : not (v.possible s) ≡ false = u.not_sure in
      let b : not (v.sure s) ≡ true = u.is_possible in
      let same : v.sure s ≡ v.possible s = x s p in
      absurd cc
  undecided_near (conjunction f g) u = λ x y.
      let v = verdicts m f in
      let w = verdicts m g in
      let a : (v.sure s && w.sure s) ≡ false = u.not_sure in
      let b : (v.possible s && w.possible s) ≡ true = u.is_possible in
      let same : v.sure s ≡ v.possible s = x s p in
      let like : w.sure s ≡ w.possible s = y s p in
      absurd cc
  undecided_near (probability c b (next f)) u = λ x set q. let e = next_value m l s p c set in (hardest_next c set m s, e, formula_next_near m l c b f x s p u set q (hardest_next c set m s) e)
  undecided_near (probability c b (until_within k f g)) u = λ x y left right q r.
      let e = within_value m l s p c left right k in (hardest c left right k m s, e, formula_near m l c b k f g x y s p u left right q r (hardest c left right k m s) e)
  undecided_near (probability c b (until f g)) u = λ x y. let e = extremal_decided m l (extremal c b) (verdicts m f) (verdicts m g) x y s p in absurd cc

  -- what a verdict means
  verdict_means : (f : Formula) → VerdictMeans m f s
  verdict_means f = record {
    yes_holds = (sound m l f s p).yes_holds;
    no_fails = λ e h. let x = (sound m l f s p).holds_possible h in absurd cc;
    undecided_near = undecided_near f;
  }

-- so every formula is judged rightly
pub all_judged_rightly : AllJudgedRightly
all_judged_rightly m l f = record { defined = found m l f; only = only_found m l f; meant = λ s p. verdict_means m l s p f; one_set = one_set m l f }
