-- The verdicts are right: yes states hold, and what holds is possible.
use Rattle.std.proofs.Common.{◌≡◌, ℕ, ◌*◌, ◌^◌, ◌<◌, ◌≤◌, Bool, true, false, not, [], Some, None, Option, refl, ap, subst, inl, inr, le_trans, mul-le-mul_right}
use Rattle.std.proofs.lemmas.Bool.{cases_Bool, both_ways, and_parts, not-true}
use native.Mathlib.Nat.{one-le-pow}
use Rattle.model.specs.Mdp.{Mdp, Lawful}
use Rattle.theory.specs.Adversaries.{Adversary, Allowed}
use Rattle.theory.specs.Tallies.{tally, next_tally}
use Rattle.theory.specs.Mixes.{whole, greater, lesser}
use Rattle.theory.specs.Ends.{lower, upper, next_lower, next_upper, BoundsBest, BoundsWorst}
use Rattle.theory.specs.WithoutSteps.{Extremal, over_none, at_most_none, at_least_whole, WithoutSteps}
use Rattle.theory.specs.Formulas.{PathFormula, PathHolds, probability, until_within, until, extremal, Under, Comparison, below, at_most, above, at_least, Formula, truth, label, negation, conjunction, next, Fits, SetOf, Holds}
use Rattle.theory.specs.Verdicts.{Correct, fits, VerdictSets, read_off, next_verdicts, until_within_verdicts, asked, harder_end, easier_end}
use Rattle.theory.specs.Distances.{Harder}
use Rattle.theory.specs.Found.{until_verdicts, path_verdicts, extremal_verdicts, verdicts, TwoEnds, BoundsBy, BoundsFormula, FormulaEndsBound}
use Rattle.theory.proofs.Ends.{best_none_above, best_some, worst_none_below, worst_some}
use Rattle.theory.proofs.Between.{Subset, tally_below, next_below, next_none_above, next_none_below, next_best_some, next_worst_some}
use Rattle.theory.proofs.Compare.{fits_test, fits_harder, fits_times, fits_part}
use Rattle.theory.proofs.Meaning.{decided, marked_iff, positive_more, never_less, certain_more}

-- a set between the sure and the possible states
pub record Among (m : Mdp) (v : VerdictSets) (set : ℕ → Bool) : Type 0 where
  pub low : Subset m v.sure set
  pub high : Subset m set v.possible

module _ (m : Mdp) (l : Lawful m) (s : ℕ) (p : s < m.states) where
  -- an edge that every adversary's value keeps to, or that some value keeps to
  module _ (q : Adversary → ℕ) (b k edge : ℕ) (c : Comparison) where
    -- where the edge that all values keep to fits the bound, every value fits it
    end_yes : ((σ : Adversary) → Allowed m σ → Harder c (edge * m.denominator ^ k) (q σ * whole)) →
        fits c edge b ≡ true → (σ : Adversary) → Allowed m σ → Fits c (q σ * whole) (b * m.denominator ^ k)
    end_yes h e σ a = fits_harder c (edge * m.denominator ^ k) (q σ * whole) (b * m.denominator ^ k) (h σ a)
        (fits_times c edge b (m.denominator ^ k) (one-le-pow k m.denominator l.some_unit) ((fits_test c edge b).0 e))

    -- where a value that keeps to the edge fits the bound, so does the edge
    end_fits : (σ : Adversary) → Harder c (q σ * whole) (edge * m.denominator ^ k) → Fits c (q σ * whole) (b * m.denominator ^ k) → fits c edge b ≡ true
    end_fits σ h f = (fits_test c edge b).1 (fits_part c edge b (m.denominator ^ k) (one-le-pow k m.denominator l.some_unit)
        (fits_harder c (q σ * whole) (edge * m.denominator ^ k) (b * m.denominator ^ k) h f))

    -- so it does where every value fits the bound
    end_no : (σ : Adversary) × Allowed m σ × Harder c (q σ * whole) (edge * m.denominator ^ k) →
        ((σ : Adversary) → Allowed m σ → Fits c (q σ * whole) (b * m.denominator ^ k)) → fits c edge b ≡ true
    end_no r f = end_fits r.0 r.2 (f r.0 r.1)

    -- and where the edge does not fit, some adversary does not
    pub end_fails : (σ : Adversary) × Allowed m σ × Harder c (q σ * whole) (edge * m.denominator ^ k) →
        fits c edge b ≡ false → (σ : Adversary) × Allowed m σ × ¬ (Fits c (q σ * whole) (b * m.denominator ^ k))
    end_fails r e = (r.0, r.1, λ f. both_ways (fits c edge b) e (end_fits r.0 r.2 f))

  -- numbers that bound the tallies that a comparison is decided by: every tally keeps to the one that fits less easily
  module _ (q : Adversary → ℕ) (all lo hi : ℕ) where
    pub bounds_keep : (c : Comparison) → BoundsBy c m q all lo hi → (σ : Adversary) → Allowed m σ → Harder c (harder_end c lo hi * all) (q σ * whole)
    bounds_keep below x = x.none_above
    bounds_keep at_most x = x.none_above
    bounds_keep above x = x.none_below
    bounds_keep at_least x = x.none_below

    -- and some tally keeps to the other
    pub bounds_reached : (c : Comparison) → BoundsBy c m q all lo hi → (σ : Adversary) × Allowed m σ × Harder c (q σ * whole) (easier_end c lo hi * all)
    bounds_reached below x = x.some_reaches
    bounds_reached at_most x = x.some_reaches
    bounds_reached above x = x.some_reaches
    bounds_reached at_least x = x.some_reaches

  -- so the verdict that is read off them is correct
  read_correct : (q : Adversary → ℕ) (k : ℕ) (lo hi : ℕ → ℕ) (c : Comparison) (b : ℕ) → BoundsBy c m q (m.denominator ^ k) (lo s) (hi s) →
      Correct (read_off c b lo hi) ((σ : Adversary) → Allowed m σ → Fits c (q σ * whole) (b * m.denominator ^ k)) s
  read_correct q k lo hi c b x = record {
    yes_holds = end_yes q b k _ c (bounds_keep q _ _ _ c x);
    holds_possible = end_no q b k _ c (bounds_reached q _ _ _ c x);
  }

  module _ (v w : VerdictSets) (left right : ℕ → Bool) (x : Among m v left) (y : Among m w right) (k : ℕ) where
    -- on the sure sets a tally is no larger
    more : (σ : Adversary) → Allowed m σ → tally v.sure w.sure k m σ s * whole ≤ tally left right k m σ s * whole
    more σ a = mul-le-mul_right whole (tally_below m l σ a v.sure left w.sure right x.low y.low k [] s p)

    -- on the possible sets it is no smaller
    less : (σ : Adversary) → Allowed m σ → tally left right k m σ s * whole ≤ tally v.possible w.possible k m σ s * whole
    less σ a = mul-le-mul_right whole (tally_below m l σ a left v.possible right w.possible x.high y.high k [] s p)

    -- for the best the lower end on the sure sets and the upper one on the possible sets bound the tallies
    until_best : BoundsBest m (λ σ. tally left right k m σ s) (m.denominator ^ k) (lower greater v.sure w.sure k m s) (upper greater v.possible w.possible k m s)
    until_best = let r = best_some v.sure w.sure m l k s p in record {
      none_above = λ σ a. le_trans (less σ a) (best_none_above v.possible w.possible m l k s p σ a);
      some_reaches = (r.0, r.1, le_trans r.2 (more r.0 r.1));
    }

    -- and for the worst
    until_worst : BoundsWorst m (λ σ. tally left right k m σ s) (m.denominator ^ k) (lower lesser v.sure w.sure k m s) (upper lesser v.possible w.possible k m s)
    until_worst = let r = worst_some v.possible w.possible m l k s p in record {
      none_below = λ σ a. le_trans (worst_none_below v.sure w.sure m l k s p σ a) (more σ a);
      some_reaches = (r.0, r.1, le_trans (less r.0 r.1) r.2);
    }

    -- so for each comparison
    pub until_bounds : (c : Comparison) → BoundsBy c m (λ σ. tally left right k m σ s) (m.denominator ^ k) (lower (asked c) v.sure w.sure k m s) (upper (asked c) v.possible w.possible k m s)
    until_bounds below = until_best
    until_bounds at_most = until_best
    until_bounds above = until_worst
    until_bounds at_least = until_worst

    -- so the verdicts of an until with steps are correct
    pub until_within_correct : (c : Comparison) (b : ℕ) →
        Correct (until_within_verdicts c b k m v w) ((σ : Adversary) → Allowed m σ → Fits c (tally left right k m σ s * whole) (b * m.denominator ^ k)) s
    until_within_correct c b = read_correct (λ σ. tally left right k m σ s) k (lower (asked c) v.sure w.sure k m) (upper (asked c) v.possible w.possible k m) c b (until_bounds c)

  module _ (v : VerdictSets) (set : ℕ → Bool) (x : Among m v set) where
    -- the same for next: on the sure set a tally is no larger
    next_more : (σ : Adversary) → Allowed m σ → next_tally v.sure m σ s * whole ≤ next_tally set m σ s * whole
    next_more σ a = mul-le-mul_right whole (next_below m l σ a v.sure set x.low s p)

    -- on the possible set no smaller
    next_less : (σ : Adversary) → Allowed m σ → next_tally set m σ s * whole ≤ next_tally v.possible m σ s * whole
    next_less σ a = mul-le-mul_right whole (next_below m l σ a set v.possible x.high s p)

    -- the ends bound the best
    next_best : BoundsBest m (λ σ. next_tally set m σ s) (m.denominator ^ 1) (next_lower greater v.sure m s) (next_upper greater v.possible m s)
    next_best = let r = next_best_some v.sure m l s p in record {
      none_above = λ σ a. le_trans (next_less σ a) (next_none_above v.possible m l s p σ a);
      some_reaches = (r.0, r.1, le_trans r.2 (next_more r.0 r.1));
    }

    -- and the worst
    next_worst : BoundsWorst m (λ σ. next_tally set m σ s) (m.denominator ^ 1) (next_lower lesser v.sure m s) (next_upper lesser v.possible m s)
    next_worst = let r = next_worst_some v.possible m l s p in record {
      none_below = λ σ a. le_trans (next_none_below v.sure m l s p σ a) (next_more σ a);
      some_reaches = (r.0, r.1, le_trans (next_less r.0 r.1) r.2);
    }

    -- so for each comparison
    pub next_bounds : (c : Comparison) → BoundsBy c m (λ σ. next_tally set m σ s) (m.denominator ^ 1) (next_lower (asked c) v.sure m s) (next_upper (asked c) v.possible m s)
    next_bounds below = next_best
    next_bounds at_most = next_best
    next_bounds above = next_worst
    next_bounds at_least = next_worst

    -- so the verdicts of a next are correct
    pub next_correct : (c : Comparison) (b : ℕ) →
        Correct (next_verdicts c b m v) ((σ : Adversary) → Allowed m σ → Fits c (next_tally set m σ s * whole) (b * m.denominator ^ 1)) s
    next_correct c b = read_correct (λ σ. next_tally set m σ s) 1 (next_lower (asked c) v.sure m) (next_upper (asked c) v.possible m) c b (next_bounds c)

  -- the verdicts of an until without steps are correct
  pub extremal_correct : (o : Extremal) (v w : VerdictSets) (left right : ℕ → Bool) → Among m v left → Among m w right → Correct (extremal_verdicts o m v w) (WithoutSteps o left right m s) s
  extremal_correct over_none v w left right x y = record {
    yes_holds = λ e. positive_more m l s p _ _ _ _ x.low y.low ((marked_iff m l s p over_none v.sure w.sure).0 e);
    holds_possible = λ h. (marked_iff m l s p over_none v.possible w.possible).1 (positive_more m l s p _ _ _ _ x.high y.high h);
  }
  extremal_correct at_most_none v w left right x y = record {
    yes_holds = λ e. never_less m l s p _ _ _ _ x.high y.high ((marked_iff m l s p at_most_none v.possible w.possible).0 e);
    holds_possible = λ h. (marked_iff m l s p at_most_none v.sure w.sure).1 (never_less m l s p _ _ _ _ x.low y.low h);
  }
  extremal_correct at_least_whole v w left right x y = record {
    yes_holds = λ e. certain_more m l s p _ _ _ _ x.low y.low ((marked_iff m l s p at_least_whole v.sure w.sure).0 e);
    holds_possible = λ h. (marked_iff m l s p at_least_whole v.possible w.possible).1 (certain_more m l s p _ _ _ _ x.high y.high h);
  }

  -- the same by the bound that an until without steps stands under
  pub until_correct : (o : Option Extremal) (v w : VerdictSets) (left right : ℕ → Bool) → Among m v left → Among m w right → Correct (until_verdicts o m v w) (Under o left right m s) s
  until_correct None v w left right x y = record { yes_holds = λ e. absurd (both_ways false refl e); holds_possible = λ h. absurd h }
  until_correct (Some o) v w left right x y = extremal_correct o v w left right x y

-- the set of a formula lies between the sure states and the possible ones of correct verdicts
pub among : (m : Mdp) (P : ℕ → Type 0) (v : VerdictSets) → ((s : ℕ) → s < m.states → Correct v (P s) s) → (set : ℕ → Bool) → SetOf m P set → Among m v set
among m P v r set x = record { low = λ s p e. (x s p).1 ((r s p).yes_holds e); high = λ s p e. (r s p).holds_possible ((x s p).0 e) }

mutual
  pub sound : (m : Mdp) → Lawful m → (f : Formula) (s : ℕ) → s < m.states → Correct (verdicts m f) (Holds m f s) s
  sound m l truth s p = record { yes_holds = λ e. tt; holds_possible = λ h. refl }
  sound m l (label i) s p = record { yes_holds = λ e. e; holds_possible = λ h. h }
  sound m l (negation f) s p = let r = sound m l f s p in record {
    yes_holds = λ e x. absurd (both_ways ((verdicts m f).possible s) (not-true _ e) (r.holds_possible x));
    holds_possible = λ n. elim (cases_Bool ((verdicts m f).sure s)) [ inl e ↦ absurd (n (r.yes_holds e)) | inr e ↦ ap not e ];
  }
  sound m l (conjunction f g) s p = let r = sound m l f s p in let q = sound m l g s p in record {
    yes_holds = λ e. let x = and_parts ((verdicts m f).sure s) ((verdicts m g).sure s) e in (r.yes_holds x.0, q.yes_holds x.1);
    holds_possible = λ h. rw (r.holds_possible h.0, q.holds_possible h.1);
  }
  sound m l (probability c b q) s p = path_sound m l c b q s p

  -- a path formula, by its parts
  pub path_sound : (m : Mdp) → Lawful m → (c : Comparison) (b : ℕ) (q : PathFormula) (s : ℕ) → s < m.states → Correct (path_verdicts m c b q) (PathHolds m c b q s) s
  path_sound m l c b (next f) s p =
      let d = decided m l f in
      let a = among m (Holds m f) (verdicts m f) (λ t q. sound m l f t q) in
      record {
        yes_holds = λ e set x. (next_correct m l s p (verdicts m f) set (a set x) c b).yes_holds e;
        holds_possible = λ h. (next_correct m l s p (verdicts m f) d.0 (a d.0 d.1) c b).holds_possible (h d.0 d.1);
      }
  path_sound m l c b (until_within k f g) s p =
      let d = decided m l f in
      let e = decided m l g in
      let a = among m (Holds m f) (verdicts m f) (λ t q. sound m l f t q) in
      let b' = among m (Holds m g) (verdicts m g) (λ t q. sound m l g t q) in
      record {
        yes_holds = λ z left right x y. (until_within_correct m l s p (verdicts m f) (verdicts m g) left right (a left x) (b' right y) k c b).yes_holds z;
        holds_possible = λ h. (until_within_correct m l s p (verdicts m f) (verdicts m g) d.0 e.0 (a d.0 d.1) (b' e.0 e.1) k c b).holds_possible (h d.0 e.0 d.1 e.1);
      }
  path_sound m l c b (until f g) s p =
      let d = decided m l f in
      let e = decided m l g in
      let a = among m (Holds m f) (verdicts m f) (λ t q. sound m l f t q) in
      let b' = among m (Holds m g) (verdicts m g) (λ t q. sound m l g t q) in
      record {
        yes_holds = λ z left right x y. (until_correct m l s p (extremal c b) (verdicts m f) (verdicts m g) left right (a left x) (b' right y)).yes_holds z;
        holds_possible = λ h. (until_correct m l s p (extremal c b) (verdicts m f) (verdicts m g) d.0 e.0 (a d.0 d.1) (b' e.0 e.1)).holds_possible (h d.0 e.0 d.1 e.1);
      }

-- the set of a formula lies between the sure and the possible states of its own verdicts
pub own_among : (m : Mdp) → Lawful m → (f : Formula) (set : ℕ → Bool) → SetOf m (Holds m f) set → Among m (verdicts m f) set
own_among m l f = among m (Holds m f) (verdicts m f) (λ t q. sound m l f t q)

-- so the ends of a formula bound it
pub formula_ends_bound : FormulaEndsBound
formula_ends_bound m l truth ends e s p = absurd cc
formula_ends_bound m l (label i) ends e s p = absurd cc
formula_ends_bound m l (negation f) ends e s p = absurd cc
formula_ends_bound m l (conjunction f g) ends e s p = absurd cc
formula_ends_bound m l (probability c b (next f)) ends e s p =
    let same : (next_lower (asked c) (verdicts m f).sure m, next_upper (asked c) (verdicts m f).possible m) ≡ ends = cc in
    subst (λ (x : TwoEnds). BoundsFormula m (probability c b (next f)) s (x.0 s) (x.1 s)) same (λ set x. next_bounds m l s p (verdicts m f) set (own_among m l f set x) c)
formula_ends_bound m l (probability c b (until_within k f g)) ends e s p =
    let v = verdicts m f in
    let w = verdicts m g in
    let same : (lower (asked c) v.sure w.sure k m, upper (asked c) v.possible w.possible k m) ≡ ends = cc in
    subst (λ (x : TwoEnds). BoundsFormula m (probability c b (until_within k f g)) s (x.0 s) (x.1 s)) same
    (λ left right x y. until_bounds m l s p v w left right (own_among m l f left x) (own_among m l g right y) k c)
formula_ends_bound m l (probability c b (until f g)) ends e s p = absurd cc
