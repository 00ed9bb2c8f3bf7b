-- An undecided verdict over decided parts lies near the bound. Every formula has exactly one set.
use Rattle.std.proofs.Common.{◌≡◌, ℕ, ◌*◌, ◌^◌, ◌<◌, ◌≤◌, Bool, Some, None, Option, sym, refl, subst, le_trans, mul-le-mul_right, arith, ltb-false, ltb-true, leb-false, leb-true, true, false}
use Rattle.std.proofs.lemmas.Bool.Decides.{same_from_decides}
use Rattle.theory.proofs.Compare.{asked_laws}
use Rattle.model.specs.Mdp.{Mdp, Lawful}
use Rattle.theory.specs.Adversaries.{Adversary, Allowed}
use Rattle.theory.specs.Tallies.{tally, next_tally}
use Rattle.theory.specs.Mixes.{whole, mix_up}
use Rattle.theory.specs.Ends.{Close, start, lower, next_lower, BoundsBest, BoundsWorst}
use Rattle.theory.specs.WithoutSteps.{Extremal, over_none, at_most_none, at_least_whole}
use Rattle.theory.specs.Formulas.{OneSet, probability, until_within, Comparison, below, at_most, above, at_least, Formula, next, SetOf, Holds}
use Rattle.theory.specs.Verdicts.{asked, easier_end, VerdictSets, next_verdicts, until_within_verdicts, known, harder_end, fits}
use Rattle.theory.specs.Distances.{QueriesCorrect, StateValue, WithinUnits, Decided, Undecided}
use Rattle.theory.specs.Found.{until_verdicts, verdicts, BoundsBy}
use Rattle.theory.proofs.RuleLaws.{up_greater, up_lesser}
use Rattle.theory.proofs.Ends.{greater_close, lesser_close, rounds_close, ends_close, KeepsClose}
use Rattle.theory.proofs.Alike.{held_alike, next_alike, marked_alike}
use Rattle.theory.proofs.Meaning.{decided, hardest, hardest_next, hardest_bound, hardest_is, hardest_next_bound, hardest_next_is}
use Rattle.theory.proofs.Judge.{end_fails, bounds_reached, until_within_correct, Among, own_among, until_bounds, next_bounds}

-- one set
pub same_set : (m : Mdp) (P : ℕ → Type 0) (f g : ℕ → Bool) → SetOf m P f → SetOf m P g → (s : ℕ) → s < m.states → f s ≡ g s
same_set m P f g x y s p = same_from_decides (f s) (g s) (x s p) (y s p)

-- exactly one: there is a set of the states of which a formula holds, and every other is the same below n
pub one_set : OneSet
one_set m l f = let r = decided m l f in (r.0, r.1, λ other x. same_set m (Holds m f) other r.0 x r.1)

-- ends at most k apart around the value, and an undecided verdict
near_best : (k b d lo hi x : ℕ) → Close k lo hi → lo * d ≤ x * whole → x * whole ≤ hi * d → lo ≤ b → b ≤ hi → WithinUnits k b d x
near_best k b d lo hi x c f g u v =
    let i = mul-le-mul_right d c.near in
    let j = mul-le-mul_right d u in
    let n = mul-le-mul_right d v in
    record { not_over = omega arith; not_under = omega arith }

module _ (m : Mdp) (l : Lawful m) (s : ℕ) (p : s < m.states) (tallied : Adversary → ℕ) (b k d x lo hi : ℕ) (close : Close k lo hi) where
  -- the best lies between the ends
  best_between : BoundsBest m tallied d lo hi → (σ : Adversary) × Allowed m σ × (tallied σ ≡ x) → ((σ : Adversary) → Allowed m σ → tallied σ ≤ x) →
      lo ≤ b → b ≤ hi → WithinUnits k b d x
  best_between bounds at all u v =
      let some = bounds.some_reaches in
      near_best k b d lo hi x close (le_trans some.2 (mul-le-mul_right whole (all some.0 some.1)))
      (rw at.2 at (bounds.none_above at.0 at.1)) u v

  -- so does the worst
  worst_between : BoundsWorst m tallied d lo hi → (σ : Adversary) × Allowed m σ × (tallied σ ≡ x) → ((σ : Adversary) → Allowed m σ → x ≤ tallied σ) →
      lo ≤ b → b ≤ hi → WithinUnits k b d x
  worst_between bounds at all u v =
      let some = bounds.some_reaches in
      near_best k b d lo hi x close (rw at.2 at (bounds.none_below at.0 at.1))
      (le_trans (mul-le-mul_right whole (all some.0 some.1)) some.2) u v

  -- so under each comparison a value lies near the bound that the harder end does not fit and the easier one does
  between : (c : Comparison) → BoundsBy c m tallied d lo hi → StateValue c m tallied x →
      fits c (harder_end c lo hi) b ≡ false → fits c (easier_end c lo hi) b ≡ true → WithinUnits k b d x
  between below bounds value u v = let i = ltb-false hi b u in let j = ltb-true lo b v in best_between bounds value.attained value.kept (omega arith) (omega arith)
  between at_most bounds value u v = let i = leb-false hi b u in let j = leb-true lo b v in best_between bounds value.attained value.kept (omega arith) (omega arith)
  between above bounds value u v = let i = ltb-false b lo u in let j = ltb-true b hi v in worst_between bounds value.attained value.kept (omega arith) (omega arith)
  between at_least bounds value u v = let i = leb-false b lo u in let j = leb-true b hi v in worst_between bounds value.attained value.kept (omega arith) (omega arith)

-- the preference of each comparison takes close numbers from close ones
asked_close : (c : Comparison) → KeepsClose (asked c)
asked_close below = greater_close
asked_close at_most = greater_close
asked_close above = lesser_close
asked_close at_least = lesser_close

module _ (m : Mdp) (l : Lawful m) (s : ℕ) (p : s < m.states) (v w : VerdictSets) (x : Decided m v) (y : Decided m w) (k : ℕ)
    (left right : ℕ → Bool) (f : Among m v left) (g : Among m w right) (b n : ℕ) where
  -- an undecided verdict over decided parts: the value lies within k units of the bound
  pub within_near : (c : Comparison) → Undecided (until_within_verdicts c b k m v w) s → StateValue c m (λ σ. tally left right k m σ s) n → WithinUnits k b (m.denominator ^ k) n
  within_near c u e = between m l s p (λ σ. tally left right k m σ s) b k (m.denominator ^ k) n _ _
      (subst (λ z. Close k (lower (asked c) v.sure w.sure k m s) z)
      (held_alike m l s p (asked c) mix_up (asked_laws mix_up up_greater up_lesser c) v.sure v.possible w.sure w.possible x y k)
      (ends_close (asked c) (asked_close c) v.sure w.sure m l k s p))
      c (until_bounds m l s p v w left right f g k c) e u.not_sure u.is_possible

module _ (m : Mdp) (l : Lawful m) (s : ℕ) (p : s < m.states) (v : VerdictSets) (x : Decided m v) (set : ℕ → Bool) (f : Among m v set) (b n : ℕ) where
  -- next: within one unit
  pub next_near : (c : Comparison) → Undecided (next_verdicts c b m v) s → StateValue c m (λ σ. next_tally set m σ s) n → WithinUnits 1 b (m.denominator ^ 1) n
  next_near c u e = between m l s p (λ σ. next_tally set m σ s) b 1 (m.denominator ^ 1) n _ _
      (subst (λ z. Close 1 (next_lower (asked c) v.sure m s) z)
      (next_alike m l s p (asked c) mix_up (asked_laws mix_up up_greater up_lesser c) v.sure v.possible x)
      (rounds_close (asked c) (asked_close c) m l (start v.sure) 1 s p))
      c (next_bounds m l s p v set f c) e u.not_sure u.is_possible

-- of formulas: parts without a 2, and the sets of which they hold
pub formula_near : (m : Mdp) → Lawful m → (c : Comparison) (b k : ℕ) (f g : Formula) → Decided m (verdicts m f) → Decided m (verdicts m g) →
    (s : ℕ) → s < m.states → Undecided (verdicts m (probability c b (until_within k f g))) s →
    (left right : ℕ → Bool) → SetOf m (Holds m f) left → SetOf m (Holds m g) right → (n : ℕ) → StateValue c m (λ σ. tally left right k m σ s) n →
    WithinUnits k b (m.denominator ^ k) n
formula_near m l c b k f g x y s p u left right i j n e =
    within_near m l s p (verdicts m f) (verdicts m g) x y k left right
    (own_among m l f left i) (own_among m l g right j) b n c u e

-- and of a next
pub formula_next_near : (m : Mdp) → Lawful m → (c : Comparison) (b : ℕ) (f : Formula) → Decided m (verdicts m f) →
    (s : ℕ) → s < m.states → Undecided (verdicts m (probability c b (next f))) s →
    (set : ℕ → Bool) → SetOf m (Holds m f) set → (n : ℕ) → StateValue c m (λ σ. next_tally set m σ s) n →
    WithinUnits 1 b (m.denominator ^ 1) n
formula_next_near m l c b f x s p u set i n e =
    next_near m l s p (verdicts m f) x set (own_among m l f set i) b n c u e

-- there is a value
pub within_value : (m : Mdp) → Lawful m → (s : ℕ) → s < m.states → (c : Comparison) (left right : ℕ → Bool) (k : ℕ) →
    StateValue c m (λ σ. tally left right k m σ s) (hardest c left right k m s)
within_value m l s p c left right k = record { attained = hardest_is m l s p c left right k; kept = hardest_bound m l s p c left right k }

-- and for next
pub next_value : (m : Mdp) → Lawful m → (s : ℕ) → s < m.states → (c : Comparison) (set : ℕ → Bool) →
    StateValue c m (λ σ. next_tally set m σ s) (hardest_next c set m s)
next_value m l s p c set = record { attained = hardest_next_is m l s p c set; kept = hardest_next_bound m l s p c set }

-- an until without steps over decided parts is decided
pub extremal_decided : (m : Mdp) → Lawful m → (o : Option Extremal) (v w : VerdictSets) → Decided m v → Decided m w → Decided m (until_verdicts o m v w)
extremal_decided m l None v w x y s p = refl
extremal_decided m l (Some over_none) v w x y s p = marked_alike m l s p over_none _ _ _ _ x y
extremal_decided m l (Some at_most_none) v w x y s p = sym (marked_alike m l s p at_most_none _ _ _ _ x y)
extremal_decided m l (Some at_least_whole) v w x y s p = marked_alike m l s p at_least_whole _ _ _ _ x y

-- sets that are known are decided
known_among : (m : Mdp) (set : ℕ → Bool) → Among m (known set) set
known_among m set = record { low = λ t q e. e; high = λ t q e. e }

-- what the verdicts of a query tell
pub queries_correct : QueriesCorrect
queries_correct c b k left right m l s p = record {
  yes_holds = (until_within_correct m l s p (known left) (known right) left right (known_among m left) (known_among m right) k c b).yes_holds;
  no_fails = end_fails m l s p (λ σ. tally left right k m σ s) b k _ c
      (bounds_reached m l s p (λ σ. tally left right k m σ s) (m.denominator ^ k) _ _ c
      (until_bounds m l s p (known left) (known right) left right (known_among m left) (known_among m right) k c));
  undecided_near = λ u. let e = within_value m l s p c left right k in (
    hardest c left right k m s,
    e,
    within_near m l s p (known left) (known right) (λ t q. refl) (λ t q. refl) k left right (known_among m left) (known_among m right) b (hardest c left right k m s) c u e,
  );
}

-- every formula has exactly one set
pub every_set : OneSet
every_set m l f = one_set m l f
