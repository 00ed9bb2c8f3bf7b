-- Every formula has a set: what it says of a state is decided.
use Rattle.std.proofs.Common.{◌≡◌, ℕ, ◌*◌, ◌^◌, ◌<◌, Bool, true, false, not, ◌&&◌, ◌↔◌, [], Some, None, Option, refl, ap, inl, inr, le_trans, lt_of_lt_of_le, le_antisymm, mul-le-mul_left, arith}
use Rattle.theory.specs.Rules.{RuleLaws}
use Rattle.std.proofs.lemmas.Bool.{cases_Bool, both_ways, and_parts, not-true}
use Rattle.model.specs.Mdp.{Mdp, Lawful}
use Rattle.theory.specs.Adversaries.{Adversary, Allowed}
use Rattle.theory.specs.Tallies.{tally, next_tally}
use Rattle.theory.specs.Rounds.{rounds}
use Rattle.theory.specs.Mixes.{no_first, yes_first, whole}
use Rattle.theory.specs.WithoutSteps.{MarksDecide, Positive, Never, Certain, unmarked, Extremal, over_none, at_most_none, at_least_whole, WithoutSteps, marked_set}
use Rattle.theory.specs.Formulas.{PathFormula, PathHolds, probability, until_within, until, extremal, Under, Comparison, Formula, truth, label, negation, conjunction, next, Fits, SetOf, Holds, has_label}
use Rattle.theory.specs.Verdicts.{fits, asked}
use Rattle.theory.specs.Distances.{Harder}
use Rattle.theory.specs.Ends.{held}
use Rattle.theory.proofs.RuleLaws.{marks_greater, marks_lesser}
use Rattle.theory.proofs.Exact.{mix_sum, one_in, best_tally, tally_best, tally_reached, sum_greater, sum_lesser}
use Rattle.theory.proofs.Between.{Subset, tally_below, next_below, next_tally_best, next_tally_reached}
use Rattle.theory.proofs.Compare.{fits_test, fits_harder, harder_times, asked_laws, asked_harder}
use Rattle.theory.proofs.WithoutSteps.{held_lawful, positive_iff, never_iff}
use Rattle.theory.proofs.Sure.{certain_iff}
use Rattle.theory.proofs.Settle.{settled_by, all_settled, some_settled, unmarked_settled}

-- two sets of the same states
pub set_sub : (m : Mdp) (P : ℕ → Type 0) (f g : ℕ → Bool) → SetOf m P f → SetOf m P g → Subset m f g
set_sub m P f g x y s p e = (y s p).1 ((x s p).0 e)

-- the tally that is hardest to fit
abbrev pub hardest : Comparison → (ℕ → Bool) → (ℕ → Bool) → ℕ → Mdp → ℕ → ℕ
hardest c left right k m s = best_tally (asked c) left right k m s

-- the same for next
abbrev pub hardest_next : Comparison → (ℕ → Bool) → Mdp → ℕ → ℕ
hardest_next c set m s = rounds (asked c) mix_sum 1 m (one_in set) s

-- plain sums are a lawful rule with the preference of each comparison
sum_laws : (c : Comparison) → RuleLaws (asked c) mix_sum
sum_laws = asked_laws mix_sum sum_greater sum_lesser

module _ (m : Mdp) (l : Lawful m) (s : ℕ) (p : s < m.states) where
  -- no adversary is harder
  pub hardest_bound : (c : Comparison) (left right : ℕ → Bool) (k : ℕ) (σ : Adversary) → Allowed m σ → Harder c (hardest c left right k m s) (tally left right k m σ s)
  hardest_bound c left right k σ a = asked_harder c _ _ (tally_best (asked c) (sum_laws c) left right m l k s p σ a)

  -- some adversary has it
  pub hardest_is : (c : Comparison) (left right : ℕ → Bool) (k : ℕ) → (σ : Adversary) × Allowed m σ × (tally left right k m σ s ≡ hardest c left right k m s)
  hardest_is c left right k = tally_reached (asked c) (sum_laws c) left right m l k s p

  -- no adversary is harder for a next
  pub hardest_next_bound : (c : Comparison) (set : ℕ → Bool) (σ : Adversary) → Allowed m σ → Harder c (hardest_next c set m s) (next_tally set m σ s)
  hardest_next_bound c set σ a = asked_harder c _ _ (next_tally_best (asked c) (sum_laws c) set m l s p σ a)

  -- some adversary has it
  pub hardest_next_is : (c : Comparison) (set : ℕ → Bool) → (σ : Adversary) × Allowed m σ × (next_tally set m σ s ≡ hardest_next c set m s)
  hardest_next_is c set = next_tally_reached (asked c) (sum_laws c) set m l s p

  -- all adversaries fit a bound exactly if the hardest tally does
  pub next_iff : (c : Comparison) (b : ℕ) (set : ℕ → Bool) → (fits c (hardest_next c set m s * whole) (b * m.denominator ^ 1) ≡ true) ↔
      ((σ : Adversary) → Allowed m σ → Fits c (next_tally set m σ s * whole) (b * m.denominator ^ 1))
  next_iff c b set = (
    λ e σ a. fits_harder c (hardest_next c set m s * whole) (next_tally set m σ s * whole) (b * m.denominator ^ 1)
        (harder_times c (hardest_next c set m s) (next_tally set m σ s) whole (hardest_next_bound c set σ a)) ((fits_test c _ _).0 e),
    λ h. let r = hardest_next_is c set in (fits_test c (hardest_next c set m s * whole) (b * m.denominator ^ 1)).1 (rw r.2 at (h r.0 r.1)),
  )

  -- the same of an until with steps
  pub within_iff : (c : Comparison) (b k : ℕ) (left right : ℕ → Bool) → (fits c (hardest c left right k m s * whole) (b * m.denominator ^ k) ≡ true) ↔
      ((σ : Adversary) → Allowed m σ → Fits c (tally left right k m σ s * whole) (b * m.denominator ^ k))
  within_iff c b k left right = (
    λ e σ a. fits_harder c (hardest c left right k m s * whole) (tally left right k m σ s * whole) (b * m.denominator ^ k)
        (harder_times c (hardest c left right k m s) (tally left right k m σ s) whole (hardest_bound c left right k σ a)) ((fits_test c _ _).0 e),
    λ h. let r = hardest_is c left right k in (fits_test c (hardest c left right k m s * whole) (b * m.denominator ^ k)).1 (rw r.2 at (h r.0 r.1)),
  )

  -- equal sets give equal tallies of a next
  next_same : (set set' : ℕ → Bool) → Subset m set set' → Subset m set' set → (σ : Adversary) → Allowed m σ → next_tally set m σ s ≡ next_tally set' m σ s
  next_same set set' f g σ a = le_antisymm (next_below m l σ a set set' f s p) (next_below m l σ a set' set g s p)

  -- and of an until
  tally_same : (left left' right right' : ℕ → Bool) → Subset m left left' → Subset m left' left → Subset m right right' → Subset m right' right →
      (k : ℕ) (σ : Adversary) → Allowed m σ → tally left right k m σ s ≡ tally left' right' k m σ s
  tally_same left left' right right' f f' g g' k σ a =
      le_antisymm (tally_below m l σ a left left' right right' f g k [] s p) (tally_below m l σ a left' left right' right f' g' k [] s p)

  -- an until without steps, on sets
  pub positive_more : (left left' right right' : ℕ → Bool) → Subset m left left' → Subset m right right' → Positive left right m s → Positive left' right' m s
  positive_more left left' right right' f g h σ a = let r = h σ a in (r.0, lt_of_lt_of_le r.1 (tally_below m l σ a left left' right right' f g r.0 [] s p))

  -- smaller sets keep never
  pub never_less : (left left' right right' : ℕ → Bool) → Subset m left' left → Subset m right' right → Never left right m s → Never left' right' m s
  never_less left left' right right' f g h σ a k = let x = h σ a k in let y = tally_below m l σ a left' left right' right f g k [] s p in omega arith

  -- larger sets keep certain
  pub certain_more : (left left' right right' : ℕ → Bool) → Subset m left left' → Subset m right right' → Certain left right m s → Certain left' right' m s
  certain_more left left' right right' f g h σ a n q = let r = h σ a n q in (r.0, le_trans r.1 (mul-le-mul_left n (tally_below m l σ a left left' right right' f g r.0 [] s p)))

  -- the settled marks decide
  pub marked_iff : (o : Extremal) (left right : ℕ → Bool) → (marked_set o left right m s ≡ true) ↔ WithoutSteps o left right m s
  marked_iff over_none left right = positive_iff left right m l m.states (all_settled left right m l) s p
  marked_iff at_most_none left right = let r = never_iff left right m l m.states (some_settled left right m l) s p in
      (λ e. r.0 (not-true _ e), λ h. ap not (r.1 h))
  marked_iff at_least_whole left right = let r = certain_iff left right m l m.states (all_settled left right m l) m.states (unmarked_settled left right m l) s p in
      (λ e. r.0 (not-true _ e), λ h. ap not (r.1 h))

  -- equal sets say the same
  pub without_steps_same : (o : Extremal) (left left' right right' : ℕ → Bool) → Subset m left left' → Subset m left' left → Subset m right right' → Subset m right' right →
      WithoutSteps o left right m s → WithoutSteps o left' right' m s
  without_steps_same over_none left left' right right' f f' g g' = positive_more left left' right right' f g
  without_steps_same at_most_none left left' right right' f f' g g' = never_less left left' right right' f' g'
  without_steps_same at_least_whole left left' right right' f f' g g' = certain_more left left' right right' f g

-- the marks decide
pub marks_decide : MarksDecide
marks_decide left right m l =
    let held_is = held_lawful left right m l in (
      record {
        all_settled = λ k h. settled_by no_first marks_lesser (held left right m) held_is right k (m.states, h, all_settled left right m l);
        some_settled = λ k h. settled_by yes_first marks_greater (held left right m) held_is right k (m.states, h, some_settled left right m l);
        unmarked_settled = λ k h. settled_by yes_first marks_greater (held left right m) held_is (unmarked left right m m.states) k (m.states, h, unmarked_settled left right m l);
      },
      λ o s p. marked_iff m l s p o left right,
    )

-- the set of an until without steps, by the bound that it stands under
abbrev pub under_set : Option Extremal → (ℕ → Bool) → (ℕ → Bool) → Mdp → ℕ → Bool
under_set None left right m s = false
under_set (Some o) left right m s = marked_set o left right m s

module _ (m : Mdp) (l : Lawful m) (s : ℕ) (p : s < m.states) where
  -- it is the right one
  pub under_iff : (o : Option Extremal) (left right : ℕ → Bool) → (under_set o left right m s ≡ true) ↔ Under o left right m s
  under_iff None left right = (λ e. absurd (both_ways false refl e), λ h. absurd h)
  under_iff (Some o) left right = marked_iff m l s p o left right

  -- only the states of the sets count
  pub under_same : (o : Option Extremal) (left left' right right' : ℕ → Bool) → Subset m left left' → Subset m left' left → Subset m right right' → Subset m right' right →
      Under o left right m s → Under o left' right' m s
  under_same None left left' right right' f f' g g' h = h
  under_same (Some o) left left' right right' f f' g g' h = without_steps_same m l s p o left left' right right' f f' g g' h

-- every formula has a set
mutual
  pub decided : (m : Mdp) → Lawful m → (f : Formula) → (set : ℕ → Bool) × SetOf m (Holds m f) set
  decided m l truth = (λ s. true, λ s p. (λ e. tt, λ x. refl))
  decided m l (label i) = (has_label m i, λ s p. (λ e. e, λ e. e))
  decided m l (negation f) = let r = decided m l f in (
    λ s. not (r.0 s),
    λ s p. (
      λ e x. absurd (both_ways (r.0 s) (not-true (r.0 s) e) ((r.1 s p).1 x)),
      λ n. elim (cases_Bool (r.0 s)) [ inl e ↦ absurd (n ((r.1 s p).0 e)) | inr e ↦ ap not e ],
    ),
  )
  decided m l (conjunction f g) = let r = decided m l f in let q = decided m l g in (
    λ s. r.0 s && q.0 s,
    λ s p. (
      λ e. let x = and_parts (r.0 s) (q.0 s) e in ((r.1 s p).0 x.0, (q.1 s p).0 x.1),
      λ h. rw ((r.1 s p).1 h.0, (q.1 s p).1 h.1),
    ),
  )
  decided m l (probability c b p) = path_decided m l c b p

  -- a path formula has a set, by those of its parts
  pub path_decided : (m : Mdp) → Lawful m → (c : Comparison) (b : ℕ) (p : PathFormula) → (set : ℕ → Bool) × SetOf m (PathHolds m c b p) set
  path_decided m l c b (next f) = let r = decided m l f in (
    λ s. fits c (hardest_next c r.0 m s * whole) (b * m.denominator ^ 1),
    λ s p. (
      λ e set x σ a. rw (next_same m l s p set r.0 (set_sub m (Holds m f) set r.0 x r.1) (set_sub m (Holds m f) r.0 set r.1 x) σ a)
          ((next_iff m l s p c b r.0).0 e σ a),
      λ h. (next_iff m l s p c b r.0).1 (h r.0 r.1),
    ),
  )
  path_decided m l c b (until_within k f g) = let r = decided m l f in let q = decided m l g in (
    λ s. fits c (hardest c r.0 q.0 k m s * whole) (b * m.denominator ^ k),
    λ s p. (
      λ e left right x y σ a. rw (tally_same m l s p left r.0 right q.0 (set_sub m (Holds m f) left r.0 x r.1) (set_sub m (Holds m f) r.0 left r.1 x)
          (set_sub m (Holds m g) right q.0 y q.1) (set_sub m (Holds m g) q.0 right q.1 y) k σ a)
          ((within_iff m l s p c b k r.0 q.0).0 e σ a),
      λ h. (within_iff m l s p c b k r.0 q.0).1 (h r.0 q.0 r.1 q.1),
    ),
  )
  path_decided m l c b (until f g) = let r = decided m l f in let q = decided m l g in (
    under_set (extremal c b) r.0 q.0 m,
    λ s p. (
      λ e left right x y. under_same m l s p (extremal c b) r.0 left q.0 right
          (set_sub m (Holds m f) r.0 left r.1 x) (set_sub m (Holds m f) left r.0 x r.1)
          (set_sub m (Holds m g) q.0 right q.1 y) (set_sub m (Holds m g) right q.0 y q.1)
          ((under_iff m l s p (extremal c b) r.0 q.0).0 e),
      λ h. (under_iff m l s p (extremal c b) r.0 q.0).1 (h r.0 q.0 r.1 q.1),
    ),
  )
