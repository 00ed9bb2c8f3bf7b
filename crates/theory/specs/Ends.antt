-- Chapter 6. The two ends of a query: what rounds over the held model tell of all tallies.
use Rattle.std.specs.Prelude.{ℕ, ◌+◌, ◌*◌, ◌^◌, ◌<◌, ◌≤◌, Bool, cond, not, ◌||◌}
use Rattle.model.specs.Mdp.{Mdp, Lawful, hold}
use Rattle.theory.specs.Adversaries.{Adversary, Allowed}
use Rattle.theory.specs.Tallies.{tally, next_tally}
use Rattle.theory.specs.Rounds.{rounds}
use Rattle.theory.specs.Mixes.{whole, mix_down, mix_up, greater, lesser}

-- an until is settled at a state in right (it is met) and at one outside left (it fails)
abbrev pub stops : (ℕ → Bool) → (ℕ → Bool) → ℕ → Bool
stops left right s = right s || not (left s)

-- the held model of a query: its settled states stay
abbrev pub held : (ℕ → Bool) → (ℕ → Bool) → Mdp → Mdp
held left right m = hold (stops left right) m

-- both ends begin with the whole in right and 0 elsewhere
abbrev pub start : (ℕ → Bool) → ℕ → ℕ
start right s = cond (right s) whole 0

module _ (prefer : ℕ → ℕ → Bool) (left right : ℕ → Bool) where
  -- the lower end after k rounds: parts rounded down over the held model
  abbrev pub lower : ℕ → Mdp → ℕ → ℕ
  lower k m s = rounds prefer mix_down k (held left right m) (start right) s

  -- the upper end after k rounds: parts rounded up
  abbrev pub upper : ℕ → Mdp → ℕ → ℕ
  upper k m s = rounds prefer mix_up k (held left right m) (start right) s

-- next has its ends after one round, with nothing held
module _ (prefer : ℕ → ℕ → Bool) (set : ℕ → Bool) where
  -- the lower end of a next
  abbrev pub next_lower : Mdp → ℕ → ℕ
  next_lower m s = rounds prefer mix_down 1 m (start set) s

  -- the upper end of a next
  abbrev pub next_upper : Mdp → ℕ → ℕ
  next_upper m s = rounds prefer mix_up 1 m (start set) s

-- x lies at most c under y, and not over it
pub record Close (c x y : ℕ) : Type 0 where
  pub under : x ≤ y
  pub near : y ≤ x + c

-- lo and hi, in units, bound the adversaries' tallies, out of `all`, for the best: no allowed adversary's lies above hi, and some
-- allowed one's reaches lo
-- a number of units x stands for x / whole and a tally t for t / all; they are compared without division
pub record BoundsBest (m : Mdp) (tallied : Adversary → ℕ) (all lo hi : ℕ) : Type 0 where
  pub none_above : (σ : Adversary) → Allowed m σ → tallied σ * whole ≤ hi * all
  pub some_reaches : (σ : Adversary) × Allowed m σ × (lo * all ≤ tallied σ * whole)

-- for the worst: no allowed adversary's lies below lo, and some allowed one's is down at hi
pub record BoundsWorst (m : Mdp) (tallied : Adversary → ℕ) (all lo hi : ℕ) : Type 0 where
  pub none_below : (σ : Adversary) → Allowed m σ → lo * all ≤ tallied σ * whole
  pub some_reaches : (σ : Adversary) × Allowed m σ × (tallied σ * whole ≤ hi * all)

-- lo and hi are ends for the best with a gap of at most g: they bound the tallies, and hi lies at most g above lo
pub record BestEnds (g : ℕ) (m : Mdp) (tallied : Adversary → ℕ) (all lo hi : ℕ) : Type 0 where
  pub bounds : BoundsBest m tallied all lo hi
  pub gap : Close g lo hi

-- the same for the worst
pub record WorstEnds (g : ℕ) (m : Mdp) (tallied : Adversary → ℕ) (all lo hi : ℕ) : Type 0 where
  pub bounds : BoundsWorst m tallied all lo hi
  pub gap : Close g lo hi

-- the theorem of the ends, of the original model: after k rounds they bound the tallies with k steps, with a gap of at most k
abbrev pub EndsBound : Type 0
EndsBound = (left right : ℕ → Bool) (m : Mdp) → Lawful m → (k s : ℕ) → s < m.states →
    BestEnds k m (λ σ. tally left right k m σ s) (m.denominator ^ k)
    (lower greater left right k m s) (upper greater left right k m s)
    × WorstEnds k m (λ σ. tally left right k m σ s) (m.denominator ^ k)
    (lower lesser left right k m s) (upper lesser left right k m s)

-- the theorem of a next's ends: after its one round the gap is at most one unit
abbrev pub NextEndsBound : Type 0
NextEndsBound = (set : ℕ → Bool) (m : Mdp) → Lawful m → (s : ℕ) → s < m.states →
    BestEnds 1 m (λ σ. next_tally set m σ s) (m.denominator ^ 1)
    (next_lower greater set m s) (next_upper greater set m s)
    × WorstEnds 1 m (λ σ. next_tally set m σ s) (m.denominator ^ 1)
    (next_lower lesser set m s) (next_upper lesser set m s)
