-- Chapter 4. Rounds, and the value that an adversary has: the two meet in the optimum.
use Rattle.std.specs.Prelude.{◌≡◌, ℕ, zero, suc, ◌<◌, Bool, true, cond, List, [], ◌∷◌, map}
use Rattle.model.specs.Mdp.{Mdp, Row, Lawful}
use Rattle.theory.specs.Adversaries.{Adversary, Allowed, chosen}
use Rattle.theory.specs.Rules.{RuleLaws, valued}

module _ {V : Type 0} (mix : ℕ → List (ℕ × V) → V) where
  -- the mix of a row, given a value for each state
  abbrev pub mixed : Mdp → (ℕ → V) → Row → V
  mixed m v r = mix m.denominator (valued v r)

  -- an adversary's value in s after the path h, with k steps to go: the mix, over the row it takes, of its values one step later
  abbrev pub value : ℕ → Mdp → (ℕ → V) → Adversary → List ℕ → ℕ → V
  value zero m v σ h s = v s
  value (suc k) m v σ h s = mixed m (value k m v σ (s ∷ h)) (chosen m σ h s)

module _ {V : Type 0} (at_least_as_good : V → V → Bool) where
  -- the most preferred of x and xs
  abbrev pub most : V → List V → V
  most x [] = x
  most x (y ∷ ys) = cond (at_least_as_good x (most y ys)) x (most y ys)

  -- the most preferred of a list, d for the empty one
  abbrev pub most_of : V → List V → V
  most_of d [] = d
  most_of d (x ∷ xs) = most x xs

module _ {V : Type 0} (at_least_as_good : V → V → Bool) (mix : ℕ → List (ℕ × V) → V) where
  -- one round: of the mixes that its choices offer, a state takes the most preferred
  abbrev pub round : Mdp → (ℕ → V) → ℕ → V
  round m v s = most_of at_least_as_good (v s) (map (mixed mix m v) (m.choices s))

  -- the values after k rounds from v
  abbrev pub rounds : ℕ → Mdp → (ℕ → V) → ℕ → V
  rounds zero m v = v
  rounds (suc k) m v = round m (rounds k m v)

  -- x is the optimum over all adversaries: some allowed adversary has it, and it is at least as good as the value of every allowed one
  pub record Optimum (m : Mdp) (v : ℕ → V) (k s : ℕ) (x : V) : Type 0 where
    pub attained : (σ : Adversary) × Allowed m σ × (value mix k m v σ [] s ≡ x)
    pub none_better : (σ : Adversary) → Allowed m σ → at_least_as_good x (value mix k m v σ [] s) ≡ true

-- the theorem of rounds: for every lawful rule over a type of values and every lawful model, k rounds give each state the optimum
abbrev pub RoundsOptimal : Type 0 → Type 0
RoundsOptimal V = (at_least_as_good : V → V → Bool) (mix : ℕ → List (ℕ × V) → V) → RuleLaws at_least_as_good mix →
    (m : Mdp) → Lawful m → (v : ℕ → V) (k s : ℕ) → s < m.states → Optimum at_least_as_good mix m v k s (rounds at_least_as_good mix k m v s)
