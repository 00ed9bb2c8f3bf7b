-- Chapter 2. Runs, their weights, and tallies: what an adversary's paths weigh.
use Rattle.std.specs.Prelude.{◌≡◌, ℕ, zero, suc, ◌+◌, ◌-◌, ◌*◌, ◌^◌, ◌<◌, ◌≤◌, Bool, true, false, cond, ◌&&◌, ◌||◌, List, [], ◌∷◌, ◌++◌, map, length, ◌==◌}
use Rattle.model.specs.Mdp.{Mdp, Row, Lawful, Each}
use Rattle.theory.specs.Adversaries.{Adversary, Allowed, chosen}

-- a path that was walked to its end: its weight, and the states passed, oldest first
pub record Run : Type 0 where
  pub weight : ℕ
  pub states : List ℕ

-- a run with one more step in front: from s, by a branch of weight w
abbrev pub step : ℕ → ℕ → Run → Run
step s w r = record { weight = w * r.weight; states = s ∷ r.states }

-- the lists that f gives for the elements, one after another
abbrev pub gather : {A B : Type 0} → (A → List B) → List A → List B
gather f [] = []
gather f (x ∷ xs) = f x ++ gather f xs

-- the runs of exactly k steps from s that follow the adversary after the path h; a run's weight is the product of its branches' weights
abbrev pub runs : ℕ → Mdp → Adversary → List ℕ → ℕ → List Run
runs zero m σ h s = record { weight = 1; states = s ∷ [] } ∷ []
runs (suc k) m σ h s = gather (λ b. map (step s b.weight) (runs k m σ (s ∷ h) b.target)) (chosen m σ h s)

-- the weights of the runs whose states have the property p, summed
abbrev pub weigh : (List ℕ → Bool) → List Run → ℕ
weigh p [] = 0
weigh p (r ∷ rs) = cond (p r.states) r.weight 0 + weigh p rs

-- the weight of a row's branch to t, 0 if it has none
abbrev pub weight_to : Row → ℕ → ℕ
weight_to [] t = 0
weight_to (b ∷ bs) t = cond (b.target == t) b.weight (weight_to bs t)

-- the path from s through the states `rest` follows the adversary after the path h: each row it takes has a branch to the next state
abbrev pub Follows : Mdp → Adversary → List ℕ → ℕ → List ℕ → Type 0
Follows m σ h s [] = Unit {0}
Follows m σ h s (t ∷ ts) = (1 ≤ weight_to (chosen m σ h s) t) × Follows m σ (s ∷ h) t ts

-- the weight of that path: the product of the weights of its branches
abbrev pub path_weight : Mdp → Adversary → List ℕ → ℕ → List ℕ → ℕ
path_weight m σ h s [] = 1
path_weight m σ h s (t ∷ ts) = weight_to (chosen m σ h s) t * path_weight m σ (s ∷ h) t ts

-- are two paths the same?
abbrev pub same_path : List ℕ → List ℕ → Bool
same_path [] [] = true
same_path [] (y ∷ ys) = false
same_path (x ∷ xs) [] = false
same_path (x ∷ xs) (y ∷ ys) = y == x && same_path xs ys

-- how many runs have states with the property p
abbrev pub count : (List ℕ → Bool) → List Run → ℕ
count p [] = 0
count p (r ∷ rs) = cond (p r.states) 1 0 + count p rs

-- a run is a path of k steps from s that follows the adversary, with the weight of that path
pub record IsPath (k : ℕ) (m : Mdp) (σ : Adversary) (h : List ℕ) (s : ℕ) (r : Run) : Type 0 where
  pub rest : List ℕ
  pub passes : r.states ≡ s ∷ rest
  pub steps : length rest ≡ k
  pub follows : Follows m σ h s rest
  pub weighs : r.weight ≡ path_weight m σ h s rest

-- the theorem of runs: they are the paths that follow the adversary, each exactly once, and their weights sum to D ^ k
pub record RunsArePaths (k : ℕ) (m : Mdp) (σ : Adversary) (h : List ℕ) (s : ℕ) : Type 0 where
  pub only_paths : Each (IsPath k m σ h s) (runs k m σ h s)
  pub once_each : (rest : List ℕ) → length rest ≡ k → Follows m σ h s rest → count (same_path (s ∷ rest)) (runs k m σ h s) ≡ 1
  pub weights_sum : weigh (λ ss. true) (runs k m σ h s) ≡ m.denominator ^ k

-- for every allowed adversary of a lawful model
abbrev pub RunsCorrect : Type 0
RunsCorrect = (m : Mdp) → Lawful m → (σ : Adversary) → Allowed m σ → (k : ℕ) (h : List ℕ) (s : ℕ) → s < m.states → RunsArePaths k m σ h s

-- until: the path comes to a state in right, and all its states before lie in left
abbrev pub meets : (ℕ → Bool) → (ℕ → Bool) → List ℕ → Bool
meets left right [] = false
meets left right (s ∷ ss) = right s || (left s && meets left right ss)

-- next: the second state lies in the set
abbrev pub second_in : (ℕ → Bool) → List ℕ → Bool
second_in set [] = false
second_in set (s ∷ []) = false
second_in set (s ∷ t ∷ ss) = set t

-- the tally of an until with k steps from s after the path h: the weight of the runs that meet it, out of D ^ k
abbrev pub tally_after : (ℕ → Bool) → (ℕ → Bool) → ℕ → Mdp → Adversary → List ℕ → ℕ → ℕ
tally_after left right k m σ h s = weigh (meets left right) (runs k m σ h s)

-- the tally of an until with k steps from s
abbrev pub tally : (ℕ → Bool) → (ℕ → Bool) → ℕ → Mdp → Adversary → ℕ → ℕ
tally left right k m σ s = tally_after left right k m σ [] s

-- the tally of a next from s: the weight of the runs of one step that end in the set, out of D
abbrev pub next_tally : (ℕ → Bool) → Mdp → Adversary → ℕ → ℕ
next_tally set m σ s = weigh (second_in set) (runs 1 m σ [] s)

-- an adversary is sure of an until at s: with enough steps its tally is all of D ^ k but for one part in n, for every n
abbrev pub Sure : (ℕ → Bool) → (ℕ → Bool) → Mdp → Adversary → ℕ → Type 0
Sure left right m σ s = (n : ℕ) → 1 ≤ n → (k : ℕ) × ((n - 1) * (m.denominator ^ k) ≤ n * tally left right k m σ s)
