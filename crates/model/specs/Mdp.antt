-- A Markov decision process: what every source of rows stands for.
use Rattle.std.specs.Prelude.{◌≡◌, ℕ, ◌+◌, ◌<◌, ◌≤◌, Bool, false, cond, ◌&&◌, List, [], ◌∷◌, ◌++◌, length, take, drop, replicate, nat_lt, slice_index_or}
use Rattle.model.specs.declared.branch.Branch.{Branch}

-- a choice is a row of branches
abbrev pub Row : Type 0
Row = List Branch

-- states are numbered from 0; a state's labels are sixteen flags, one for each letter from a to p; its choices are rows
pub record Mdp : Type 0 where
  pub states : ℕ
  pub denominator : ℕ
  pub labels : ℕ → List Bool
  pub choices : ℕ → List Row

-- the empty set of labels
abbrev pub no_labels : List Bool
no_labels = replicate 16 false

-- the branch to a target, with a weight
abbrev pub to : ℕ → ℕ → Branch
to t w = record { target = t; weight = w }

-- what is told of a branch that does not exist
abbrev pub no_branch : Branch
no_branch = to 0 0

-- the branches of choice c of state s; none where there is no such choice
abbrev pub row : Mdp → ℕ → ℕ → Row
row m s c = slice_index_or (m.choices s) c []

-- the sum of the weights of a row
abbrev pub total : Row → ℕ
total [] = 0
total (b ∷ bs) = b.weight + total bs

-- targets ascend strictly, from at least `low`, and stay below n; weights are at least 1
abbrev pub Ascends : ℕ → ℕ → Row → Type 0
Ascends n low [] = Unit {0}
Ascends n low (b ∷ bs) = (low ≤ b.target) × (b.target < n) × (1 ≤ b.weight) × Ascends n (b.target + 1) bs

-- a row of a model with n states and the denominator d: its weights sum to exactly d
pub record LawfulRow (n d : ℕ) (r : Row) : Type 0 where
  pub ascends : Ascends n 0 r
  pub sums : total r ≡ d

-- P holds of each element
abbrev pub Each : {A : Type 0} → (A → Type 0) → List A → Type 0
Each P [] = Unit {0}
Each P (x ∷ xs) = P x × Each P xs

-- the laws of a model: the ranges, the four facts of its rows, and that what does not exist is empty
pub record Lawful (m : Mdp) : Type 0 where
  pub some_state : 1 ≤ m.states
  pub few_states : m.states ≤ 512
  pub some_unit : 1 ≤ m.denominator
  pub few_units : m.denominator ≤ 1000000
  pub some_choice : (s : ℕ) → s < m.states → 1 ≤ length (m.choices s)
  pub few_choices : (s : ℕ) → length (m.choices s) ≤ 2048
  pub rows : (s : ℕ) → Each (LawfulRow m.states m.denominator) (m.choices s)
  pub sixteen_letters : (s : ℕ) → length (m.labels s) ≡ 16
  pub none_past : (s : ℕ) → m.states ≤ s → m.choices s ≡ []
  pub no_labels_past : (s : ℕ) → m.states ≤ s → m.labels s ≡ no_labels

-- the choices of a state s that is held: one, back to itself with the whole denominator d
abbrev pub stay : ℕ → ℕ → List Row
stay d s = (to s d ∷ []) ∷ []

-- the model m with the states of a set held: each of them only stays, and the rest is as it was
abbrev pub hold : (ℕ → Bool) → Mdp → Mdp
hold set m = record {
  states = m.states;
  denominator = m.denominator;
  labels = m.labels;
  choices = λ s. cond (nat_lt s m.states && set s) (stay m.denominator s) (m.choices s);
}

-- `under` with the elements of `xs` written over its front, as many as fit
abbrev pub over : {A : Type 0} → List A → List A → List A
over xs under = take (length under) xs ++ drop (length xs) under
