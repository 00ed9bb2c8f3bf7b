-- A model laid out as text, part by part, and the content that a model has.
use Rattle.std.specs.Prelude.{ℕ, ◌+◌, Bool, List, [], ◌∷◌, ◌++◌, map}
use Rattle.std.specs.List.{range_with_len}
use Rattle.model.specs.declared.branch.Branch.{Branch}
use Rattle.model.specs.Mdp.{Mdp, Row}
use Rattle.text.specs.Contents.{State, Content}

-- a way to lay a model out: the text that begins a state, from its number and its labels; that begins a choice; that
-- tells a branch, from its number in its row; and that ends a state
pub record Layout : Type 0 where
  pub state : ℕ → List Bool → List ℕ
  pub choice : ℕ → List ℕ
  pub branch : ℕ → Branch → List ℕ
  pub close : List ℕ

-- the texts of a list's elements one after another, each made from its number, from i on, and from the element
abbrev pub laid : {A : Type 0} → (ℕ → A → List ℕ) → ℕ → List A → List ℕ
laid text i [] = []
laid text i (x ∷ xs) = text i x ++ laid text (i + 1) xs

-- the branches of a choice
abbrev pub laid_row : Layout → Row → List ℕ
laid_row l r = laid l.branch 0 r

-- a choice
abbrev pub laid_choice : Layout → ℕ → Row → List ℕ
laid_choice l i r = l.choice i ++ laid_row l r

-- the choices of a state
abbrev pub laid_choices : Layout → List Row → List ℕ
laid_choices l rs = laid (laid_choice l) 0 rs

-- a state
abbrev pub laid_state : Layout → ℕ → State → List ℕ
laid_state l i s = l.state i s.labels ++ (laid_choices l s.choices ++ l.close)

-- the states of a model
abbrev pub laid_states : Layout → List State → List ℕ
laid_states l ss = laid (laid_state l) 0 ss

-- what a model has of one state
abbrev pub state_of : Mdp → ℕ → State
state_of m s = record { labels = m.labels s; choices = m.choices s }

-- what a model has
abbrev pub model_content : Mdp → Content
model_content m = record { denominator = m.denominator; states = map (state_of m) (range_with_len 0 m.states) }
