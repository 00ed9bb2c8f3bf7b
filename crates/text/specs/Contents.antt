-- What a model text tells, and the model that it describes.
use Rattle.std.specs.Prelude.{ℕ, Bool, List, [], ◌∷◌, ◌++◌, length, slice_index_or}
use Rattle.model.specs.Mdp.{Mdp, Row, no_labels}

-- what is told of one state: its labels, as sixteen flags, and its choices
pub record State : Type 0 where
  pub labels : List Bool
  pub choices : List Row

-- what a whole text tells
pub record Content : Type 0 where
  pub denominator : ℕ
  pub states : List State

-- what is told of a state that does not exist
abbrev pub no_state : State
no_state = record { labels = no_labels; choices = [] }

-- the model that is described
abbrev pub model_of : Content → Mdp
model_of c = record {
  states = length c.states;
  denominator = c.denominator;
  labels = λ s. (slice_index_or c.states s no_state).labels;
  choices = λ s. (slice_index_or c.states s no_state).choices;
}

-- the choices of all states, in order
abbrev pub all_choices : List State → List Row
all_choices [] = []
all_choices (s ∷ ss) = s.choices ++ all_choices ss

-- the branches of all rows, in order
abbrev pub all_branches : List Row → Row
all_branches [] = []
all_branches (r ∷ rs) = r ++ all_branches rs
