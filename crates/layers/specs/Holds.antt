-- What a hold layer means.
use Rattle.std.specs.Prelude.{ℕ, Bool, false, cond, Option, Some, None, ◌&&◌, List, get_or, ◌==◌, nat_lt, slice_index_or}
use Rattle.model.specs.declared.branch.Branch.{Branch}
use Rattle.model.specs.Mdp.{Mdp, to, stay, hold}

-- the model m with the state s held: s only stays, and the rest is as it was
abbrev pub held : ℕ → Mdp → Mdp
held s m = record { states = m.states; denominator = m.denominator; labels = m.labels; choices = λ t. cond (t == s) (stay m.denominator t) (m.choices t) }

-- is there a state s in m, and does its flag say that it is held?
abbrev pub is_held : Mdp → List Bool → ℕ → Bool
is_held m flags s = nat_lt s m.states && slice_index_or flags s false

-- the one branch of the state s, back to itself, if s is held; none if it is not
abbrev pub back : Mdp → List Bool → ℕ → Option Branch
back m flags s = cond (is_held m flags s) (Some (to s m.denominator)) None

-- the model m with every state held whose flag says so
abbrev pub held_model : Mdp → List Bool → Mdp
held_model m flags = hold (λ s. get_or flags s false) m
