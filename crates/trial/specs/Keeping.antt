-- What a kept trial is: the query that stands, and that all it keeps is that query's.
use Rattle.std.specs.Prelude.{◌≡◌, ℕ, ◌<◌, Bool, List, length, map, take, Some, None, Option, slice_index_or}
use Rattle.model.specs.Mdp.{Mdp}
use Rattle.layers.specs.Holds.{held_model}
use Rattle.theory.specs.Ends.{held, start}
use Rattle.rules.specs.declared.part.Part.{Part}
use Rattle.rules.specs.Parts.{units_of}
use Rattle.rounds.specs.Ends.{lower_of, upper_of}
use Rattle.trial.specs.declared.aim.Aim.{Aim}
use Rattle.trial.specs.declared.state.QueryState.{QueryState}
use Rattle.trial.specs.Queries.{Query, marked, lower_end, upper_end}

-- the query that a trial over n states has in its fields
abbrev pub query_in : ℕ → QueryState → Query
query_in n t = record { left = take n t.left.values; right = take n t.right.values; aim = t.aim; rounds = t.rounds }

-- the query that stands, if one does
abbrev pub standing : ℕ → Option QueryState → Option Query
standing n None = None
standing n (Some t) = Some (query_in n t)

-- the trial keeps the query q over the model m: the layer holds its settled states, and both ends are its own
pub record Keeps (m : Mdp) (flags : List Bool) (t : QueryState) (q : Query) : Type 0 where
  pub layer : held_model m flags ≡ held (marked q.left) (marked q.right) m
  pub lower : (d : Part) (s : ℕ) → s < m.states → units_of (slice_index_or (map lower_of t.ends.values) s d) ≡ lower_end m q s
  pub upper : (d : Part) (s : ℕ) → s < m.states → units_of (slice_index_or (map upper_of t.ends.values) s d) ≡ upper_end m q s

-- a trial is kept if it keeps the query that stands, if one does; flags are those of its hold layer
abbrev pub Kept : Mdp → List Bool → Option QueryState → Type 0
Kept m flags o = (t : QueryState) → o ≡ Some t → Keeps m flags t (query_in m.states t)

-- the query of these marks is in the fields, with no round made: both ends begin with the whole in right and 0 elsewhere
pub record Begun (left right : List ℕ) (aim : Aim) (t : QueryState) : Type 0 where
  pub aimed : t.aim ≡ aim
  pub no_rounds : t.rounds ≡ 0
  pub left_marks : take (length left) t.left.values ≡ left
  pub right_marks : take (length right) t.right.values ≡ right
  pub lower : (d : Part) (s : ℕ) → s < length right → units_of (slice_index_or (map lower_of t.ends.values) s d) ≡ start (marked right) s
  pub upper : (d : Part) (s : ℕ) → s < length right → units_of (slice_index_or (map upper_of t.ends.values) s d) ≡ start (marked right) s
