-- What a ladder means.
use Rattle.std.specs.Prelude.{ℕ, ◌+◌, ◌-◌, Bool, true, cond, List, [], ◌∷◌, ◌==◌, nat_lt, slice_set}
use Rattle.model.specs.Mdp.{Mdp, Row, no_labels, to}

-- the set of labels that has only letter number k, a being number 0
abbrev pub only : ℕ → List Bool
only k = slice_set no_labels k true

-- a climb from the state s: on to the next one with w, and back to 0 with what is left of d, where something is left
abbrev pub climb : ℕ → ℕ → ℕ → Row
climb d w s = cond (nat_lt w d) (to 0 (d - w) ∷ to (s + 1) w ∷ []) (to (s + 1) w ∷ [])

-- below r a state stays or climbs; state r only stays
abbrev pub ladder_choices : ℕ → ℕ → ℕ → ℕ → List Row
ladder_choices r d w s = cond (nat_lt s r) ((to s d ∷ []) ∷ climb d w s ∷ []) (cond (s == r) ((to s d ∷ []) ∷ []) [])

-- the top, r, has label a, and the bottom, 0, label b
abbrev pub ladder_labels : ℕ → ℕ → List Bool
ladder_labels r s = cond (s == r) (only 0) (cond (s == 0) (only 1) no_labels)

-- the ladder with r rungs, the denominator d and the weight w of a climb
abbrev pub ladder_model : ℕ → ℕ → ℕ → Mdp
ladder_model r d w = record { states = r + 1; denominator = d; labels = ladder_labels r; choices = ladder_choices r d w }
