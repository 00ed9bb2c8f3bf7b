-- What a ring means.
use Rattle.std.specs.Prelude.{ℕ, ◌+◌, ◌-◌, cond, [], ◌∷◌, ◌==◌, nat_lt}
use Rattle.model.specs.Mdp.{Mdp, Row, no_labels, to}

-- stays with d - w, goes on to the next state with w; the last state goes on to 0, which comes first there
abbrev pub turn : ℕ → ℕ → ℕ → ℕ → Row
turn n d w s = cond (s == n - 1) (to 0 w ∷ to s (d - w) ∷ []) (to s (d - w) ∷ to (s + 1) w ∷ [])

-- the ring with n states, the denominator d and the weight w of going on; no state has a label
abbrev pub ring_model : ℕ → ℕ → ℕ → Mdp
ring_model n d w = record { states = n; denominator = d; labels = λ s. no_labels; choices = λ s. cond (nat_lt s n) (turn n d w s ∷ []) [] }
