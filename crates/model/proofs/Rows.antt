-- How long a row can be.
use Rattle.std.proofs.Common.{ℕ, ◌+◌, ◌≤◌, [], ◌∷◌, length, arith}
use Rattle.model.specs.Mdp.{Row, Ascends}

-- a row that ascends from `low` and stays below n has at most n - low branches
pub ascends_short : (n low : ℕ) (r : Row) → Ascends n low r → low ≤ n → low + length r ≤ n
ascends_short n low [] up h = omega arith
ascends_short n low (b ∷ bs) up h = let rest = ascends_short n (b.target + 1) bs up.3 (omega arith) in omega arith
