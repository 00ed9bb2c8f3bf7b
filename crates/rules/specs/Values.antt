-- Values of states in a list, and rows of values carried over to other values.
use Rattle.std.specs.Prelude.{ℕ, List, [], ◌∷◌, slice_index_or}

-- the value that a list has for each state, d past its end
abbrev pub told : {V : Type 0} → List V → V → ℕ → V
told values d s = slice_index_or values s d

-- a row of values with f of each value in its place
abbrev pub carried : {V W : Type 0} → (V → W) → List (ℕ × V) → List (ℕ × W)
carried f [] = []
carried f (p ∷ ps) = (p.0, f p.1) ∷ carried f ps
