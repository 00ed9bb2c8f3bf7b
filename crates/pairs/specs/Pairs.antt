-- Pairs of numbers in lexicographic order, mixed to the least.
use Rattle.std.specs.Prelude.{ℕ, Bool, cond, ◌&&◌, ◌||◌, List, [], ◌∷◌, ◌==◌, nat_le, nat_lt}

-- is the pair a at least b? The first numbers decide, and the second ones where they are equal
abbrev pub at_least : ℕ × ℕ → ℕ × ℕ → Bool
at_least a b = nat_lt b.0 a.0 || (a.0 == b.0 && nat_le b.1 a.1)

-- the lesser of two pairs
abbrev pub lesser_of : ℕ × ℕ → ℕ × ℕ → ℕ × ℕ
lesser_of a b = cond (at_least a b) b a

-- the greatest pair of numbers of 32 bits
abbrev pub greatest : ℕ × ℕ
greatest = (4294967295, 4294967295)

-- the least of x and of the pairs of a row
abbrev pub least_from : ℕ × ℕ → List (ℕ × (ℕ × ℕ)) → ℕ × ℕ
least_from x [] = x
least_from x (p ∷ ps) = least_from (lesser_of x p.1) ps

-- the mix of a row: the least of its pairs
abbrev pub least : ℕ → List (ℕ × (ℕ × ℕ)) → ℕ × ℕ
least d ps = least_from greatest ps
