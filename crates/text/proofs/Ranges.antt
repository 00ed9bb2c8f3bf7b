-- The test of a range.
use Rattle.std.proofs.Common.{◌≡◌, ℕ, ◌≤◌, true, leb}
use Rattle.std.proofs.lemmas.Bool.{and_parts, and_from, leb-true, le-leb}
use Rattle.text.specs.Fields.{between}

-- a number that passes the test lies in the range
pub between_true : (low high x : ℕ) → between low high x ≡ true → (low ≤ x) × (x ≤ high)
between_true low high x e = let p = and_parts (leb low x) (leb x high) e in (leb-true low x p.0, leb-true x high p.1)

-- a number in the range passes the test
pub between_from : (low high x : ℕ) → low ≤ x → x ≤ high → between low high x ≡ true
between_from low high x h k = and_from _ _ (le-leb low x h) (le-leb x high k)
