-- Cutting bytes piece by piece.
use Rattle.std.proofs.Common.{◌≡◌, ℕ, ◌<◌, eqb, cond, List, [], ◌∷◌, length, refl, ap, arith}
use Rattle.std.proofs.lemmas.List.Splits.{length-slice_split}
use Rattle.std.specs.List.{onto_first, slice_split}
use Rattle.text.specs.Cuts.{pieces}

-- the pieces are the parts that a slice's `split` gives
pub split_pieces : (sep : ℕ) (xs : List ℕ) → slice_split (λ b. eqb b sep) xs ≡ pieces sep xs
split_pieces sep [] = refl
split_pieces sep (x ∷ xs) = ap (λ ps. cond (eqb x sep) ([] ∷ ps) (onto_first x ps)) (split_pieces sep xs)

-- there is a piece: the parts are one more than the bytes `sep`
pub some_piece : (sep : ℕ) (xs : List ℕ) → 0 < length (pieces sep xs)
some_piece sep xs = omega (arith, ap length (split_pieces sep xs), length-slice_split (λ b. eqb b sep) xs)
