-- What comparing two words answers.
use Rattle.std.proofs.Common.{◌≡◌, ◌≢◌, ℕ, suc, Bool, true, false, cond, ◌&&◌, eqb, List, [], ◌∷◌, length, get_or, refl, ap, arith}
use Rattle.std.proofs.lemmas.Bool.Decides.{nat_tests}
use Rattle.std.specs.Cmp.Lexicographic.{pointwise}
use Rattle.text.specs.Words.{same}

-- `==` of two words tells whether they are the same
pub compared : (v w : List ℕ) → pointwise eqb v w ≡ same v w
compared [] [] = refl
compared [] (y ∷ ys) = refl
compared (x ∷ xs) [] = refl
compared (x ∷ xs) (y ∷ ys) = ap (λ b. eqb x y && b) (compared xs ys)

-- are these the bytes from place i on?
abbrev pub bytes_at : List ℕ → ℕ → List ℕ → Bool
bytes_at w i [] = true
bytes_at w i (b ∷ bs) = eqb (get_or w i 0) b && bytes_at w (suc i) bs

-- one place further on behind one more byte
later : (x : ℕ) (w : List ℕ) (i : ℕ) (bs : List ℕ) → bytes_at (x ∷ w) (suc i) bs ≡ bytes_at w i bs
later x w i [] = refl
later x w i (b ∷ bs) = ap (λ t. eqb (get_or w i 0) b && t) (later x w (suc i) bs)

-- two words are the same if they are as long, byte for byte
same_at : (v w : List ℕ) → same v w ≡ cond (eqb (length v) (length w)) (bytes_at v 0 w) false
same_at [] [] = refl
same_at [] (y ∷ ys) = grind (arith, nat_tests)
same_at (x ∷ xs) [] = grind (arith, nat_tests)
same_at (x ∷ xs) (y ∷ ys) =
    let rest = same_at xs ys in
    let further = later x xs 0 ys in
    grind (arith, nat_tests)

-- where they are as long
pub as_long : (v w : List ℕ) → length v ≡ length w → same v w ≡ bytes_at v 0 w
as_long v w e = grind (arith, same_at, nat_tests)

-- and where they are not
pub not_as_long : (v w : List ℕ) → length v ≢ length w → same v w ≡ false
not_as_long v w e = grind (arith, same_at, nat_tests)

-- which word some bytes are, and what the tests of numbers say
pub ruleset spelled = (not_as_long, as_long, nat_tests)
