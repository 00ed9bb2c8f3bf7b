-- Numbers written one after another, parted by commas.
use Rattle.std.proofs.Common.{◌≡◌, ℕ, zero, suc, ◌+◌, ◌<◌, List, [], ◌∷◌, ◌++◌, map, length, get_or, take, decimal, sym, refl, ap, ◌∙◌, append_assoc, arith}
use Rattle.std.specs.List.{join_with_byte}
use Rattle.std.proofs.lemmas.List.{map_more, map-append, length-map, length-take-le}
use Rattle.rounds_text.specs.Requests.{numbers_text}

-- what stands before a number: before the first nothing, before each later one a comma
abbrev pub comma : ℕ → List ℕ
comma zero = []
comma (suc place) = 44 ∷ []

-- a number that is not the first is a later one
pub comma_later : (place : ℕ) → (place ≡ 0 → ⊥) → comma place ≡ 44 ∷ []
comma_later zero h = absurd (h refl)
comma_later (suc place) h = refl

-- one piece more is joined
join_more : (ps : List (List ℕ)) (p : List ℕ) → join_with_byte 44 (ps ++ p ∷ []) ≡ join_with_byte 44 ps ++ (comma (length ps) ++ p)
join_more [] p = refl
join_more (q ∷ []) p = refl
join_more (q ∷ r ∷ ps) p = ap (λ t. q ++ (44 ∷ t)) (join_more (r ∷ ps) p) ∙ sym (append_assoc q (44 ∷ join_with_byte 44 (r ∷ ps)) (44 ∷ p))

-- one number more is written
pub numbers_more : {V : Type 0} (number : V → ℕ) (values : List V) (i : ℕ) (d : V) → i < length values →
    numbers_text (map number (take (i + 1) values)) ≡ numbers_text (map number (take i values)) ++ (comma i ++ decimal (number (get_or values i d)))
numbers_more number values i d h =
    let front = map number (take i values) in
    let n = number (get_or values i d) in
    let long : length (map decimal front) ≡ i = length-map front decimal ∙ length-map (take i values) number ∙ length-take-le i values (omega (arith, h)) in
    ap numbers_text (map_more number values i d h) ∙ ap (join_with_byte 44) (map-append decimal front (n ∷ [])) ∙ join_more (map decimal front) (decimal n)
    ∙ ap (λ k. numbers_text front ++ (comma k ++ decimal n)) long
