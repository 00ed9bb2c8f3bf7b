-- A text that ends in LF is spelled by its lines.
use Rattle.std.proofs.Common.{◌≡◌, ℕ, suc, ◌-◌, ◌≤◌, eqb, List, [], ◌∷◌, ◌++◌, length, get_or, sym, refl, ap, ◌∙◌, ap₂, arith}
use Rattle.std.proofs.lemmas.Bool.{eqb-true, cond_both}
use Rattle.text.proofs.Cutting.{some_piece}
use Rattle.std.specs.List.{onto_first}
use Rattle.text.specs.Cuts.{cut, fields, each_fields, lines, parted, spelled}

-- there is a piece after any byte
some_onto : (x : ℕ) (ps : List (List ℕ)) → 1 ≤ length (onto_first x ps)
some_onto x [] = omega arith
some_onto x (p ∷ ps) = omega arith

-- one more byte in front of the first field
parted_onto : (x : ℕ) (ps : List (List ℕ)) → parted (onto_first x ps) ≡ x ∷ parted ps
parted_onto x [] = refl
parted_onto x (p ∷ []) = refl
parted_onto x (p ∷ q ∷ ps) = refl

-- one more field, empty, in front
parted_tab : (ps : List (List ℕ)) → 1 ≤ length ps → parted ([] ∷ ps) ≡ 9 ∷ parted ps
parted_tab [] h = absurd (omega arith)
parted_tab (p ∷ ps) h = refl

-- bytes are their fields, parted by tabs
pub parted_fields : (bytes : List ℕ) → parted (fields bytes) ≡ bytes
parted_fields [] = refl
parted_fields (x ∷ xs) =
    cond_both (eqb x 9) _ _ (λ ps. parted ps ≡ x ∷ xs)
    (λ e. parted_tab (fields xs) (some_piece 9 xs) ∙ ap₂ (λ y ys. y ∷ ys) (sym (eqb-true x 9 e)) (parted_fields xs))
    (λ e. parted_onto x (fields xs) ∙ ap (λ ys. x ∷ ys) (parted_fields xs))

-- one more byte in front of the first line
spelled_onto : (x : ℕ) (ps : List (List ℕ)) → 1 ≤ length ps → spelled (each_fields (onto_first x ps)) ≡ x ∷ spelled (each_fields ps)
spelled_onto x [] h = absurd (omega arith)
spelled_onto x (p ∷ ps) h = ap (λ bytes. bytes ++ (10 ∷ spelled (each_fields ps))) (parted_fields (x ∷ p) ∙ ap (λ bytes. x ∷ bytes) (sym (parted_fields p)))

-- a text of one byte or more has a line
some_line : (x : ℕ) (xs : List ℕ) → 1 ≤ length (cut 10 [] (x ∷ xs))
some_line x xs = cond_both (eqb x 10) _ _ (λ ps. 1 ≤ length ps) (λ e. omega arith) (λ e. some_onto x (cut 10 [] xs))

-- a text that ends in LF is spelled by its lines
pub spelled_lines : (text : List ℕ) → get_or text (length text - 1) 0 ≡ 10 → spelled (lines text) ≡ text
spelled_lines [] e = absurd (omega arith)
spelled_lines (x ∷ []) e = ap (λ y. spelled (lines (y ∷ []))) e ∙ ap (λ y. y ∷ []) (sym e)
spelled_lines (x ∷ y ∷ ys) e =
    let tail : spelled (lines (y ∷ ys)) ≡ y ∷ ys = spelled_lines (y ∷ ys) ((ap (λ k. get_or (x ∷ y ∷ ys) k 0) (let k : suc (length (y ∷ ys) - 1) ≡ length (x ∷ y ∷ ys) - 1 = omega arith in k)) ∙ e) in
    cond_both (eqb x 10) _ _ (λ ps. spelled (each_fields ps) ≡ x ∷ y ∷ ys)
    (λ h. ap₂ (λ z zs. z ∷ zs) (sym (eqb-true x 10 h)) tail)
    (λ h. spelled_onto x (cut 10 [] (y ∷ ys)) (some_line y ys) ∙ ap (λ zs. x ∷ zs) tail)
