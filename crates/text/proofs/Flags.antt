-- What is written of a set of labels.
use Rattle.std.proofs.Common.{◌≡◌, ℕ, suc, zero, ◌+◌, ◌<◌, Bool, true, false, cond, List, [], ◌∷◌, ◌++◌, length, get_or, take, refl, ap, ◌∙◌, add-one, arith}
use Rattle.std.specs.Bool.{beq}
use Rattle.std.specs.List.{list_any}
use Rattle.text.specs.Fields.{letters_from, labels_text, or_else, dash}

-- the letters of the first flags, and of one flag more
pub letters_more : (letter : ℕ) (flags : List Bool) (i : ℕ) → i < length flags → letters_from letter (take (i + 1) flags) ≡ letters_from letter (take i flags) ++ cond (get_or flags i false) ((letter + i) ∷ []) []
letters_more letter [] i h = absurd (omega arith)
letters_more letter (flag ∷ flags) zero h =
    let same : letter ≡ letter + 0 = omega arith in
    ap (λ l. cond flag (l ∷ []) []) same
letters_more letter (true ∷ flags) (suc i) h =
    let next : letter + 1 + i ≡ letter + suc i = omega arith in
    let more = letters_more (letter + 1) flags i (omega arith) in
    rw (add-one (suc i)) (ap (λ t. letter ∷ t) (rw (add-one i) at (rw next at more)))
letters_more letter (false ∷ flags) (suc i) h =
    let next : letter + 1 + i ≡ letter + suc i = omega arith in
    let more = letters_more (letter + 1) flags i (omega arith) in
    rw (add-one (suc i)) (rw (add-one i) at (rw next at more))

-- a set of labels is its letters if a flag is set, else a dash
labels_cases : (letter : ℕ) (flags : List Bool) → cond (list_any (λ f. beq f true) flags) (letters_from letter flags) dash ≡ or_else (letters_from letter flags) dash
labels_cases letter [] = refl
labels_cases letter (true ∷ flags) = refl
labels_cases letter (false ∷ flags) = labels_cases (letter + 1) flags

-- the text of a set of labels, where it is known whether a flag is set
pub labels_are : (flags : List Bool) (some : Bool) → some ≡ list_any (λ f. beq f true) flags → cond some (letters_from 97 flags) dash ≡ labels_text flags
labels_are flags some e = ap (λ b. cond b (letters_from 97 flags) dash) e ∙ labels_cases 97 flags
