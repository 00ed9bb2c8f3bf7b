-- What is written of a number and of a set of labels is lawful, visible, and read back.
use Rattle.std.proofs.Common.{◌≡◌, ℕ, ◌+◌, ◌^◌, ◌<◌, ◌≤◌, Bool, true, false, eqb, leb, List, [], ◌∷◌, length, decimal, sym, refl, ap, ◌∙◌, ap₂, arith}
use Rattle.std.specs.Str.Parse.{AllDigits}
use Rattle.std.proofs.lemmas.Fmt.{decimal_is_IsNumeral}
use Rattle.std.proofs.lemmas.Str.Parse.{digit_from_value}
use Rattle.std.proofs.lemmas.Bool.{leb-true, eq-eqb, ne_eqb, and_parts, and_from, or_left, or_right, or_from}
use Rattle.model.specs.Mdp.{Each}
use Rattle.text.specs.Fields.{amount, between, ascending, lawful_labels, among, letters_from, or_else, dash, labels_text, flags_from, labels_of}
pub use Rattle.text.proofs.Ranges.{between_from}
use Rattle.text_laws.proofs.SoundFields.{flags_below}

-- a number that is written is read back
pub amount_decimal : (n : ℕ) → n < 10 ^ 7 → amount (decimal n) ≡ n
amount_decimal n h = (decimal_is_IsNumeral n (omega arith)).1

-- a byte that is neither a tab nor an LF, nor any other below 11
abbrev pub Visible : ℕ → Type 0
Visible c = 10 < c

-- digits are visible
visible_digits : (ds : List ℕ) → AllDigits 10 ds → Each Visible ds
visible_digits [] h = tt
visible_digits (c ∷ cs) h = (omega (arith, digit_from_value c h.0), visible_digits cs h.1)

-- what is written of a number is visible
pub visible_decimal : (n : ℕ) → n < 10 ^ 7 → Each Visible (decimal n)
visible_decimal n h = visible_digits (decimal n) (decimal_is_IsNumeral n (omega arith)).0.1

-- a letter before the first is not among the letters of the flags
among_below : (x l : ℕ) (flags : List Bool) → x < l → among x (letters_from l flags) ≡ false
among_below x l [] h = refl
among_below x l (true ∷ flags) h = or_from (eqb l x) (among x (letters_from (l + 1) flags)) (ne_eqb l x (omega arith)) (among_below x (l + 1) flags (omega arith))
among_below x l (false ∷ flags) h = among_below x (l + 1) flags (omega arith)

-- flags are read back from their letters
flags_letters : (l : ℕ) (flags : List Bool) → flags_from l (length flags) (letters_from l flags) ≡ flags
flags_letters l [] = refl
flags_letters l (true ∷ flags) =
    ap₂ ◌∷◌ (or_left (eqb l l) (among l (letters_from (l + 1) flags)) (eq-eqb l l refl)) (flags_below (l + 1) (length flags) l (letters_from (l + 1) flags) (omega arith) ∙ flags_letters (l + 1) flags)
flags_letters l (false ∷ flags) = ap₂ ◌∷◌ (among_below l (l + 1) flags (omega arith)) (flags_letters (l + 1) flags)

-- a dash in the place of no letters sets no flag
flags_dash : (n : ℕ) (bytes : List ℕ) → flags_from 97 n (or_else bytes dash) ≡ flags_from 97 n bytes
flags_dash n [] = flags_below 97 n 45 [] (omega arith)
flags_dash n (c ∷ cs) = refl

-- sixteen flags are read back
pub labels_read : (flags : List Bool) → length flags ≡ 16 → labels_of (labels_text flags) ≡ flags
labels_read flags h =
    flags_dash 16 (letters_from 97 flags) ∙ ap (λ n. flags_from 97 n (letters_from 97 flags)) (sym h) ∙ flags_letters 97 flags

-- letters are visible
visible_letters : (l : ℕ) (flags : List Bool) → 10 < l → Each Visible (letters_from l flags)
visible_letters l [] h = tt
visible_letters l (true ∷ flags) h = (h, visible_letters (l + 1) flags (omega arith))
visible_letters l (false ∷ flags) h = visible_letters (l + 1) flags (omega arith)

-- so is a dash in the place of no letters
visible_dash : (bytes : List ℕ) → Each Visible bytes → Each Visible (or_else bytes dash)
visible_dash [] h = (omega arith, tt)
visible_dash (c ∷ cs) h = h

-- what is written of labels is visible
pub visible_labels : (flags : List Bool) → Each Visible (labels_text flags)
visible_labels flags = visible_dash (letters_from 97 flags) (visible_letters 97 flags (omega arith))

-- letters that ascend from l do so from any lower letter
ascending_lower : (k l : ℕ) (cs : List ℕ) → k ≤ l → ascending l cs ≡ true → ascending k cs ≡ true
ascending_lower k l [] h e = refl
ascending_lower k l (c ∷ cs) h e =
    let parts = and_parts (between l 112 c) (ascending (c + 1) cs) e in
    let range = and_parts (leb l c) (leb c 112) parts.0 in
    and_from _ _ (between_from k 112 c (omega (arith, leb-true l c range.0)) (leb-true c 112 range.1)) parts.1

-- the letters of flags ascend
ascending_letters : (l : ℕ) (flags : List Bool) → l + length flags ≤ 113 → ascending l (letters_from l flags) ≡ true
ascending_letters l [] h = refl
ascending_letters l (true ∷ flags) h = and_from _ _ (between_from l 112 l (omega arith) (omega arith)) (ascending_letters (l + 1) flags (omega arith))
ascending_letters l (false ∷ flags) h = ascending_lower l (l + 1) (letters_from (l + 1) flags) (omega arith) (ascending_letters (l + 1) flags (omega arith))

-- letters that ascend are lawful, and so is a dash in the place of none
lawful_dash : (bytes : List ℕ) → ascending 97 bytes ≡ true → lawful_labels (or_else bytes dash) ≡ true
lawful_dash [] h = refl
lawful_dash (c ∷ cs) h = or_right _ _ h

-- what is written of sixteen flags is lawful
pub lawful_text : (flags : List Bool) → length flags ≡ 16 → lawful_labels (labels_text flags) ≡ true
lawful_text flags h = lawful_dash (letters_from 97 flags) (ascending_letters 97 flags (omega arith))
