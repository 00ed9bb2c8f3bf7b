-- What a hole with a width writes is a cell of a table.
use Rattle.std.proofs.Common.{◌≡◌, ℕ, zero, suc, ◌-◌, ◌^◌, false, eqb, List, [], ◌∷◌, replicate, refl, ap, append-nil}
use Rattle.std.proofs.Math.Nat.{sub-zero, sub_self}
use Rattle.std.proofs.lemmas.Bool.{cond_both}
use Rattle.std.specs.List.{repeat}
use Rattle.std.specs.Fmt.{format_spec, padded_integral, padded, char_count, take_chars}
use Rattle.limits_text.specs.Cells.{at_right, at_left}
use Rattle.limits_text.specs.Tables.{verdict_word}

-- a blank repeated is so many blanks
blanks : (n : ℕ) → repeat {A = ℕ} n (32 ∷ []) ≡ replicate {A = ℕ} n 32
blanks zero = refl
blanks (suc n) = ap (λ t. 32 ∷ t) (blanks n)

-- a number in a hole `{:>w}`
pub right_written : (w : ℕ) (digits : List ℕ) → padded_integral (format_spec 32 3 0 w (2 ^ 64 - 1)) false [] digits ≡ at_right w digits
unfolding padded_integral char_count lib.Utf8.encode
right_written w digits = simp (sub-zero, blanks, sub_self, append-nil)

-- a verdict's word in a hole `{:<9}`
pub word_written : (b : ℕ) → padded (format_spec 32 1 0 9 (2 ^ 64 - 1)) (verdict_word b) ≡ at_left 9 (verdict_word b)
unfolding padded char_count take_chars lib.Utf8.encode
word_written b =
    let P : List ℕ → Type 0 = λ word. padded (format_spec 32 1 0 9 (2 ^ 64 - 1)) word ≡ at_left 9 word in
    cond_both (eqb b 0) _ _ P (λ e. refl) (λ e. cond_both (eqb b 1) _ _ P (λ e'. refl) (λ e'. refl))
