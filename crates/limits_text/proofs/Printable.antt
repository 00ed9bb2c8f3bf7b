-- The bytes of numbers and of a formula's text: they are printable and no blanks, so the text is shown as it is.
use Rattle.std.proofs.Common.{◌≡◌, ℕ, zero, suc, ◌+◌, ◌/◌, ◌%◌, ◌<◌, ◌≤◌, ◌⊎◌, inl, inr, Bool, true, false, eqb, ltb, leb, length, ◌&&◌, ◌||◌, List, [], ◌∷◌, map, decimal, refl, ap, ◌∙◌, arith}
use Rattle.std.specs.List.{list_all}
use Rattle.std.specs.Fmt.{digit_glyph, digits_onto, digits}
use Rattle.std.proofs.lemmas.Bool.{cond-true, cond_both, or_right, and_from, and_parts, lt-ltb, le-leb, leb-true}
use Rattle.std.proofs.lemmas.List.Folds.{list_all-append}
use Rattle.theory.specs.Formulas.{Comparison, below, at_most, above, at_least, Formula, PathFormula, truth, label, negation, conjunction, probability, next, until_within, until}
use Rattle.grammar.specs.Spelling.{sign, print, print_path, Spelled, SpelledPath}
use Rattle.printing.specs.Carets.{shown}

-- is a byte printable and no blank: from `!` (33) to `~` (126)?
abbrev pub is_graphic : ℕ → Bool
is_graphic b = leb 33 b && leb b 126

-- it is by its number
graphic : (b : ℕ) → 33 ≤ b → b ≤ 126 → is_graphic b ≡ true
graphic b low high = and_from (leb 33 b) (leb b 126) (le-leb 33 b low) (le-leb b 126 high)

-- all of these bytes are
abbrev pub AreGraphic : List ℕ → Type 0
AreGraphic bytes = list_all is_graphic bytes ≡ true

-- one is
alone : (b : ℕ) → 33 ≤ b → b ≤ 126 → AreGraphic (b ∷ [])
alone b low high = and_from (is_graphic b) true (graphic b low high) refl

-- so is a digit of a number
digit_graphic : (d : ℕ) → d < 10 → is_graphic (digit_glyph false d) ≡ true
digit_graphic d small =
    let glyph : digit_glyph false d ≡ 48 + d = cond-true (ltb d 10) _ _ (lt-ltb d 10 small) in
    rw glyph (graphic (48 + d) (omega arith) (omega arith))

-- the last digits of a number are, in front of others that are
onto_graphic : (k n : ℕ) (behind : List ℕ) → AreGraphic behind → AreGraphic (digits_onto k 10 false n behind)
onto_graphic zero n behind rest = rest
onto_graphic (suc k) n behind rest =
    let last : n % 10 < 10 = omega arith in
    let more : AreGraphic (digit_glyph false (n % 10) ∷ behind) = and_from (is_graphic (digit_glyph false (n % 10))) (list_all is_graphic behind) (digit_graphic (n % 10) last) rest in
    cond_both (eqb (n / 10) 0) _ _ AreGraphic (λ e. more) (λ e. onto_graphic k (n / 10) (digit_glyph false (n % 10) ∷ behind) more)

-- nothing is lost of those, and a digit is put in front of none
onto_some : (k n : ℕ) (behind : List ℕ) → (0 < length behind) ⊎ (0 < k) → 0 < length (digits_onto k 10 false n behind)
onto_some zero n behind (inl some) = some
onto_some zero n behind (inr none) = absurd (omega arith)
onto_some (suc k) n behind some =
    cond_both (eqb (n / 10) 0) _ _ (λ digits. 0 < length digits) (λ e. omega arith) (λ e. onto_some k (n / 10) (digit_glyph false (n % 10) ∷ behind) (inl (omega arith)))

-- so are all of them
pub digits_graphic : (n : ℕ) → AreGraphic (decimal n)
unfolding digits
digits_graphic n = onto_graphic 64 n [] refl

-- and there is one
pub some_digit : (n : ℕ) → 0 < length (decimal n)
unfolding digits
some_digit n = onto_some 64 n [] (inr (omega arith))

-- a comparison
sign_graphic : (c : Comparison) → AreGraphic (sign c)
sign_graphic below = refl
sign_graphic at_most = refl
sign_graphic above = refl
sign_graphic at_least = refl

mutual
  -- a formula
  pub print_graphic : (f : Formula) → Spelled f → AreGraphic (print f)
  print_graphic truth s = refl
  print_graphic (label i) s = alone (97 + i) (omega arith) (omega arith)
  print_graphic (negation f) s = print_graphic f s
  print_graphic (conjunction f g) s = simp (list_all-append, print_graphic f s.0, print_graphic g s.1) refl
  print_graphic (probability c b p) s = simp (list_all-append, sign_graphic c, digits_graphic b, path_graphic p s.1) refl

  -- a path formula
  path_graphic : (p : PathFormula) → SpelledPath p → AreGraphic (print_path p)
  path_graphic (next f) s = print_graphic f s
  path_graphic (until_within k f g) s = simp (list_all-append, print_graphic f s.1, digits_graphic k, print_graphic g s.2) refl
  path_graphic (until f g) s = simp (list_all-append, print_graphic f s.0, print_graphic g s.1) refl

-- graphic bytes are shown as they are
all_shown : (bytes : List ℕ) → AreGraphic bytes → map shown bytes ≡ bytes
all_shown [] graphics = refl
all_shown (b ∷ bytes) graphics =
    let split = and_parts (is_graphic b) (list_all is_graphic bytes) graphics in
    let range = and_parts (leb 33 b) (leb b 126) split.0 in
    let least = leb-true 33 b range.0 in
    let low : 32 ≤ b = omega arith in
    let own : shown b ≡ b = cond-true (eqb b 9 || (leb 32 b && leb b 126)) b 63 (or_right (eqb b 9) (leb 32 b && leb b 126) (and_from (leb 32 b) (leb b 126) (le-leb 32 b low) range.1)) in
    ap (λ c. c ∷ map shown bytes) own ∙ ap (λ t. b ∷ t) (all_shown bytes split.1)

-- so the text of a formula is
pub print_shown : (f : Formula) → Spelled f → map shown (print f) ≡ print f
print_shown f s = all_shown (print f) (print_graphic f s)
