-- The parts of a ladder's name, as `split_once` cuts them.
use Rattle.std.proofs.Common.{◌≡◌, ℕ, ◌<◌, Bool, true, false, ◌&&◌, eqb, cond, List, [], ◌∷◌, ◌++◌, length, slice_index_or, Option, Some, None, Bor, MatchOption, codes, lit<, refl, sym, ap, ◌∙◌, arith}
use Rattle.std.specs.Char.{is_ascii_digit}
use Rattle.std.specs.List.{join_with_byte}
use Rattle.std.specs.Str.{all_ascii_digits}
use Rattle.std.proofs.lemmas.Bool.{cond-false, ne_eqb}
use Rattle.std.proofs.lemmas.List.Elements.{All-from_get_or}
use Rattle.std.proofs.lemmas.List.Splits.{join_with_byte-slice_split, slice_split_none, slice_split_first}
use Rattle.std.proofs.lemmas.Str.Pattern.{IsSplitOnceResult, split_parts, split_once_first}
use Rattle.text.specs.Cuts.{pieces}
use Rattle.text.specs.Fields.{lawful_number}
use Rattle.text.proofs.Cutting.{split_pieces, some_piece}
use Rattle.console.specs.declared.command.ModelName.{ModelName}
use Rattle.console.specs.Commands.{number_of, ladder_of, ladder_named}

-- `split_once` gives the first piece and what is cut further, or all is one piece
cut_once : (c : ℕ) (text : List ℕ) (r : Option (Bor (List ℕ) × Bor (List ℕ))) → IsSplitOnceResult c text r → c < 128 → MatchOption r (pieces c text ≡ text ∷ []) (λ x. pieces c text ≡ x.0.now ∷ pieces c x.1.now)
cut_once c text None h low = sym (split_pieces c text) ∙ slice_split_none (λ b. eqb b c) text (All-from_get_or (λ b. eqb b c ≡ false) text 0 (λ k l. ne_eqb _ c (split_parts c text None h low k l)))
cut_once c text (Some x) h low =
    let first = split_once_first c text (Some x) h low in
    sym (split_pieces c text) ∙ slice_split_first (λ b. eqb b c) text 0 first.0 ∙ (λ i. sym first.1 i ∷ split_pieces c (sym first.2 i) i)

-- a word with a colon in it is not all digits
no_digits : (p rest : List ℕ) → all_ascii_digits (p ++ 58 ∷ rest) ≡ false
no_digits [] rest = refl
no_digits (x ∷ p) rest = ap (λ b. is_ascii_digit x && b) (no_digits p rest) ∙ elim (is_ascii_digit x) as (λ b. (b && false) ≡ false) [ true ↦ refl | false ↦ refl ]

-- where the first of two is false, so is that both hold
first_false : (a b : Bool) → a ≡ false → (a && b) ≡ false
first_false a b e = ap (λ x. x && b) e

-- so a word of several pieces is no number
several : (w p q : List ℕ) (ps : List (List ℕ)) → pieces 58 w ≡ p ∷ q ∷ ps → number_of w ≡ None
several w p q ps e =
    let joined : w ≡ p ++ 58 ∷ join_with_byte 58 (q ∷ ps) = sym (join_with_byte-slice_split 58 w) ∙ ap (join_with_byte 58) (split_pieces 58 w ∙ e) in
    let none : all_ascii_digits w ≡ false = ap all_ascii_digits joined ∙ no_digits p (join_with_byte 58 (q ∷ ps)) in
    cond-false (lawful_number w) _ None (first_false (all_ascii_digits w) _ none)

-- and a word of one piece is that piece
single : (w p : List ℕ) → pieces 58 w ≡ p ∷ [] → p ≡ w
single w p e = sym (ap (join_with_byte 58) (split_pieces 58 w ∙ e)) ∙ join_with_byte-slice_split 58 w

-- the ladder that parts name
abbrev named_by : List (List ℕ) → Option ModelName
named_by ps = cond (eqb (length ps) 4) (ladder_of (number_of (slice_index_or ps 1 [])) (number_of (slice_index_or ps 2 [])) (number_of (slice_index_or ps 3 []))) None

-- with a part that is no number they name none
pub no_second : (r w : Option ℕ) → ladder_of r None w ≡ None
no_second None w = refl
no_second (Some r) w = refl

-- whichever it is
pub no_third : (r d : Option ℕ) → ladder_of r d None ≡ None
no_third None d = refl
no_third (Some r) None = refl
no_third (Some r) (Some d) = refl

-- one part names no ladder
pub one_part : (n : List ℕ) → IsSplitOnceResult 58 n None → None ≡ ladder_named (codes "ladder:" ++ n)
one_part n none = sym (ap (λ ps. named_by (codes "ladder" ∷ ps)) (cut_once 58 n None none (lit< tt)))

-- nor do two
pub two_parts : (n : List ℕ) (x : Bor (List ℕ) × Bor (List ℕ)) → IsSplitOnceResult 58 n (Some x) → IsSplitOnceResult 58 x.1.now None → None ≡ ladder_named (codes "ladder:" ++ n)
two_parts n x first none =
    let cuts : pieces 58 n ≡ x.0.now ∷ x.1.now ∷ [] = cut_once 58 n (Some x) first (lit< tt) ∙ ap (λ ps. x.0.now ∷ ps) (cut_once 58 x.1.now None none (lit< tt)) in
    sym (ap (λ ps. named_by (codes "ladder" ∷ ps)) cuts)

-- three parts do, and where the third is cut further it is no number
three : (n a b w : List ℕ) (ps : List (List ℕ)) → pieces 58 n ≡ a ∷ b ∷ ps → pieces 58 w ≡ ps → ladder_named (codes "ladder:" ++ n) ≡ ladder_of (number_of a) (number_of b) (number_of w)
three n a b w [] e f = let some = some_piece 58 w in absurd (omega (arith, ap length f))
three n a b w (p ∷ []) e f = ap (λ ps. named_by (codes "ladder" ∷ ps)) e ∙ ap (λ k. ladder_of (number_of a) (number_of b) (number_of k)) (single w p f)
three n a b w (p ∷ q ∷ qs) e f =
    let all = codes "ladder" ∷ a ∷ b ∷ p ∷ q ∷ qs in
    let many = ap (λ ps. named_by (codes "ladder" ∷ ps)) e ∙ cond-false (eqb (length all) 4) (ladder_of (number_of a) (number_of b) (number_of p)) None (ne_eqb (length all) 4 (λ long. omega (arith, long))) in
    many ∙ sym (no_third (number_of a) (number_of b)) ∙ ap (ladder_of (number_of a) (number_of b)) (sym (several w p q qs f))

-- so the numbers of three parts name one
pub three_parts : (n : List ℕ) (x y : Bor (List ℕ) × Bor (List ℕ)) → IsSplitOnceResult 58 n (Some x) → IsSplitOnceResult 58 x.1.now (Some y) → ladder_named (codes "ladder:" ++ n) ≡ ladder_of (number_of x.0.now) (number_of y.0.now) (number_of y.1.now)
three_parts n x y first second = three n x.0.now y.0.now y.1.now (pieces 58 y.1.now) (cut_once 58 n (Some x) first (lit< tt) ∙ ap (λ ps. x.0.now ∷ ps) (cut_once 58 x.1.now (Some y) second (lit< tt))) refl
