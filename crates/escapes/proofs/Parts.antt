-- What cutting a text at a byte, and going over the parts, gives.
use Rattle.std.proofs.Common.{◌≡◌, ℕ, zero, suc, ◌+◌, ◌<◌, true, false, cond, eqb, List, [], ◌∷◌, ◌++◌, length, Option, Some, None, Bor, append-nil, sym, ap, subst, ◌∙◌, arith}
use Rattle.std.specs.Option.{MatchOption}
use Rattle.std.specs.Iterator.{Yields}
use Rattle.std.specs.List.{flat_map, repeat, position_or_len}
use Rattle.std.proofs.lemmas.List.{append_assoc}
use Rattle.std.proofs.lemmas.Iterator.{YieldsList}
use Rattle.std.proofs.lemmas.Iterator.Consumers.{YieldsList-end}
use Rattle.std.proofs.lemmas.List.Folds.{flat_map-map, list_any_none, list_any_at}
use Rattle.std.proofs.lemmas.List.Sums.{fails_before_first, passes_at_first}
use Rattle.std.proofs.lemmas.Str.Pattern.{IsSplitOnceResult, split_once_first}
use Rattle.escapes.specs.Escapes.{has, before, behind, escape, unescaped, piece, repetition, part}

-- `split_once` gives what stands before the first byte c and behind it, if there is one
pub cut_once : (c : ℕ) (text : List ℕ) (r : Option (Bor (List ℕ) × Bor (List ℕ))) → IsSplitOnceResult c text r → c < 128
    → MatchOption r (has c text ≡ false) (λ x. (has c text ≡ true) × (x.0.now ≡ before c text) × (x.1.now ≡ behind c text))
cut_once c text None h low =
    let all = split_once_first c text None h low in
    list_any_none (λ b. eqb b c) text (λ k d l. fails_before_first (λ b. eqb b c) text k d (omega (arith, all, l)))
cut_once c text (Some x) h low =
    let first = split_once_first c text (Some x) h low in
    (list_any_at (λ b. eqb b c) text (position_or_len (λ b. eqb b c) text) 0 first.0 (passes_at_first (λ b. eqb b c) text 0 first.0), first.1, first.2)

-- an iterator over parts
module _ {S : Type 0} {steps : S → Option (Bor (List ℕ)) → S → Type 0} {s : S} where
  -- a loop that has had all parts has had what they stand for
  pub all_parts : (f : List ℕ → List ℕ) (parts : List (List ℕ)) → YieldsList steps (λ p. p.now) s parts → (xs : List (Bor (List ℕ))) (t : S) → Yields steps s xs t → (got : Option (Bor (List ℕ))) (u : S) → got ≡ None → steps t got u
      → flat_map (λ p. f p.now) xs ≡ flat_map f parts
  all_parts f parts each xs t had got u e step = sym (flat_map-map f (λ p. p.now) xs) ∙ ap (flat_map f) (YieldsList-end each xs t had got u e step).0

  -- an iterator that has some parts left gives one
  pub some_part : (parts : List (List ℕ)) → 0 < length parts → YieldsList steps (λ p. p.now) s parts → (got : Option (Bor (List ℕ))) (u : S) → steps s got u → got ≡ None → ⊥
  some_part [] some each got u step e = omega (arith, some)
  some_part (p ∷ later) some each got u step e = each.runs.0 u (subst (λ g. steps s g u) e step)

  -- the first part of a piece stands for itself, and what is left are the later ones
  pub first_part : (parts : List (List ℕ)) → 0 < length parts → YieldsList steps (λ p. p.now) s parts → (got : Option (Bor (List ℕ))) (u : S) → steps s got u → (p : Bor (List ℕ)) → got ≡ Some p
      → (later : List (List ℕ)) × YieldsList steps (λ p. p.now) u later × (unescaped parts ≡ p.now ++ flat_map escape later)
  first_part [] some each got u step p e = absurd (omega (arith, some))
  first_part (w ∷ later) some each got u step p e =
      let turn = each.runs.1 p u (subst (λ g. steps s g u) e step) in
      (later, record { runs = turn.1 }, ap (λ v. v ++ flat_map escape later) (sym turn.0))

-- a list once more behind its repetitions
repeat_suc : (n : ℕ) (w : List ℕ) → repeat n w ++ w ≡ repeat (suc n) w
repeat_suc zero w = sym (append-nil w)
repeat_suc (suc n) w = append_assoc w (repeat n w) w ∙ ap (λ v. w ++ v) (repeat_suc n w)

-- the same behind what stands before them
pub repeat_more : (n : ℕ) (out w : List ℕ) → (out ++ repeat n w) ++ w ≡ out ++ repeat (n + 1) w
repeat_more n out w =
    let more : suc n ≡ n + 1 = omega arith in
    append_assoc out (repeat n w) w ∙ ap (λ v. out ++ v) (repeat_suc n w ∙ ap (λ k. repeat k w) more)

-- a repetition with no colon stands for nothing
pub no_repetition : (text out : List ℕ) → has 58 text ≡ false → out ≡ out ++ repetition text
no_repetition text out none = rw none (sym (append-nil out))

-- a part with a brace stands for a repetition and a piece
pub part_cut : (text out front back : List ℕ) → (has 125 text ≡ true) × (front ≡ before 125 text) × (back ≡ behind 125 text) → (out ++ repetition front) ++ piece back ≡ out ++ part text
part_cut text out front back h =
    append_assoc out (repetition front) (piece back) ∙ ap (λ v. out ++ (repetition v ++ piece back)) h.1 ∙ ap (λ v. out ++ (repetition (before 125 text) ++ piece v)) h.2
    ∙ ap (λ b. out ++ cond b (repetition (before 125 text) ++ piece (behind 125 text)) (piece text)) (sym h.0)

-- a part with no brace is a piece
pub part_whole : (text : List ℕ) → has 125 text ≡ false → piece text ≡ part text
part_whole text none = ap (λ b. cond b (repetition (before 125 text) ++ piece (behind 125 text)) (piece text)) (sym none)
