-- Which names are those of ladders, by their beginning.
use Rattle.std.proofs.Common.{◌≡◌, ◌≢◌, ℕ, Bool, true, false, ◌&&◌, nat_lt, List, [], ◌∷◌, ◌++◌, length, slice_index_or, Ok, ok_or, cond, codes, refl, sym, ap, ◌∙◌, arith, rules}
use Rattle.std.proofs.lemmas.Slice.Eq.{compares_Decides}
use Rattle.std.proofs.lemmas.List.Splits.{join_with_byte-slice_split}
use Rattle.std.specs.List.{join_with_byte}
use Rattle.text.specs.Cuts.{pieces}
use Rattle.text.specs.Words.{same}
use Rattle.std.proofs.lemmas.Bool.Decides.{nat_tests}
use Rattle.text.proofs.Cutting.{split_pieces, some_piece}
use Rattle.console.specs.declared.command.Mistake.TheVariants.{NoLadder}
use Rattle.console.specs.declared.command.ModelName.TheVariants.{File}
use Rattle.console.specs.Commands.{names_ladder, ladder_named, model_named}

-- a name does not begin with `ladder:`
abbrev pub BeginsOther : List ℕ → Type 0
BeginsOther name = (rest : List ℕ) → name ≢ codes "ladder:" ++ rest

-- the first of several pieces is not `ladder`: the pieces, joined by colons, are the name
first_piece : (name p q : List ℕ) (ps : List (List ℕ)) → pieces 58 name ≡ p ∷ q ∷ ps → BeginsOther name → (b : Bool) → same p (codes "ladder") ≡ b → b ≡ false
first_piece name p q ps e other false is = refl
first_piece name p q ps e other true is =
    let ladder : p ≡ codes "ladder" = (compares_Decides same (search rules) p (codes "ladder")).0 is in
    let joined : name ≡ p ++ 58 ∷ join_with_byte 58 (q ∷ ps) = sym (join_with_byte-slice_split 58 name) ∙ ap (join_with_byte 58) (split_pieces 58 name ∙ e) in
    absurd (other _ (joined ∙ ap (λ w. w ++ 58 ∷ join_with_byte 58 (q ∷ ps)) ladder))

-- so a name with these pieces is not that of a ladder
by_pieces : (name : List ℕ) (ps : List (List ℕ)) → pieces 58 name ≡ ps → BeginsOther name → (same (slice_index_or ps 0 []) (codes "ladder") && nat_lt 1 (length ps)) ≡ false
by_pieces name [] e other = refl
by_pieces name (p ∷ []) e other = grind (arith, nat_tests)
by_pieces name (p ∷ q ∷ ps) e other = ap (λ b. b && nat_lt 1 (length (p ∷ q ∷ ps))) (first_piece name p q ps e other (same p (codes "ladder")) refl)

-- a name that does not begin with `ladder:` is a path
pub other_named : (name : List ℕ) → BeginsOther name → model_named name ≡ Ok File
other_named name other = ap (λ b. cond b (ok_or (ladder_named name) NoLadder) (Ok File)) (by_pieces name (pieces 58 name) refl other)

-- a name that begins with `ladder:` is that of a ladder: a piece comes after the colon
ladder_begins : (rest : List ℕ) → names_ladder (codes "ladder:" ++ rest) ≡ true
ladder_begins rest = let some = some_piece 58 rest in grind (arith, nat_tests)

-- so it gives the ladder that the rest names
pub begun_named : (name rest : List ℕ) → name ≡ codes "ladder:" ++ rest → model_named name ≡ ok_or (ladder_named (codes "ladder:" ++ rest)) NoLadder
begun_named name rest e = ap model_named e ∙ ap (λ b. cond b (ok_or (ladder_named (codes "ladder:" ++ rest)) NoLadder) (Ok File)) (ladder_begins rest)
