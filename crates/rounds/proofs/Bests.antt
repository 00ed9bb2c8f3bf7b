-- The loop over the choices of a state: the best mix so far, and the mixes still to come.
use Rattle.std.proofs.Common.{◌≡◌, ℕ, ◌+◌, ◌<◌, ◌≤◌, List, [], ◌∷◌, map, length, get_or, drop, sym, ap, ◌∙◌, arith}
use Rattle.std.specs.List.{fold}
use Rattle.std.proofs.lemmas.List.{at_drop_more}
use Rattle.model.specs.Mdp.{Row}
use Rattle.rounds.specs.Backups.{best_of}

module _ {V : Type 0} (better : V → V → V) (f : Row → V) (rows : List Row) where
  -- the best of x and of f of the rows from i on
  abbrev pub best_from : ℕ → V → V
  best_from i x = fold better x (map f (drop i rows))

  -- a row more: x is replaced by the better of the two
  pub best_more : (i : ℕ) (x y z : V) → i < length rows → y ≡ f (get_or rows i []) → z ≡ better x y → best_from (i + 1) z ≡ best_from i x
  best_more i x y z h e w =
      let more : best_from i x ≡ fold better (better x (f (get_or rows i []))) (map f (drop (i + 1) rows)) = at_drop_more (λ rs. fold better x (map f rs)) rows i [] h in
      ap (best_from (i + 1)) (w ∙ ap (better x) e) ∙ sym more

-- the best of the first row and of those after it is the best of all
pub best_first : {V : Type 0} (better : V → V → V) (f : Row → V) (rows : List Row) (d x : V) →
    1 ≤ length rows → x ≡ f (get_or rows 0 []) → best_from better f rows 1 x ≡ best_of better d (map f rows)
best_first better f [] d x h e = absurd (omega arith)
best_first better f (r ∷ rs) d x h e = ap (λ v. fold better v (map f rs)) e
