-- What two lists together spell, and how many branches they have.
use Rattle.std.proofs.Common.{◌≡◌, ◌+◌, List, [], ◌∷◌, ◌++◌, length, sym, refl, ap, ◌∙◌, append_assoc, arith, length-append}
use Rattle.model.specs.Mdp.{Row}
use Rattle.text.specs.Cuts.{Line, spelled, parted}
use Rattle.text.specs.Contents.{all_branches}

-- lines one after another are spelled one after another
pub spelled_append : (ls ms : List Line) → spelled (ls ++ ms) ≡ spelled ls ++ spelled ms
spelled_append [] ms = refl
spelled_append (l ∷ ls) ms = ap (λ t. parted l ++ (10 ∷ t)) (spelled_append ls ms) ∙ sym (append_assoc (parted l) (10 ∷ spelled ls) (spelled ms))

-- two lists of rows have as many branches as both
pub branches_append : (rs qs : List Row) → length (all_branches (rs ++ qs)) ≡ length (all_branches rs) + length (all_branches qs)
branches_append [] qs = omega arith
branches_append (r ∷ rs) qs =
    omega (arith, length-append r (all_branches (rs ++ qs)), length-append r (all_branches rs), branches_append rs qs)
