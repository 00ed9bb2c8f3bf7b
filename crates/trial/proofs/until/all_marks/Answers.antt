use Rattle.std.proofs.Common.{◌≡◌, ℕ, Bool, eqb, leb, List, refl, ap, ◌∙◌, ◌||◌, ◌&&◌, arith, rules, tests}
use Rattle.std.specs.List.{list_all}
use Rattle.std.proofs.lemmas.Iterator.{YieldsList-from_slice}
use Rattle.std.proofs.lemmas.Iterator.Search.{all_from_yields_List}
use Rattle.std.proofs.lemmas.List.Recursion.{same_from_clauses}
use Rattle.trial.specs.Answers.{all_marks}
use Rattle.trial.proofs.until.all_marks.Goals as goal

-- a byte is a mark if it is at most 1
small : (b : ℕ) → leb b 1 ≡ (eqb b 0 || eqb b 1)
small b = grind arith

-- so all are marks if all are at most 1
all_small : (bs : List ℕ) → list_all (λ b. leb b 1) bs ≡ all_marks bs
all_small = same_from_clauses (list_all (λ b. leb b 1)) all_marks (λ b rest. (eqb b 0 || eqb b 1) && rest) refl (λ b bs. ap (λ (x : Bool). x && list_all (λ a. leb a 1) bs) (small b)) (λ _ _. refl)

pub returns : goal.returns
returns c =
    let bytes = c.args.bytes.now in
    all_from_yields_List (λ b. leb b 1) _ _ _ c.all.ensures.ran (YieldsList-from_slice bytes cc) (λ x b q k. search (rules, tests)) ∙ all_small bytes
