use Rattle.std.proofs.Common.{◌≡◌, Some, ℕ, ◌+◌, ◌<◌, List, [], ◌∷◌, length, get_or, refl, ap, ◌∙◌, arith, rules, tests}
use Rattle.std.specs.List.{fold}
use Rattle.std.specs.Ordering.{ord_min, ordering_then, nat_cmp}
use Rattle.std.proofs.lemmas.List.{get_or_default}
use Rattle.std.proofs.lemmas.Iterator.{YieldsList-from_slice}
use Rattle.std.proofs.lemmas.Iterator.Consumers.{YieldsList-turn, fold_from_yields_List}
use Rattle.std.proofs.iter.Yields.{serves_by}
use Rattle.model.specs.Mdp.{Row, Ascends, no_branch}
use Rattle.model.specs.declared.branch.Branch.{Branch}
use Rattle.theory.specs.Rules.{valued}
use Rattle.rules.specs.Values.{told}
use Rattle.rules.proofs.Rows.{row_target}
use Rattle.pairs.specs.Pairs.{least_from, lesser_of, greatest}
use Rattle.pairs.proofs.rule.PairsRule.mix.Goals as goal

-- the minimum by the order of pairs
abbrev minimum : ℕ × ℕ → ℕ × ℕ → ℕ × ℕ
minimum a b = ord_min (λ (x y : ℕ × ℕ). ordering_then (nat_cmp x.0 y.0) (nat_cmp x.1 y.1)) a b

-- it is the lesser of the two
min_is_lesser : (a b : ℕ × ℕ) → minimum a b ≡ lesser_of a b
min_is_lesser a b = grind arith

-- folding the minimum over the pairs of a row gives its least pair
fold_least : (vs : List (ℕ × ℕ)) (d e : ℕ × ℕ) (low : ℕ) (x : ℕ × ℕ) (r : Row) → Ascends (length vs) low r →
    fold (λ (y : ℕ × ℕ) (b : Branch). minimum y (get_or vs b.target e)) x r ≡ least_from x (valued (told vs d) r)
fold_least vs d e low x [] a = refl
fold_least vs d e low x (b ∷ bs) a =
    ap (λ (y : ℕ × ℕ). fold (λ (z : ℕ × ℕ) (c : Branch). minimum z (get_or vs c.target e)) y bs) (min_is_lesser x _ ∙ ap (lesser_of x) (get_or_default vs b.target e d a.1))
    ∙ fold_least vs d e (b.target + 1) (lesser_of x (get_or vs b.target d)) bs a.3

pub fold-requires-clause-callable : goal.fold-requires-clause-callable
fold-requires-clause-callable c =
    let row = c.args.row.now in
    let vs = c.args.values.now in
    let road = YieldsList-from_slice {s = c.iter.result} row c.iter.ensures.rest in
    serves_by _ (λ xs q. q.0.0.now ≡ vs) (λ xs q x w j r. search rules) _ _ _ _ refl (λ xs t q x u y e j.
    let m = YieldsList-turn road xs t y (Some x) u x refl e in
    let bound : x.now.target < length vs = rw (m.1 ∙ get_or_default row (length xs) x.now no_branch m.0) (row_target (length vs) c.args._denominator.now.value row (length xs) c.requires.lawful m.0) in
    let held : x.now.target < length q.0.0.now = rw j bound in
    search rules)

pub returns : goal.returns
returns c d =
    let vs = c.args.values.now in
    let h : ℕ × ℕ → Branch → ℕ × ℕ = λ y b. minimum y (get_or vs b.target (0, 0)) in
    fold_from_yields_List _ h greatest _ c.fold.ensures.ran (YieldsList-from_slice c.args.row.now c.iter.ensures.rest) (λ a x b q k. search (rules, tests))
    ∙ fold_least vs d (0, 0) 0 greatest c.args.row.now c.requires.lawful.ascends
