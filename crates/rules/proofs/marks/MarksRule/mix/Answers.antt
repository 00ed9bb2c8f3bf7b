use Rattle.std.proofs.Common.{◌≡◌, ℕ, ◌<◌, Bool, false, List, [], ◌∷◌, length, get_or, refl, ◌∙◌, ◌+◌, rules, tests}
use Rattle.std.specs.List.{list_any}
use Rattle.std.proofs.lemmas.List.{get_or_default}
use Rattle.std.proofs.lemmas.Iterator.{YieldsList-from_slice}
use Rattle.std.proofs.lemmas.Iterator.Search.{any_from_yields_List}
use Rattle.std.proofs.lemmas.Iterator.Adapters.{serves_from_places}
use Rattle.model.specs.Mdp.{Row, Ascends, no_branch}
use Rattle.model.specs.declared.branch.Branch.{Branch}
use Rattle.theory.specs.Rules.{valued}
use Rattle.theory.specs.Mixes.{mix_marks}
use Rattle.rules.specs.Values.{told}
use Rattle.rules.proofs.Rows.{row_target}
use Rattle.rules.proofs.marks.MarksRule.mix.Goals as goal

-- some branch of a row is marked if the mix of its marks is yes
any_marked : (u low : ℕ) (vs : List Bool) (d : Bool) (r : Row) → Ascends (length vs) low r → list_any (λ (b : Branch). get_or vs b.target false) r ≡ mix_marks u (valued (told vs d) r)
any_marked u low vs d [] a = refl
any_marked u low vs d (b ∷ bs) a = rw (get_or_default vs b.target false d a.1, any_marked u (b.target + 1) vs d bs a.3)

pub any-requires-clause-callable : goal.any-requires-clause-callable
any-requires-clause-callable c =
    let row = c.args.row.now in
    let vs = c.args.values.now in
    serves_from_places (YieldsList-from_slice row (cc)) (λ x q e. search rules) (λ x k h e.
    let bound : x.now.target < length vs = rw (e ∙ get_or_default row k x.now no_branch h) (row_target (length vs) c.args._denominator.now.value row k c.requires.lawful h) in
    search rules)

pub returns : goal.returns
returns c d =
    any_from_yields_List (λ (b : Branch). get_or c.args.values.now b.target false) _ _ _ c.any.ensures.ran (YieldsList-from_slice c.args.row.now (cc)) (λ x b q k. search (rules, tests))
    ∙ any_marked c.args._denominator.now.value 0 c.args.values.now d c.args.row.now c.requires.lawful.ascends
