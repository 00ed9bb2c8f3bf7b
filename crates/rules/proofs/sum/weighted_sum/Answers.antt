use Rattle.std.proofs.Common.{◌≡◌, ◌*◌, length, get_or, drop, refl, ap, arith, rules}
use Rattle.std.proofs.lemmas.List.{at_drop_all, get_or_default}
use Rattle.model.specs.Mdp.{no_branch}
use Rattle.rules.specs.declared.part.Part.{Part}
use Rattle.rules.specs.Parts.{units_of, part_of}
use Rattle.rules.proofs.Rows.{row_target}
use Rattle.rules.proofs.Sums.{summed, summed_bound, summed_more}
use Rattle.rules.proofs.sum.weighted_sum.Goals as goal

-- a part has itself
abbrev same : Part → Part
same p = p

pub offset_bounds-values-branch : goal.offset_bounds-values-branch
offset_bounds-values-branch c = search (rules, row_target)

pub bounds-values-branch : goal.bounds-values-branch
bounds-values-branch c = search (rules, row_target)

pub bounds-values-branch-in-loop-branch : goal.bounds-values-branch-in-loop-branch
bounds-values-branch-in-loop-branch c = search (rules, row_target)

pub overflow_add-sum : goal.overflow_add-sum
overflow_add-sum c =
    let row = c.args.row.now in
    let vs = c.args.values.now in
    let v = c.index-values-branch.result in
    let b = get_or row c.loop-branch.branch-index no_branch in
    let e = c.loop-branch.invariant v in
    let more = summed_more same vs v row c.loop-branch.branch-index c.loop-branch-test.true in
    let most = summed_bound same vs v (length vs) c.args.denominator.now.value row c.requires.lawful in
    let product : c.from.result * c.from-in-loop-branch.result ≡ b.weight * units_of (get_or vs b.target v) = rw (c.from.ensures, c.from-in-loop-branch.ensures) refl in
    omega arith

pub loop-branch-preserved : goal.loop-branch-preserved
loop-branch-preserved c d =
    let row = c.args.row.now in
    let vs = c.args.values.now in
    let i = c.loop-branch.branch-index in
    let b = get_or row i no_branch in
    let e = c.loop-branch.invariant d in
    let more = summed_more same vs d row i c.loop-branch-test.true in
    let t = row_target (length vs) c.args.denominator.now.value row i c.requires.lawful c.loop-branch-test.true in
    let product : c.from.result * c.from-in-loop-branch.result ≡ b.weight * units_of (get_or vs b.target c.index-values-branch.result) = rw (c.from.ensures, c.from-in-loop-branch.ensures) refl in
    omega (arith, ap (λ (p : Part). b.weight * units_of p) (get_or_default vs b.target d c.index-values-branch.result t))

pub returns : goal.returns
returns c =
    let row = c.args.row.now in
    let vs = c.args.values.now in
    let i = c.loop-branch.branch-index in
    let none : (d : Part) → summed same vs d (drop i row) ≡ 0 = λ d. at_drop_all (summed same vs d) row i c.loop-branch-test.false in
    let zero = part_of 0 in
    record {
      sum = λ d. omega (arith, c.loop-branch.invariant d, none d);
      bound = omega (arith, c.loop-branch.invariant zero, none zero, summed_bound same vs zero (length vs) c.args.denominator.now.value row c.requires.lawful);
    }
