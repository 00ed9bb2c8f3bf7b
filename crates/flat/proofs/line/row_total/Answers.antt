use Rattle.std.proofs.Common.{◌≡◌, ◌+◌, get_or, drop, arith}
use Rattle.std.proofs.lemmas.List.{at_drop_more, at_drop_all}
use Rattle.model.specs.Mdp.{no_branch, total}
use Rattle.flat.proofs.line.row_total.Goals as goal

pub loop-branch-preserved : goal.loop-branch-preserved
loop-branch-preserved c =
    let row = c.args.row.now in
    let i = c.loop-branch.branch-index in
    let m : total (drop i row) ≡ (get_or row i no_branch).weight + total (drop (i + 1) row) = at_drop_more total row i no_branch c.loop-branch-test.true in
    (omega (arith, c.loop-branch.invariant.0), omega (arith, c.loop-branch.invariant.1))

pub returns : goal.returns
returns c =
    let none : total (drop c.loop-branch.branch-index c.args.row.now) ≡ 0 = at_drop_all total c.args.row.now c.loop-branch.branch-index c.loop-branch-test.false in
    omega (arith, c.loop-branch.invariant.0)
