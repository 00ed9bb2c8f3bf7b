use Rattle.std.proofs.Common.{◌<◌, length, arith, length-take}
use Rattle.model.specs.declared.branch.Branch.{Branch}
use Rattle.model.specs.Mdp.{row, no_branch}
use Rattle.model.proofs.Copies.{copy_more}
use Rattle.model.proofs.source.Source.read_row.Goals as goal

-- branch i is copied to place i of the front
pub loop-i-preserved : goal.loop-i-preserved
loop-i-preserved g c =
    let r = row (g.Self.Source.model c.args.self.now) c.args.state c.args.choice in
    let there : c.loop-i.i < length r = omega (arith, length-take {A = Branch}) in
    copy_more _ r c.loop-i.branch-items c.loop-i.i no_branch c.branch-branch.result there c.loop-i-test.true c.loop-i.invariant c.branch-branch.ensures
