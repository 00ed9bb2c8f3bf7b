use Rattle.std.proofs.Common.{sym}
use Rattle.model.specs.Mdp.{no_branch}
use Rattle.tables.proofs.Pages.{put_same, put_then, put_more, put_all}
use Rattle.tables.proofs.Pieces.{branch_text, choice_is}
use Rattle.tables.proofs.page.Page.choice.Goals as goal

pub loop-branch-preserved : goal.loop-branch-preserved
loop-branch-preserved c = put_more branch_text c.args.row.now c.loop-branch.branch-index no_branch c.loop-branch-test.true c.loop-branch.invariant c.pair.ensures

pub returns : goal.returns
returns c =
    put_same (sym (choice_is c.args.row.now)) (put_then c.bytes.ensures (put_all branch_text c.args.row.now c.loop-branch.branch-index c.loop-branch-test.false c.loop-branch.invariant))
