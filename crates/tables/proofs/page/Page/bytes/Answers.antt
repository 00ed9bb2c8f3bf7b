use Rattle.std.proofs.Common.{sym}
use Rattle.std.proofs.lemmas.List.{take_more}
use Rattle.tables.proofs.Pages.{put_same, put_then}
use Rattle.tables.proofs.page.Page.bytes.Goals as goal

pub loop-byte-preserved : goal.loop-byte-preserved
loop-byte-preserved c =
    put_same (sym (take_more c.args.bytes.now c.loop-byte.byte-index 0 c.loop-byte-test.true)) (put_then c.loop-byte.invariant c.byte.ensures)
