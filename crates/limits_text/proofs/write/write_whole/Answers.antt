use Rattle.std.proofs.Common.{sym, subst}
use Rattle.limits_text.proofs.Writing.{WrittenPart, written_none, written_kept, written_more, written_all, written_front}
use Rattle.limits_text.proofs.write.write_whole.Goals as goal
use Rattle.limits_text.proofs.write.write_whole.Goals.{in-Ok, in-Err+else-ne}

-- no byte is written at first
pub loop-init : goal.loop-init
loop-init g c = written_none _ _

-- all bytes are
pub returns-then-at-bytes-clause-whole : goal.returns-then-at-bytes-clause-whole
returns-then-at-bytes-clause-whole g c = written_all c.loop.invariant c.if-at-bytes.true

-- a writer that takes no byte leaves a beginning
pub returns-in-Ok-eq0-clause-front : goal.returns-in-Ok-eq0-clause-front
returns-in-Ok-eq0-clause-front g c = written_front (written_more _ c.loop.invariant c.in-Ok-eq0.ensures.bound c.in-Ok-eq0.ensures.bytes)

-- so does an error
pub returns-then-ne-clause-front : goal.returns-then-ne-clause-front
returns-then-ne-clause-front g c = written_front (written_kept c.loop.invariant c.in-Err.ensures.bytes)

-- more is written, or a writer was interrupted, which wrote nothing
pub loop-preserved : goal.loop-preserved
loop-preserved g c =
    let part = WrittenPart (g.W.Write.contents c.args.out.now) (g.W.Write.contents c.write.new.self) c.args.bytes.now in
    elim c.match-write.branch [
      | in-Ok w ↦ subst part (sym w.at-is) (written_more _ c.loop.invariant w.in-Ok.ensures.bound w.in-Ok.ensures.bytes)
      | in-Err+else-ne w ↦ subst part (sym w.at-is) (written_kept c.loop.invariant w.in-Err.ensures.bytes)
    ]

-- and so do too many tries
pub returns-clause-front : goal.returns-clause-front
returns-clause-front g c = written_front c.loop.invariant
