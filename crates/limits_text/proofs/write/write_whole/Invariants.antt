use Rattle.limits_text.proofs.Writing.{WrittenPart}
use Rattle.limits_text.proofs.write.write_whole.Given as goal

-- the first `at` bytes are written
abbrev pub invariant-loop : goal.invariant-loop
invariant-loop g l = WrittenPart (g.W.Write.contents l.fn.out) (g.W.Write.contents l.out) l.bytes l.at
