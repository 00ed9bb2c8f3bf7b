use Rattle.std.proofs.Common.{take}
use Rattle.grammar.specs.Words.{Stands}
use Rattle.formula.proofs.cursor.Cursor.expect_all.Given as goal

abbrev pub invariant-loop-byte : goal.invariant-loop-byte
invariant-loop-byte l = Stands (take l.byte-index l.word) l.self.text.now l.self.at l.at
