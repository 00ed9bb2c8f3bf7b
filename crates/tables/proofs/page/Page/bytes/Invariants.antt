use Rattle.std.proofs.Common.{take}
use Rattle.tables.specs.Pages.{Put}
use Rattle.tables.proofs.page.Page.bytes.Given as goal

-- the bytes before this one are put
abbrev pub invariant-loop-byte : goal.invariant-loop-byte
invariant-loop-byte l = Put (take l.byte-index l.bytes) l.initial.self l.self
