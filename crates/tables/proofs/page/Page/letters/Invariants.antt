use Rattle.std.proofs.Common.{take}
use Rattle.text.specs.Fields.{letters_from}
use Rattle.tables.specs.Pages.{Put}
use Rattle.tables.proofs.page.Page.letters.Given as goal

-- the letters of the flags before this one are put
abbrev pub invariant-loop-i : goal.invariant-loop-i
invariant-loop-i l = Put (letters_from 97 (take l.i l.labels.letters)) l.initial.self l.self
