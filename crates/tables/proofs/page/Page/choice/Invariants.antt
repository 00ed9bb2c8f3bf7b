use Rattle.std.proofs.Common.{take}
use Rattle.std.specs.List.{flat_map}
use Rattle.tables.specs.Pages.{Put}
use Rattle.tables.proofs.Pieces.{branch_text}
use Rattle.tables.proofs.page.Page.choice.Given as goal

-- the lines of the branches before this one are put
abbrev pub invariant-loop-branch : goal.invariant-loop-branch
invariant-loop-branch l = Put (flat_map branch_text (take l.branch-index l.row)) l.initial.self l.self
