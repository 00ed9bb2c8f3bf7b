use Rattle.std.proofs.Common.{take}
use Rattle.std.specs.List.{flat_map}
use Rattle.flat.specs.Flats.{content}
use Rattle.tables.specs.Pages.{Put}
use Rattle.tables.specs.Pages.{state_text}
use Rattle.tables.proofs.tables.Tables.put_text.Given as goal

-- the lines of the states before this one are put
abbrev pub invariant-loop-state : goal.invariant-loop-state
invariant-loop-state l = Put (flat_map state_text (take l.state (content l.self.kept).states)) l.initial.page l.page
