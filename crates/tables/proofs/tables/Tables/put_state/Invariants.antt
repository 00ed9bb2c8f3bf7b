use Rattle.std.proofs.Common.{take}
use Rattle.std.specs.List.{flat_map}
use Rattle.text.specs.Contents.{model_of}
use Rattle.flat.specs.Flats.{content}
use Rattle.tables.specs.Pages.{Put}
use Rattle.tables.specs.Pages.{choice_text}
use Rattle.tables.proofs.tables.Tables.put_state.Given as goal

-- the lines of the choices before this one are put
abbrev pub invariant-loop-choice : goal.invariant-loop-choice
invariant-loop-choice l = Put (flat_map choice_text (take l.choice ((model_of (content l.self.kept)).choices l.state))) l.initial.page l.page
