use Rattle.std.proofs.Common.{[], string_bytes}
use Rattle.printing.specs.Layouts.{laid_state, model_content}
use Rattle.printing.proofs.Laying.{Left}
use Rattle.printing.proofs.lay.Laid.states.Given as goal

abbrev pub invariant-loop-state : goal.invariant-loop-state
invariant-loop-state g l = Left (laid_state (g.L.Style.layout l.self.style)) [] (model_content (g.S.Source.model l.self.source.now)).states (string_bytes l.out) l.state
