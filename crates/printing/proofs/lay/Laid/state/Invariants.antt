use Rattle.std.proofs.Common.{string_bytes}
use Rattle.printing.specs.Layouts.{laid_choice}
use Rattle.printing.proofs.Laying.{Left}
use Rattle.printing.proofs.lay.Laid.state.Given as goal

abbrev pub invariant-loop-choice : goal.invariant-loop-choice
invariant-loop-choice g l =
    let layout = g.L.Style.layout l.self.style in
    let m = g.S.Source.model l.self.source.now in
    Left (laid_choice layout) (layout.state l.state (m.labels l.state)) (m.choices l.state) (string_bytes l.out) l.choice
