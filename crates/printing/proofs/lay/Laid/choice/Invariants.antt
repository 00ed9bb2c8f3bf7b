use Rattle.std.proofs.Common.{string_bytes}
use Rattle.model.specs.Mdp.{row}
use Rattle.printing.proofs.Laying.{Left}
use Rattle.printing.proofs.lay.Laid.choice.Given as goal

abbrev pub invariant-loop-index : goal.invariant-loop-index
invariant-loop-index g l =
    let layout = g.L.Style.layout l.self.style in
    Left layout.branch (layout.choice l.choice) (row (g.S.Source.model l.self.source.now) l.state l.choice) (string_bytes l.out) l.index
