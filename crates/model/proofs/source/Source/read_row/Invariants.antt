use Rattle.std.proofs.Common.{◌≡◌, ◌++◌, take, drop}
use Rattle.model.specs.Mdp.{row}
use Rattle.model.proofs.source.Source.read_row.Given as goal

-- the first i branches are copied
abbrev pub invariant-loop-i : goal.invariant-loop-i
invariant-loop-i g l = l.branch-items ≡ take l.i (row (g.Self.Source.model l.self) l.state l.choice) ++ drop l.i l.initial.branch-items
