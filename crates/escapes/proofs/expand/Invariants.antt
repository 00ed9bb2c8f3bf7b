use Rattle.std.proofs.Common.{◌≡◌}
use Rattle.std.specs.List.{flat_map}
use Rattle.escapes.specs.Escapes.{part}
use Rattle.escapes.proofs.expand.Given as goal

-- what the parts so far stand for is put
abbrev pub invariant-loop-part : goal.invariant-loop-part
invariant-loop-part l = l.out.items ≡ flat_map (λ p. part p.now) l.yielded
