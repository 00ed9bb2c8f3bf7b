use Rattle.std.proofs.Common.{◌≡◌, ◌++◌}
use Rattle.std.specs.List.{repeat}
use Rattle.escapes.specs.Escapes.{piece}
use Rattle.escapes.proofs.repeats.push_repetition.Given as goal

-- the piece is put as often as the loop has run
abbrev pub invariant-loop : goal.invariant-loop
invariant-loop l = l.out.items ≡ l.initial.out.items ++ repeat l.counter (piece l.piece)
