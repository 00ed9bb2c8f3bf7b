use Rattle.std.proofs.Common.{take, vec_items}
use Rattle.rounds_text.proofs.Passing.{Passed}
use Rattle.rounds_text.proofs.values.values.Given as goal

-- the numbers so far stand for values, which are kept
abbrev pub invariant-loop-number : goal.invariant-loop-number
invariant-loop-number g l =
    let v = g.V.Numbered.numbering in
    Passed v.lawful v.value (take l.number-index l.numbers) (vec_items l.values)
