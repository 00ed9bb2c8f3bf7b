use Rattle.std.proofs.Common.{map, take}
use Rattle.std.specs.Fmt.{HasWritten, IsPlainFormatter}
use Rattle.rounds_text.specs.Requests.{numbers_text}
use Rattle.rounds_text.proofs.listed.ListedDisplay.fmt.Given as goal

-- the numbers so far are written
abbrev pub invariant-loop-place : goal.invariant-loop-place
invariant-loop-place g l =
    IsPlainFormatter l.initial.f → HasWritten g.W.Write.write_str_gives l.initial.f (numbers_text (map g.V.Numbered.numbering.number (take l.place l.value-items))) l.f
