-- Calls that are not played yet.
use Rattle.std.specs.Prelude.{Bool, is_none}
use Rattle.replay.specs.declared.call.Call.{Call}
use Rattle.replay.specs.declared.call.Call.TheVariants.{Start, Advance, Ends, Verdict, Judge}

-- has the call no answer yet?
abbrev pub unplayed : Call → Bool
unplayed (Start left right aim answer) = is_none answer
unplayed (Advance count answer) = is_none answer
unplayed (Ends state answer) = is_none answer
unplayed (Verdict state comparison bound answer) = is_none answer
unplayed (Judge text records scratch out answer) = is_none answer
