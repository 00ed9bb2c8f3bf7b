use Rattle.std.proofs.Common.{◌≡◌, ◌++◌, drop, string_bytes}
use Rattle.calls_text.specs.RecordTexts.{record_lines}
use Rattle.calls_text.proofs.record_text.record_lines.Given as goal

-- the lines so far, and those of what is left, are those of all
abbrev pub invariant-loop-index : goal.invariant-loop-index
invariant-loop-index l = string_bytes l.text ++ record_lines l.states l.index (drop l.index l.records) l.rest ≡ record_lines l.states 0 l.records l.scratch
