use Rattle.std.proofs.Common.{eqb, length}
use Rattle.std.proofs.lemmas.Iterator.{YieldsList}
use Rattle.std.specs.List.{enumerate_from, slice_split}
use Rattle.calls_text.specs.Words.{text_lines}
use Rattle.calls_text.proofs.Reading.{ReadTo}
use Rattle.calls_text.proofs.read.read_lines.Given as goal

-- as many lines are read as the loop has had parts
abbrev pub invariant-loop-index : goal.invariant-loop-index
invariant-loop-index l = record {
  read : ReadTo l.states (text_lines l.text) (length l.yielded) l.script;
  parts : YieldsList goal.iterator-loop-index.next_gives (λ p. (p.0, p.1.now)) l.initial.index-iterator (enumerate_from 0 (slice_split (λ b. eqb b 10) l.text));
}
