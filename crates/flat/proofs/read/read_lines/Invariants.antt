use Rattle.std.proofs.Common.{◌≡◌, ◌++◌, [], ◌∷◌, eqb, length}
use Rattle.std.proofs.lemmas.Iterator.{YieldsList}
use Rattle.std.specs.List.{enumerate_from, slice_split}
use Rattle.text.specs.Cuts.{lines}
use Rattle.flat.proofs.Reading.{ReadTo}
use Rattle.flat.proofs.read.read_lines.Given as goal

-- as many lines are read as the loop has had parts, into the arrays that it began with
abbrev pub invariant-loop-i : goal.invariant-loop-i
invariant-loop-i l = record {
  read : ReadTo (lines (l.body ++ (10 ∷ []))) (length l.yielded) l.loader;
  same_reference : l.loader.flat.ghost_name ≡ l.initial.loader.flat.ghost_name;
  parts : YieldsList goal.iterator-loop-i.next_gives (λ p. (p.0, p.1.now)) l.initial.i-iterator (enumerate_from 0 (slice_split (λ b. eqb b 10) l.body));
}
