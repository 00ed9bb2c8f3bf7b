use Rattle.std.proofs.Common.{eqb, map, vec_items}
use Rattle.std.specs.List.{slice_split}
use Rattle.std.proofs.lemmas.Iterator.{YieldsList}
use Rattle.text.specs.Fields.{numeral, amount}
use Rattle.rounds_text.proofs.Passing.{Passed}
use Rattle.rounds_text.proofs.given.numbers.Given as goal

-- the pieces so far are numbers, which are kept
abbrev pub invariant-loop-piece : goal.invariant-loop-piece
invariant-loop-piece l = record {
  passed : Passed (numeral 10) amount (map (λ p. p.now) l.yielded) (vec_items l.numbers);
  parts : YieldsList goal.iterator-loop-piece.next_gives (λ p. p.now) l.initial.piece-iterator (slice_split (λ b. eqb b 44) l.word);
}
