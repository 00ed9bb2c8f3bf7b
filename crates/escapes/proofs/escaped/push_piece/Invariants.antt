use Rattle.std.proofs.Common.{◌≡◌, ◌++◌, List, ℕ}
use Rattle.std.specs.List.{flat_map}
use Rattle.std.proofs.lemmas.Iterator.{YieldsList}
use Rattle.escapes.specs.Escapes.{escape, piece}
use Rattle.escapes.proofs.escaped.push_piece.Given as goal

-- what the parts so far stand for is put, and the parts are those behind the first
abbrev pub invariant-loop-part : goal.invariant-loop-part
invariant-loop-part l = record {
  put : l.out.items ≡ l.initial.out.items ++ flat_map (λ p. escape p.now) l.yielded;
  parts : (later : List (List ℕ)) × YieldsList goal.iterator-loop-part.next_gives (λ p. p.now) l.initial.part-iterator later × (l.initial.out.items ++ flat_map escape later ≡ l.fn.out.items ++ piece l.text);
}
