use Rattle.std.proofs.Common.{◌≡◌, ◌<◌, true, false, cond, eqb, [], List, ℕ, map, length, get_or, Some, None, sym, refl, ap, ◌∙◌, rules, arith}
use borrow.Author.Tests.{tests}
use Rattle.std.specs.List.{list_all, slice_split}
use Rattle.std.proofs.lemmas.Bool.{cond-true, cond-false}
use Rattle.std.proofs.lemmas.Iterator.Consumers.{YieldsList-at, YieldsList-turn, YieldsList-end}
use Rattle.std.proofs.lemmas.Iterator.Splits.{YieldsList-from_slice_split}
use Rattle.text.proofs.Cutting.{split_pieces}
use Rattle.rounds_text.proofs.Passing.{stopped, finished}
use Rattle.rounds_text.proofs.given.numbers.Goals as goal

-- no piece is read, and the loop's parts are the pieces
pub loop-piece-init : goal.loop-piece-init
loop-piece-init c = record {
  passed = record { lawful = refl; same = c.new-numbers.ensures.items };
  parts = YieldsList-at c.into_iter-piece-iterator.ensures.into_iter_gives (YieldsList-from_slice_split _ (λ b. eqb b 44) c.args.word.now c.split-piece-items.ensures.rest c.split-piece-items.ensures.done c.split-piece-items.ensures.closure (λ x r q k. search (rules, tests)));
}

-- a piece is no number
pub returns-in_default : goal.returns-in_default
returns-in_default c =
    let word = c.args.word.now in
    let turn = YieldsList-turn c.loop-piece.invariant.parts c.loop-piece.yielded _ c.loop-piece.yielded_by _ _ _ c.in-Some.is c.next.ensures.steps in
    let read = c.in_default.ensures in
    rw (← split_pieces 44 word) (stopped _ _ _ _ _ turn.0 turn.1 read)

-- all pieces are numbers
pub returns : goal.returns
returns c =
    let word = c.args.word.now in
    let all = YieldsList-end c.loop-piece.invariant.parts c.loop-piece.yielded _ c.loop-piece.yielded_by _ _ c.in-None.is c.next.ensures.steps in
    rw (← split_pieces 44 word) (finished _ _ _ _ _ all.0 c.loop-piece.invariant.passed)
