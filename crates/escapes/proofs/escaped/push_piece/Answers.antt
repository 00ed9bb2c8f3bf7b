use Rattle.std.proofs.Common.{◌<◌, length, eqb, ap, sym, ◌∙◌, lit<, ◌++◌, append-nil, arith}
use Rattle.std.specs.List.{slice_split}
use Rattle.std.proofs.lemmas.Grind.{common_steps}
use Rattle.std.proofs.lemmas.List.Splits.{length-slice_split}
use Rattle.std.proofs.lemmas.Iterator.Consumers.{YieldsList-at}
use Rattle.std.proofs.lemmas.Iterator.Splits.{YieldsList-from_str_split}
use Rattle.escapes.specs.Escapes.{escape}
use Rattle.escapes.proofs.Parts.{all_parts, some_part, first_part}
use Rattle.escapes.proofs.escaped.push_piece.Goals as goal
use Rattle.escapes.proofs.escaped.push_piece.Goals.{in-Some+in_ok-extend_from_slice, in_default}

-- the first part is put, and the loop has the later ones to go
pub loop-part-init : goal.loop-part-init
loop-part-init c =
    let text = c.args.text.now in
    let some : 0 < length (slice_split (λ b. eqb b 92) text) = omega (arith, length-slice_split (λ b. eqb b 92) text) in
    let each = YieldsList-from_str_split 92 text (lit< tt) c.split-parts.ensures.text c.split-parts.ensures.has_more c.split-parts.ensures.pattern in
    record {
      put = sym (append-nil _);
      parts = elim c.match-next.branch [
        | in-Some+in_ok-extend_from_slice w ↦
            let first = first_part _ some each _ _ c.next.ensures.steps w.in-Some.first w.in-Some.is in
            let items = w.in_ok-extend_from_slice.ensures.items in
            let bytes = w.as_bytes.ensures.value in
            let is = w.out-is in
            let all = first.2 in
            (first.0, YieldsList-at c.into_iter-part-iterator.ensures.into_iter_gives first.1, grind (arith, common_steps))
        | in_default w ↦ absurd (some_part _ some each _ _ c.next.ensures.steps w.in_default.is)
      ];
    }

-- all later parts are put
pub returns : goal.returns
returns c =
    let k = c.loop-part.invariant in
    k.put ∙ ap (λ w. c.match-next.out.items ++ w) (all_parts escape _ k.parts.1 c.loop-part.yielded _ c.loop-part.yielded_by _ _ c.in-None.is c.next-in-loop-part.ensures.steps) ∙ k.parts.2
