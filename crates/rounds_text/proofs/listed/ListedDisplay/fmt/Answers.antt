use Rattle.std.proofs.Common.{◌≡◌, ◌++◌, map, take, get_or, decimal, sym, rules, arith, ap, ap₂, ◌∙◌}
use Rattle.std.proofs.Output.{has_written_append, has_written_of_eq}
use Rattle.rounds_text.proofs.Joining.{comma, comma_later, numbers_more}
use Rattle.rounds_text.proofs.listed.ListedDisplay.fmt.Goals as goal
use Rattle.rounds_text.proofs.listed.ListedDisplay.fmt.Goals.{then-place-eq0, else-place-eq0}

-- one number more is written
pub loop-place-preserved : goal.loop-place-preserved
loop-place-preserved g c = λ plain.
    let number = g.V.Numbered.numbering.number in
    let place = c.loop-place.place in
    let before = c.loop-place.invariant plain in
    let after = c.in_ok-write.ensures.writes before.plain (search rules) in
    let lead : c.if-place-eq0.comma.now ≡ comma place = elim c.if-place-eq0.branch [
      | then-place-eq0 w ↦ ap (λ r. r.now) w.comma-is ∙ sym (ap comma w.if-place-eq0.true)
      | else-place-eq0 w ↦ ap (λ r. r.now) w.comma-is ∙ sym (comma_later place w.if-place-eq0.false)
    ] in
    let same = c.number-number.ensures ∙ ap number c.value-item.is in
    let more = numbers_more number c.args.self.now.values.now place c.value-item.result (omega arith) in
    has_written_of_eq _ _ _ _ _ (sym more) (has_written_append _ _ _ _ _ _ before (has_written_of_eq _ _ _ _ _ (ap₂ (λ t n. t ++ decimal n) lead same) after))
