use Rattle.std.proofs.Common.{None, lit<, ap, ◌∙◌, ◌++◌}
use Rattle.escapes.specs.Escapes.{piece}
use Rattle.escapes.proofs.Parts.{cut_once, repeat_more, no_repetition}
use Rattle.escapes.proofs.repeats.push_repetition.Goals as goal

-- the piece is put once more
pub loop-preserved : goal.loop-preserved
loop-preserved c =
    let w = piece c.in-Some.piece.now in
    c.in_ok-push_piece.ensures ∙ ap (λ v. v ++ w) c.loop.invariant ∙ repeat_more c.loop.counter c.args.out.now.items w

-- there is no colon
pub returns-in_default : goal.returns-in_default
returns-in_default c = no_repetition c.args.text.now _ (cut_once 58 c.args.text.now None c.in_default.ensures.cases (lit< tt))
