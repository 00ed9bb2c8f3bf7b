use Rattle.std.proofs.Common.{◌≡◌, ◌++◌, IfOk, None, Some, lit<, ap, ◌∙◌, subst}
use Rattle.escapes.specs.Escapes.{piece}
use Rattle.escapes.proofs.Parts.{cut_once, part_cut, part_whole}
use Rattle.escapes.proofs.repeats.push_part.Goals as goal

-- a repetition and a piece are put
pub returns-in_ok-push_repetition-in-Some : goal.returns-in_ok-push_repetition-in-Some
returns-in_ok-push_repetition-in-Some c =
    let text = c.args.text.now in
    let out = c.args.out.now.items in
    let front = c.in-Some.repetition in
    let back = c.in-Some.piece in
    let cut = cut_once 125 text (Some (front, back)) c.in-Some.ensures.cases (lit< tt) in
    subst (λ v. IfOk c.push_piece.result (λ _. c.push_piece.new.out.items ≡ v))
    (ap (λ v. v ++ piece back.now) c.in_ok-push_repetition-in-Some.ensures ∙ part_cut text out front.now back.now cut)
    c.push_piece.ensures

-- there is no brace, and a piece is put
pub returns-in-None : goal.returns-in-None
returns-in-None c =
    let text = c.args.text.now in
    let whole = part_whole text (cut_once 125 text None c.in-None.ensures.cases (lit< tt)) in
    subst (λ v. IfOk c.push_piece-in-None.result (λ _. c.push_piece-in-None.new.out.items ≡ c.args.out.now.items ++ v)) whole c.push_piece-in-None.ensures
