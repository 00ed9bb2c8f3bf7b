use Rattle.std.proofs.Common.{◌≡◌, ◌-◌, eqb, [], take, string_bytes, IfOk, sym, ap, ◌∙◌, subst, arith}
use Rattle.std.proofs.lemmas.Bool.{cond-false, ne_eqb}
use Rattle.std.proofs.lemmas.List.{take_min}
use Rattle.text.specs.Cuts.{piece}
use Rattle.printing.specs.Carets.{marked, marked_fault, mark}
use Rattle.printing.proofs.caret.mark.Goals as goal

pub returns-in-Some : goal.returns-in-Some
returns-in-Some c =
    let n = c.args.number in
    let line = c.piece-line.result.now in
    let text = c.args.text.now in
    let below = rw c.in-Some.is at c.checked_sub.ensures in
    -- the line is cut after 100 bytes
    let front : take c.min.result line ≡ take 100 line = ap (λ k. take k line) (omega arith) ∙ take_min 100 line in
    -- and is the piece of the text with this number
    let found : line ≡ piece 10 (n - 1) text = c.piece-line.ensures ∙ ap (λ k. piece 10 k text) below.1 in
    let shown : marked c.caret_place.result (take c.min.result line) ≡ mark n c.args.at text =
    ap (λ p. marked p (take c.min.result line)) c.caret_place.ensures ∙ ap (marked_fault c.args.at) (front ∙ ap (take 100) found)
    ∙ sym (cond-false (eqb n 0) [] (marked_fault c.args.at (take 100 (piece 10 (n - 1) text))) (ne_eqb n 0 (λ e. omega arith))) in
    subst (λ t. IfOk c.marked.result (λ s. string_bytes s ≡ t)) shown c.marked.ensures
