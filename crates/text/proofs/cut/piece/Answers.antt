use Rattle.std.proofs.Common.{◌≡◌, ℕ, eqb, List, [], get_or, None, Some, Option, Bor, refl, ap, ◌∙◌, rules, tests}
use Rattle.std.specs.Option.{unwrap_or, option_map}
use Rattle.std.proofs.lemmas.Option.{unwrap_or-slice_get}
use Rattle.std.proofs.lemmas.Iterator.Consumers.{nth_from_yields_List}
use Rattle.std.proofs.lemmas.Iterator.Splits.{YieldsList-from_slice_split}
use Rattle.text.proofs.Cutting.{split_pieces}
use Rattle.text.proofs.cut.piece.Goals as goal

-- what a reference or another lends is what the one lends, or else the other
lent : (o : Option (Bor (List ℕ))) (d : Bor (List ℕ)) → (unwrap_or o d).now ≡ unwrap_or (option_map (λ x. x.now) o) d.now
lent None d = refl
lent (Some x) d = refl

-- `split` gives the pieces, and `nth` the one that is asked for
pub returns : goal.returns
returns c =
    let sep = c.args.sep in
    let bytes = c.args.bytes.now in
    ap (λ p. p.now) c.unwrap_or.ensures
    ∙ lent c.nth.result _
    ∙ ap (λ p. unwrap_or p [])
    (nth_from_yields_List c.nth.result _ c.args.index c.nth.ensures.ran (YieldsList-from_slice_split _ (λ b. eqb b sep) bytes c.split.ensures.rest c.split.ensures.done c.split.ensures.closure (λ x b q k. search (rules, tests))))
    ∙ unwrap_or-slice_get _ c.args.index []
    ∙ ap (λ ps. get_or ps c.args.index []) (split_pieces sep bytes)
