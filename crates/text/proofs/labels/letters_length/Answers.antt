use Rattle.std.proofs.Common.{refl, sym, ap, ◌∙◌, rules, tests}
use Rattle.std.specs.List.{prefix_len}
use Rattle.std.proofs.lemmas.Fn.{always_returns_same}
use Rattle.std.proofs.lemmas.Iterator.{YieldsList-from_slice}
use Rattle.std.proofs.lemmas.Iterator.Consumers.{count_from_yields_List}
use Rattle.std.proofs.lemmas.Iterator.Search.{YieldsList-from_take_while}
use Rattle.std.proofs.lemmas.List.Folds.{length-prefix_len}
use Rattle.text.specs.Fields.{ascending, longest}
use Rattle.text.proofs.Letters.{letter, run_letters}
use Rattle.text.proofs.labels.letters_length.Goals as goal

-- what is counted are the letters in front of the first run
pub returns : goal.returns
returns c =
    let run = c.unwrap_or-ascending.result.now in
    count_from_yields_List c.take_while.result _ c.count.ensures.ran (YieldsList-from_take_while _ letter (YieldsList-from_slice run (cc)) c.take_while.ensures.closure c.take_while.ensures.done (λ x b q k. search (rules, tests)))
    ∙ length-prefix_len letter run
    ∙ ap (λ z. prefix_len letter z.now) c.unwrap_or-ascending.ensures
    ∙ sym (run_letters _ _ _ c.next.result _ c.next.ensures.steps (always_returns_same _ _ _ (λ a r f k. search (rules, tests))) refl)
    ∙ ap (longest (ascending 97)) c.chunk_by.ensures.rest
