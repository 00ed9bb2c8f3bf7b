use Rattle.std.proofs.Common.{[], ◌∷◌, ◌∙◌, rules, tests}
use Rattle.std.proofs.lemmas.Iterator.{YieldsList-from_slice}
use Rattle.std.proofs.lemmas.Iterator.Search.{find_from_yields_List}
use Rattle.records.specs.declared.comparison.Comparison.TheVariants.{Below, AtMost, Above, AtLeast}
use Rattle.grammar.specs.Spelling.{sign}
use Rattle.formula.specs.Tokens.{meant}
use Rattle.text.specs.Words.{same}
use Rattle.calls_text.proofs.Spellings.{compared}
use Rattle.calls_text.proofs.signs.comparison_of.Goals as goal

-- `find` finds the first comparison that the word writes
pub returns : goal.returns
returns c =
    c.copied.ensures
    ∙ find_from_yields_List (λ k. same c.args.word.now (sign (meant k))) _ _ c.find.result c.find.ensures.ran (YieldsList-from_slice (Below ∷ AtMost ∷ Above ∷ AtLeast ∷ []) c.iter.ensures.rest) (λ x b q k. search (rules, tests, compared))
