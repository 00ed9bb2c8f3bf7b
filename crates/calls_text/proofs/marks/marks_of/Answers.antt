use Rattle.std.proofs.Common.{◌≡◌, ◌-◌, map, arith, rules, tests, vec_items}
use Rattle.std.specs.Char.{is_ascii_digit}
use Rattle.std.specs.List.{list_all}
use Rattle.std.proofs.lemmas.Bool.Decides.{nat_tests}
use Rattle.std.proofs.lemmas.Iterator.{YieldsList-from_slice, YieldsList-from_map, items_from_collect}
use Rattle.std.proofs.lemmas.Iterator.Search.{all_from_yields_List}
use Rattle.std.proofs.lemmas.Result.{IfOk-at_ok}
use Rattle.calls_text.proofs.Spellings.{compared}
use Rattle.calls_text.proofs.marks.marks_of.Goals as goal

-- a word with a byte that is no digit writes no marks
pub returns-then-not-all : goal.returns-then-not-all
returns-then-not-all c =
    let w = c.args.word.now in
    let digits : c.all.result ≡ list_all is_ascii_digit w = all_from_yields_List is_ascii_digit _ _ c.all.result c.all.ensures.ran (YieldsList-from_slice w cc) (λ x b q k. search (rules, tests)) in
    grind (arith, nat_tests, compared)

-- digits write what each stands for
pub returns : goal.returns
returns c =
    let w = c.args.word.now in
    let digits : c.all.result ≡ list_all is_ascii_digit w = all_from_yields_List is_ascii_digit _ _ c.all.result c.all.ensures.ran (YieldsList-from_slice w cc) (λ x b q k. search (rules, tests)) in
    let made : vec_items c.in_ok-marks.marks ≡ map (λ b. b - 48) w = IfOk-at_ok _ c.in_ok-marks.was (items_from_collect _ c.collect.ensures.ran (YieldsList-from_map _ (λ b. b - 48) (YieldsList-from_slice w cc) c.map.ensures.closure (λ x r q k. search rules))) in
    grind (arith, nat_tests, compared)
