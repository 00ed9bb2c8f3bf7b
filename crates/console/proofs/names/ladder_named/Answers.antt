use Rattle.std.proofs.Common.{◌≡◌, None, sym, ap, ◌∙◌}
use Rattle.console.specs.Commands.{number_of, ladder_of}
use Rattle.console.proofs.Parts.{one_part, two_parts, three_parts, no_second, no_third}
use Rattle.console.proofs.names.ladder_named.Goals as goal

-- there is no colon
pub returns-in_err-rungs : goal.returns-in_err-rungs
returns-in_err-rungs c = c.from_residual.ensures ∙ one_part c.args.numbers.now c.in_err-rungs.ensures.cases

-- there is one
pub returns-in_err-denominator : goal.returns-in_err-denominator
returns-in_err-denominator c = c.from_residual-in_err-denominator.ensures ∙ two_parts c.args.numbers.now (c.in_ok-rungs.rungs, c.in_ok-rungs.rest) c.in_ok-rungs.ensures.cases c.in_err-denominator.ensures.cases

-- there are two, and what they part is named, if each is a number
pub returns-in_err-number_of : goal.returns-in_err-number_of
returns-in_err-number_of c =
    let denominator = c.in_ok-denominator.denominator in
    let weight = c.in_ok-denominator.weight in
    let named = three_parts c.args.numbers.now (c.in_ok-rungs.rungs, c.in_ok-rungs.rest) (denominator, weight) c.in_ok-rungs.ensures.cases c.in_ok-denominator.ensures.cases in
    let none : number_of c.in_ok-rungs.rungs.now ≡ None = sym c.number_of.ensures ∙ c.in_err-number_of.was in
    c.from_residual-in_err-number_of.ensures ∙ sym (named ∙ ap (λ r. ladder_of r (number_of denominator.now) (number_of weight.now)) none)

pub returns-in_err-number_of-2 : goal.returns-in_err-number_of-2
returns-in_err-number_of-2 c =
    let rungs = c.in_ok-rungs.rungs in
    let denominator = c.in_ok-denominator.denominator in
    let weight = c.in_ok-denominator.weight in
    let named = three_parts c.args.numbers.now (rungs, c.in_ok-rungs.rest) (denominator, weight) c.in_ok-rungs.ensures.cases c.in_ok-denominator.ensures.cases in
    let none : number_of denominator.now ≡ None = sym c.number_of-2.ensures ∙ c.in_err-number_of-2.was in
    c.from_residual-in_err-number_of-2.ensures ∙ sym (named ∙ ap (λ d. ladder_of (number_of rungs.now) d (number_of weight.now)) none ∙ no_second (number_of rungs.now) (number_of weight.now))

pub returns-in_err-number_of-3 : goal.returns-in_err-number_of-3
returns-in_err-number_of-3 c =
    let rungs = c.in_ok-rungs.rungs in
    let denominator = c.in_ok-denominator.denominator in
    let weight = c.in_ok-denominator.weight in
    let named = three_parts c.args.numbers.now (rungs, c.in_ok-rungs.rest) (denominator, weight) c.in_ok-rungs.ensures.cases c.in_ok-denominator.ensures.cases in
    let none : number_of weight.now ≡ None = sym c.number_of-3.ensures ∙ c.in_err-number_of-3.was in
    c.from_residual-in_err-number_of-3.ensures ∙ sym (named ∙ ap (ladder_of (number_of rungs.now) (number_of denominator.now)) none ∙ no_third (number_of rungs.now) (number_of denominator.now))

-- all are
pub returns : goal.returns
returns c =
    let named = three_parts c.args.numbers.now (c.in_ok-rungs.rungs, c.in_ok-rungs.rest) (c.in_ok-denominator.denominator, c.in_ok-denominator.weight) c.in_ok-rungs.ensures.cases c.in_ok-denominator.ensures.cases in
    let rungs = sym c.number_of.ensures ∙ c.in_ok-number_of.was in
    let denominator = sym c.number_of-2.ensures ∙ c.in_ok-number_of-2.was in
    let weight = sym c.number_of-3.ensures ∙ c.in_ok-number_of-3.was in
    sym (named ∙ (λ i. ladder_of (rungs i) (denominator i) (weight i)))
