use Rattle.std.proofs.Common.{◌≡◌, None, Some, Option, Bor, sym, ap, ◌∙◌, subst}
use Rattle.std.specs.Option.{option_map}
use Rattle.trial.specs.declared.two_ends.Ends.{Ends}
use Rattle.trial.specs.PathEnds.{Told}
use Rattle.limits_text.proofs.Units.{both, units_found}
use Rattle.limits_text.proofs.table.units_at.Goals as goal

pub returns-in_err-lower : goal.returns-in_err-lower
returns-in_err-lower c = λ n two told h.
    let found = units_found n two c.in_ok-ends.field-0.now c.args.state c.at.result (subst (λ (e : Option (Bor Ends)). Told n two (option_map (λ x. x.now) e)) c.in_ok-ends.was told) h c.at.ensures in
    let none : c.at.result ≡ None = c.in_err-lower.was in
    c.from_residual-in_err-lower.ensures ∙ sym (ap both none) ∙ found

pub returns : goal.returns
returns c = λ n two told h.
    let found = units_found n two c.in_ok-ends.field-0.now c.args.state c.at.result (subst (λ (e : Option (Bor Ends)). Told n two (option_map (λ x. x.now) e)) c.in_ok-ends.was told) h c.at.ensures in
    let some : c.at.result ≡ Some (c.in_ok-lower.lower, c.in_ok-lower.upper) = c.in_ok-lower.was in
    ap (λ k. Some (k, c.units-2.result)) c.units.ensures ∙ ap (λ k. Some (c.in_ok-lower.lower.units, k)) c.units-2.ensures ∙ sym (ap both some) ∙ found
