use Rattle.std.proofs.Common.{refl, sym, ap, ◌∙◌, rules, get_or-take}
use Rattle.std.proofs.lemmas.Grind.{same_number_lists}
use Rattle.rules.specs.Parts.{units_of}
use Rattle.trial.specs.Queries.{marked}
use Rattle.trial.proofs.PathRows.{start_units}
use Rattle.trial.proofs.state.QueryState.begun.Goals as goal

pub returns : goal.returns
returns g c = let right = marked c.args.until.now.right.now in record {
  aimed = refl;
  no_rounds = refl;
  -- the marks at the front of the room are those given, state by state
  left_marks = sym (same_number_lists _ _ (search rules) (λ s h. let made = c.of.ensures 0 s h in sym (get_or-take _ _ s 0 h ∙ search rules)));
  right_marks = sym (same_number_lists _ _ (search rules) (λ s h. let made = c.of-2.ensures 0 s h in sym (get_or-take _ _ s 0 h ∙ search rules)));
  -- ends that have the parts of the start have its units
  lower = λ d s h. ap units_of (c.start_ends.ensures.lower d s h) ∙ start_units right s;
  upper = λ d s h. ap units_of (c.start_ends.ensures.upper d s h) ∙ start_units right s;
}
