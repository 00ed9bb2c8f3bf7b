use Rattle.std.proofs.Common.{length, take, ap, ◌∙◌, arith}
use Rattle.theory.specs.Ends.{next_lower, next_upper}
use Rattle.theory.specs.Mixes.{mix_up}
use Rattle.theory.proofs.Alike.{next_alike}
use Rattle.rules.specs.declared.rounding.Rounding.TheVariants.{Down, Up}
use Rattle.rules.specs.Parts.{prefers_number}
use Rattle.rules.specs.PartsLemmas.{numbers_lawful}
use Rattle.trial.specs.Aims.{preference_of, aim_for}
use Rattle.trial.specs.Queries.{marked}
use Rattle.trial.specs.Rows.{sets}
use Rattle.trial.proofs.PathRows.{marked_front, ends_units, asked_for}
use Rattle.trial.proofs.path_ends.next_ends.Goals as goal

pub returns : goal.returns
returns g c =
    let x = c.args.source.now in
    let m = g.S.Source.model x in
    let l = g.S.Source.lawful x in
    let part = c.args.part.now in
    let v = sets part in
    let p = preference_of (aim_for c.args.comparison) in
    let marks = c.possible_marks-possible.result.values in
    let possible = marked (take (length part) marks) in
    let long = c.requires in
    record {
      so_many = long;
      lower = λ d s h. ends_units c.rule.result Down p c.rule.ensures.rounding (c.rule.ensures.preference ∙ ap preference_of c.from-aim.ensures) m l v.sure 1 s h _ (c.ends_after-lower.ensures d s h)
          ∙ ap (λ q. next_lower q v.sure m s) (asked_for c.args.comparison);
      upper = λ d s h. ends_units c.rule-2.result Up p c.rule-2.ensures.rounding (c.rule-2.ensures.preference ∙ ap preference_of c.from-aim.ensures) m l possible 1 s h _ (c.ends_after-upper.ensures d s h)
          ∙ next_alike m l s h (prefers_number p) mix_up (numbers_lawful Up p) possible v.possible (λ t q. marked_front (length part) marks v.possible c.possible_marks-possible.ensures t (omega arith))
          ∙ ap (λ q. next_upper q v.possible m s) (asked_for c.args.comparison);
    }
