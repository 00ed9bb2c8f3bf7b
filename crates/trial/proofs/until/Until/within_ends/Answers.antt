use Rattle.std.proofs.Common.{◌≡◌, ℕ, zero, suc, true, not, eqb, ◌||◌, List, [], ◌∷◌, take, refl, ap, ◌∙◌, arith, rules}
use Rattle.std.proofs.lemmas.Bool.{and_parts}
use Rattle.theory.specs.Ends.{held, lower, upper}
use Rattle.theory.specs.Mixes.{mix_up}
use Rattle.theory.proofs.Alike.{held_alike}
use Rattle.theory.proofs.WithoutSteps.{held_lawful}
use Rattle.rules.specs.declared.rounding.Rounding.TheVariants.{Down, Up}
use Rattle.rules.specs.Parts.{prefers_number}
use Rattle.rules.specs.PartsLemmas.{numbers_lawful}
use Rattle.trial.specs.Answers.{all_marks}
use Rattle.trial.specs.Aims.{preference_of, aim_for}
use Rattle.trial.specs.Queries.{marked}
use Rattle.trial.specs.Rows.{sets}
use Rattle.trial.proofs.PathRows.{marked_front, ends_units, asked_for}
use Rattle.trial.proofs.until.Until.within_ends.Goals as goal

-- where every byte is a mark, what is sure is what is possible
decided : (bytes : List ℕ) → all_marks bytes ≡ true → (s : ℕ) → (sets bytes).sure s ≡ (sets bytes).possible s
decided [] e s = refl
decided (b ∷ bs) e zero = one b (and_parts (eqb b 0 || eqb b 1) (all_marks bs) e).0
  where
    one : (b : ℕ) → (eqb b 0 || eqb b 1) ≡ true → eqb b 1 ≡ not (eqb b 0)
    one b e = grind arith
decided (b ∷ bs) e (suc s) = decided bs (and_parts (eqb b 0 || eqb b 1) (all_marks bs) e).1 s

pub returns-then-all_marks-2 : goal.returns-then-all_marks-2
returns-then-all_marks-2 g c =
    let until = c.args.self.now in
    let m = g.S.Source.model until.source.now in
    let l = g.S.Source.lawful until.source.now in
    let v = sets until.left.now in
    let w = sets until.right.now in
    let preferred = prefers_number (preference_of (aim_for c.args.comparison)) in
    let same = c.into.ensures ∙ ap preference_of c.from-aim.ensures in
    let ends = c.decided_ends.ensures in
    let k = c.args.steps in
    record {
      so_many = ends.so_many;
      lower = λ d s h. ends.lower d s h
          ∙ ap (λ p. lower (prefers_number p) v.sure w.sure k m s) same
          ∙ ap (λ q. lower q v.sure w.sure k m s) (asked_for c.args.comparison);
      upper = λ d s h. ends.upper d s h
          ∙ ap (λ p. upper (prefers_number p) v.sure w.sure k m s) same
          ∙ held_alike m l s h preferred mix_up (numbers_lawful Up (preference_of (aim_for c.args.comparison))) v.sure v.possible w.sure w.possible
          (λ t q. decided until.left.now (search rules) t) (λ t q. decided until.right.now (search rules) t) k
          ∙ ap (λ q. upper q v.possible w.possible k m s) (asked_for c.args.comparison);
    }

pub returns : goal.returns
returns g c =
    let until = c.args.self.now in
    let x = until.source.now in
    let m = g.S.Source.model x in
    let l = g.S.Source.lawful x in
    let v = sets until.left.now in
    let w = sets until.right.now in
    let p = preference_of (aim_for c.args.comparison) in
    let lefts = c.possible_marks-left.result.values in
    let rights = c.possible_marks-right.result.values in
    let left = marked (take m.states lefts) in
    let right = marked (take m.states rights) in
    let left_long = until.left_long in
    let right_long = until.right_long in
    let of_fronts = c.of_fronts-possible.ensures in
    let found = rw (of_fronts.source, of_fronts.left, of_fronts.right) at c.ends-upper.ensures in
    let k = c.args.steps in
    record {
      so_many = left_long;
      lower = λ d s h. ends_units c.rule.result Down p c.rule.ensures.rounding (c.rule.ensures.preference ∙ ap preference_of c.from-aim.ensures) (held v.sure w.sure m) (held_lawful v.sure w.sure m l) w.sure k s h _ (c.ends-lower.ensures d s h)
          ∙ ap (λ q. lower q v.sure w.sure k m s) (asked_for c.args.comparison);
      upper = λ d s h. ends_units c.rule-2.result Up p c.rule-2.ensures.rounding (c.rule-2.ensures.preference ∙ ap preference_of c.from-aim.ensures) (held left right m) (held_lawful left right m l) right k s h _ (found d s h)
          ∙ held_alike m l s h (prefers_number p) mix_up (numbers_lawful Up p) left v.possible right w.possible
          (λ t q. marked_front m.states lefts v.possible (λ u r. c.possible_marks-left.ensures u (omega arith)) t q)
          (λ t q. marked_front m.states rights w.possible (λ u r. c.possible_marks-right.ensures u (omega arith)) t q) k
          ∙ ap (λ q. upper q v.possible w.possible k m s) (asked_for c.args.comparison);
    }
