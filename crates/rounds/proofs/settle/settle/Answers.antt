use Rattle.std.proofs.Common.{◌≡◌, suc, false, sym, ap, ◌∙◌, add-one, arith, rules, below_more}
use Rattle.std.specs.Cmp.{booleans_Decides}
use Rattle.std.proofs.lemmas.Bool.{both_ways}
use Rattle.std.proofs.lemmas.Slice.Eq.{slice_eq-Decides}
use Rattle.theory.specs.Mixes.{mix_marks}
use Rattle.rules.specs.Values.{told}
use Rattle.rules.specs.Marks.{prefers_mark}
use Rattle.rules.specs.MarkLaws.{marks_lawful}
use Rattle.rounds.proofs.Backups.{rule_round}
use Rattle.rounds.proofs.Settling.{list_after, list_none, list_more, settled_same, settled_here, unsettled_here}
use Rattle.rounds.proofs.settle.settle.Goals as goal

pub loop-done-init : goal.loop-done-init
loop-done-init g c =
    let x = c.args.source.now in
    let states = c.states-states.ensures in
    let long = c.in_ok-check_lengths.ensures.0 in (
      list_none c.args.rule.now.preference (g.S.Source.model x) (g.S.Source.lawful x) c.args.marks.now (long ∙ states),
      λ k e. absurd (omega arith),
      λ j h. absurd (omega arith),
      omega arith,
    )

pub loop-done-preserved : goal.loop-done-preserved
loop-done-preserved g c =
    let x = c.args.source.now in
    let m = g.S.Source.model x in
    let l = g.S.Source.lawful x in
    let p = c.args.rule.now.preference in
    let marks = c.args.marks.now in
    let done = c.loop-done.done in
    let more = list_more p m l marks done c.loop-done.marks c.one_round.new.values c.loop-done.invariant.0 (c.one_round.ensures.values false ∙ rule_round (prefers_mark p) mix_marks (marks_lawful p) m false (told c.loop-done.marks false)) in
    let before = c.one_round.ensures.spare ∙ c.loop-done.invariant.0 in
    let few = c.if-done-states.false in
    let same = slice_eq-Decides booleans_Decides _ _ _ c.eq.ensures in (
      more ∙ ap (list_after p m l marks) (sym (add-one done)),
      λ k e. before ∙ ap (list_after p m l marks) (omega arith),
      below_more _ _ c.loop-done.invariant.2 (λ settled. absurd (both_ways c.eq.result c.if-eq.false (same.1 (more ∙ settled_same p m l marks done settled ∙ sym before)))),
      omega arith,
    )

pub returns-then-done-states : goal.returns-then-done-states
returns-then-done-states g c =
    let x = c.args.source.now in
    let m = g.S.Source.model x in
    let states = c.states-states.ensures in
    let over = c.if-done-states.true in
    let few = c.loop-done.invariant.3 in
    let all : c.loop-done.done ≡ suc m.states = omega arith in
    unsettled_here c.args.rule.now.preference m (g.S.Source.lawful x) c.args.marks.now c.args.spare.now c.loop-done.marks c.loop-done.spare (search rules) c.loop-done.done
    c.loop-done.invariant.2 all c.loop-done.invariant.0 (c.loop-done.invariant.1 m.states all)

pub returns-then-eq : goal.returns-then-eq
returns-then-eq g c =
    let x = c.args.source.now in
    let m = g.S.Source.model x in
    let l = g.S.Source.lawful x in
    let p = c.args.rule.now.preference in
    let marks = c.args.marks.now in
    let done = c.loop-done.done in
    let more = list_more p m l marks done c.loop-done.marks c.one_round.new.values c.loop-done.invariant.0 (c.one_round.ensures.values false ∙ rule_round (prefers_mark p) mix_marks (marks_lawful p) m false (told c.loop-done.marks false)) in
    let states = c.states-states.ensures in
    let few = c.if-done-states.false in
    let same = slice_eq-Decides booleans_Decides _ _ _ c.eq.ensures in
    settled_here p m l marks c.args.spare.now c.one_round.new.values c.one_round.new.spare (search rules) done
    c.loop-done.invariant.2 (omega arith) more (c.one_round.ensures.spare ∙ c.loop-done.invariant.0) (same.0 c.if-eq.true)
