use Rattle.std.proofs.Common.{◌≡◌, false, sym, ◌∙◌, get_or, arith}
use Rattle.std.proofs.lemmas.Grind.{common_steps}
use Rattle.std.proofs.lemmas.List.{get_or_default}
use Rattle.std.specs.Iterator.Adapters.{enumerate_source, enumerate_count, zip_first, zip_second}
use Rattle.std.specs.Slice.Iter.{iter_rest}
use Rattle.theory.specs.Ends.{stops}
use Rattle.trial.specs.Queries.{marked}
use Rattle.trial.proofs.Flags.{partly_none, partly_set, next_at}
use Rattle.trial.proofs.until.Until.layer.Goals as goal

-- no flag is set at first
pub loop-state-init : goal.loop-state-init
loop-state-init g c =
    let until = c.args.self.now in
    let zero : enumerate_count c.into_iter-state-iterator.result ≡ 0 = cc in
    record {
      over = (cc);
      flags = rw (zero, c.over-layer.ensures.flags) (partly_none (stops (marked until.left.now) (marked until.right.now)));
      left_rest = rw zero (cc);
      right_rest = rw zero (cc);
    }

-- a settled state is held, and its flag set
pub loop-state-preserved-then-settled : goal.loop-state-preserved-then-settled
loop-state-preserved-then-settled g c =
    let until = c.args.self.now in
    let step = c.in-Some.ensures.steps in
    let k = c.loop-state.invariant in
    let state = enumerate_count c.loop-state.state-iterator in
    let pairs = enumerate_source c.next.new.self in
    let left = next_at until.left.now state {rest = iter_rest (zip_first pairs)} k.left_rest step.0.0 in
    let right = next_at until.right.now state {rest = iter_rest (zip_second pairs)} k.right_rest step.0.1 in
    let few = (g.S.Source.lawful until.source.now).few_states in
    let held = rw c.unwrap.ensures at c.hold.ensures.ran in
    record {
      over = (cc);
      flags = rw (step.2, held.flags, step.1) (partly_set _ state _ k.flags (omega (arith, left.0, until.left_long, few)) (rw (left.1, right.1) (sym c.if-settled.ensures)));
      left_rest = rw step.2 left.2;
      right_rest = rw step.2 right.2;
    }

-- at the end the flags of all states are those of the settled ones
pub returns-clause-held : goal.returns-clause-held
returns-clause-held g c d s h =
    let until = c.args.self.now in
    let few = (g.S.Source.lawful until.source.now).few_states in
    let k = c.loop-state.invariant in
    let held : get_or c.loop-state.layer.held s false ≡ stops (marked until.left.now) (marked until.right.now) s = grind (arith, common_steps) in
    get_or_default _ s d false (omega (arith, k.flags.long, few)) ∙ held
