use Rattle.std.proofs.Common.{arith, rules}
use Rattle.std.proofs.lemmas.Grind.{common_steps}
use Rattle.printing.proofs.Errors.{after_error}
use Rattle.calls_text.proofs.Holding.{one_more_held, front_held}
use Rattle.calls_text.proofs.hold.hold_states.Goals as goal

-- the states up to the one whose answer found no memory are held
pub returns-in_err-text-clause-begun : goal.returns-in_err-text-clause-begun
returns-in_err-text-clause-begun g c =
    let layer = c.loop-state.layer in
    rw c.hold.ensures.source (after_error c.from_residual.result (front_held (g.S.Source.model layer.below) _ _ c.loop-state.state-index c.loop-state-test.true layer.held c.hold.new.self.held _ c.loop-state.invariant.model c.hold.ensures.ran))

-- and up to the one whose text found no room
pub returns-in_err-push_str-clause-begun : goal.returns-in_err-push_str-clause-begun
returns-in_err-push_str-clause-begun g c =
    let layer = c.loop-state.layer in
    rw c.hold.ensures.source (after_error c.from_residual-in_err-push_str.result (front_held (g.S.Source.model layer.below) _ _ c.loop-state.state-index c.loop-state-test.true layer.held c.hold.new.self.held _ c.loop-state.invariant.model c.hold.ensures.ran))

-- one more state is held, and what came of it is printed
pub loop-state-preserved : goal.loop-state-preserved
loop-state-preserved g c =
    let layer = c.loop-state.layer in
    record {
      told = grind (arith, common_steps);
      below = search rules;
      model = rw c.hold.ensures.source
          (one_more_held (g.S.Source.model layer.below) _ _ c.loop-state.state-index c.loop-state-test.true layer.held c.hold.new.self.held _ c.loop-state.invariant.model c.hold.ensures.ran);
    }
