-- The query that stands after the call is told by what the trial answers and keeps.
use Rattle.trial.specs.Keeping.{standing}
use Rattle.trial.specs.Answers.{start_fault}
use Rattle.replay.proofs.StandingQuery.{after_start, after_advance, after_ends, after_verdict, after_judge}
use Rattle.replay.proofs.call.Call.play.Goals as goal

pub returns-in-Start-clause-query : goal.returns-in-Start-clause-query
returns-in-Start-clause-query g c =
    let n = (g.S.Source.model c.args.trial.now.layer.below.now).states in
    let left = c.in-Start.left in
    let right = c.in-Start.right in
    after_start left right c.in-Start.aim (standing n c.args.trial.now.query) _ (start_fault n left.items right.items) c.start.result (cc) (cc)

pub returns-in-Advance-clause-query : goal.returns-in-Advance-clause-query
returns-in-Advance-clause-query g c =
    let n = (g.S.Source.model c.args.trial.now.layer.below.now).states in
    after_advance c.in-Advance.count (standing n c.args.trial.now.query) _ c.advance.result c.advance.ensures.answer c.advance.ensures.query

pub returns-in-Ends-clause-query : goal.returns-in-Ends-clause-query
returns-in-Ends-clause-query g c = after_ends c.in-Ends.state _ _

pub returns-in-Verdict-clause-query : goal.returns-in-Verdict-clause-query
returns-in-Verdict-clause-query g c = after_verdict c.in-Verdict.state c.in-Verdict.comparison c.in-Verdict.bound _ _

pub returns-in-Judge-clause-query : goal.returns-in-Judge-clause-query
returns-in-Judge-clause-query g c = after_judge c.in-Judge.text _ _ _ c.judge.result _ _ c.judge.ensures.query
