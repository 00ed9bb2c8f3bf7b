use Rattle.std.proofs.Common.{rules, inl, refl}
use Rattle.printing.proofs.Errors.{after_error}
use Rattle.console.proofs.Returning.{writes_nothing, whole_begun}
use Rattle.console.proofs.check_reply.Limits.on.Goals as goal

-- without a list nothing is written
pub returns-in-Err-clause-whole : goal.returns-in-Err-clause-whole
returns-in-Err-clause-whole g c = writes_nothing _ _ _ (search rules)

-- nor where there is no memory for it
pub returns-in_err-list-clause-begun : goal.returns-in_err-list-clause-begun
returns-in_err-list-clause-begun g c = after_error _ (writes_nothing _ _ _ (inl refl))

-- where there is none for the summary, the whole list was reported
pub returns-in_err-summary_reply-clause-begun : goal.returns-in_err-summary_reply-clause-begun
returns-in_err-summary_reply-clause-begun g c = after_error _ (whole_begun _ _ c.in-Ok.list.now _ _ _ _ _ (search rules) c.in_ok-outcomes.ensures.whole)
