use Rattle.std.proofs.Common.{rules, inl, refl}
use Rattle.printing.proofs.Errors.{after_error}
use Rattle.console.proofs.Returning.{writes_nothing}
use Rattle.console.proofs.check_reply.Limits.check.Goals as goal

-- without a model nothing is written
pub returns-in-Err-clause-whole : goal.returns-in-Err-clause-whole
returns-in-Err-clause-whole g c = writes_nothing _ _ _ (search rules)

-- nor where there is no memory to find it
pub returns-in_err-tables-clause-begun : goal.returns-in_err-tables-clause-begun
returns-in_err-tables-clause-begun g c = after_error _ (writes_nothing _ _ _ (inl refl))
