use Rattle.std.proofs.Common.{rules}
use Rattle.printing.proofs.Errors.{after_error}
use Rattle.console.proofs.Returning.{writes_nothing}
use Rattle.console.proofs.answer.reply_to.Goals as goal

-- nothing is written
pub returns-in_ok-from_str-in-Ok-Help-clause-whole : goal.returns-in_ok-from_str-in-Ok-Help-clause-whole
returns-in_ok-from_str-in-Ok-Help-clause-whole g c = writes_nothing _ _ _ (search rules)

-- nothing is written
pub returns-in_ok-print_reply-in-Ok-Print-clause-whole : goal.returns-in_ok-print_reply-in-Ok-Print-clause-whole
returns-in_ok-print_reply-in-Ok-Print-clause-whole g c = writes_nothing _ _ _ (search rules)

-- nothing is written
pub returns-in_ok-rounds_reply-in-Ok-Rounds-clause-whole : goal.returns-in_ok-rounds_reply-in-Ok-Rounds-clause-whole
returns-in_ok-rounds_reply-in-Ok-Rounds-clause-whole g c = writes_nothing _ _ _ (search rules)

-- nothing is written
pub returns-in_ok-formula_reply-in-Ok-Formula-clause-whole : goal.returns-in_ok-formula_reply-in-Ok-Formula-clause-whole
returns-in_ok-formula_reply-in-Ok-Formula-clause-whole g c = writes_nothing _ _ _ (search rules)

-- nothing is written
pub returns-in_ok-reply-in-Ok-Trial-clause-whole : goal.returns-in_ok-reply-in-Ok-Trial-clause-whole
returns-in_ok-reply-in-Ok-Trial-clause-whole g c = writes_nothing _ _ _ (search rules)

-- nothing is written
pub returns-in_ok-mistake_text-in-Err-clause-whole : goal.returns-in_ok-mistake_text-in-Err-clause-whole
returns-in_ok-mistake_text-in-Err-clause-whole g c = writes_nothing _ _ _ (search rules)

-- nothing is written where an error comes
pub returns-in_err-from_str-in-Ok-Help-clause-begun : goal.returns-in_err-from_str-in-Ok-Help-clause-begun
returns-in_err-from_str-in-Ok-Help-clause-begun g c = after_error _ (writes_nothing _ _ _ (search rules))

-- nothing is written where an error comes
pub returns-in_err-print_reply-in-Ok-Print-clause-begun : goal.returns-in_err-print_reply-in-Ok-Print-clause-begun
returns-in_err-print_reply-in-Ok-Print-clause-begun g c = after_error _ (writes_nothing _ _ _ (search rules))

-- nothing is written where an error comes
pub returns-in_err-rounds_reply-in-Ok-Rounds-clause-begun : goal.returns-in_err-rounds_reply-in-Ok-Rounds-clause-begun
returns-in_err-rounds_reply-in-Ok-Rounds-clause-begun g c = after_error _ (writes_nothing _ _ _ (search rules))

-- nothing is written where an error comes
pub returns-in_err-formula_reply-in-Ok-Formula-clause-begun : goal.returns-in_err-formula_reply-in-Ok-Formula-clause-begun
returns-in_err-formula_reply-in-Ok-Formula-clause-begun g c = after_error _ (writes_nothing _ _ _ (search rules))

-- nothing is written where an error comes
pub returns-in_err-reply-in-Ok-Trial-clause-begun : goal.returns-in_err-reply-in-Ok-Trial-clause-begun
returns-in_err-reply-in-Ok-Trial-clause-begun g c = after_error _ (writes_nothing _ _ _ (search rules))

-- nothing is written where an error comes
pub returns-in_err-mistake_text-in-Err-clause-begun : goal.returns-in_err-mistake_text-in-Err-clause-begun
returns-in_err-mistake_text-in-Err-clause-begun g c = after_error _ (writes_nothing _ _ _ (search rules))
