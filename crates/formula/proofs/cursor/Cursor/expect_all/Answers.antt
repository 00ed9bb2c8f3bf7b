use Rattle.std.proofs.Common.{rules}
use Rattle.formula.proofs.Signs.{word_refused}
use Rattle.formula.proofs.cursor.Cursor.expect_all.Goals as goal

-- a byte that is refused behind the front refuses the word
pub returns-in_err-at : goal.returns-in_err-at
returns-in_err-at c = search (rules, word_refused)
