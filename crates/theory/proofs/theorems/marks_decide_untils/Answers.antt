use Rattle.theory.proofs.Meaning.{marks_decide}
use Rattle.theory.proofs.theorems.marks_decide_untils.Goals as goal

pub returns : goal.returns
returns c = marks_decide
