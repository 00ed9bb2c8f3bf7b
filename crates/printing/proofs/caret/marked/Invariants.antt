use Rattle.printing.specs.Carets.{under}
use Rattle.printing.proofs.caret.marked.Given as goal

abbrev pub ghost-add_drawn : goal.ghost-add_drawn
ghost-add_drawn a = under
