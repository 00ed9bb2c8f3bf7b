use Rattle.printing.specs.Carets.{shown}
use Rattle.printing.proofs.caret.shown_line.Given as goal

abbrev pub ghost-add_drawn : goal.ghost-add_drawn
ghost-add_drawn a = shown
