use Rattle.figures.proofs.Worked.{figures}
use Rattle.figures.proofs.figures.Goals as goal

pub returns : goal.returns
returns c = figures
