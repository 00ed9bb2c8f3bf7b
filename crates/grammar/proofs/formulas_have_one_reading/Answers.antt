use Rattle.grammar.proofs.Readings.{one_reading}
use Rattle.grammar.proofs.formulas_have_one_reading.Goals as goal

pub returns : goal.returns
returns c = one_reading
