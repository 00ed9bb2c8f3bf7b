-- The bytes that remain fall; a path formula may begin with a state formula at its own place, so it counts one more.
use Rattle.std.proofs.Common.{◌+◌, ◌-◌, ◌*◌, length}
use Rattle.formula.proofs.formulas.+path_formula_state_formula.Given as goal

abbrev pub decreases-path_formula : goal.decreases-path_formula
decreases-path_formula l = 2 * (length l.from.text.now - l.from.at) + 1

abbrev pub decreases-state_formula : goal.decreases-state_formula
decreases-state_formula l = 2 * (length l.from.text.now - l.from.at)
