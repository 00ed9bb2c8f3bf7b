use Rattle.std.proofs.Common.{◌≡◌, ◌+◌, drop}
use Rattle.theory.specs.Rules.{valued}
use Rattle.theory.specs.Mixes.{sum_of}
use Rattle.rules.specs.declared.part.Part.{Part}
use Rattle.rules.specs.Values.{told, carried}
use Rattle.rules.specs.Parts.{units_of}
use Rattle.rules.proofs.sum.weighted_sum.Given as goal

-- the sum so far and that of the branches still to come are the whole sum
abbrev pub invariant-loop-branch : goal.invariant-loop-branch
invariant-loop-branch l = (d : Part) → l.sum + sum_of (carried units_of (valued (told l.values d) (drop l.branch-index l.row))) ≡ sum_of (carried units_of (valued (told l.values d) l.row))
