use Rattle.std.proofs.Common.{◌≡◌, ◌+◌, drop}
use Rattle.rules.proofs.Sums.{summed}
use Rattle.rounds.specs.declared.interval.Interval.{Interval}
use Rattle.rounds.specs.Ends.{lower_of, upper_of}
use Rattle.rounds.proofs.ends.weighted_sums.Given as goal

-- of each end, the sum so far and that of the branches still to come are the whole sum
abbrev pub invariant-loop-branch : goal.invariant-loop-branch
invariant-loop-branch l = record {
  lower : (d : Interval) → l.lower + summed lower_of l.values d (drop l.branch-index l.row) ≡ summed lower_of l.values d l.row;
  upper : (d : Interval) → l.upper + summed upper_of l.values d (drop l.branch-index l.row) ≡ summed upper_of l.values d l.row;
}
