use Rattle.std.proofs.Common.{◌≡◌, drop}
use Rattle.std.specs.Iterator.Adapters.{enumerate_source, enumerate_count, zip_first, zip_second}
use Rattle.std.specs.Slice.Iter.{iter_rest}
use Rattle.theory.specs.Ends.{stops}
use Rattle.trial.specs.Queries.{marked}
use Rattle.trial.proofs.Flags.{Partly}
use Rattle.trial.proofs.until.Until.layer.Given as goal

-- the layer lies over the source, its flags are set for the states so far, and the marks of the others are still to come
abbrev pub invariant-loop-state : goal.invariant-loop-state
invariant-loop-state g l =
    let pairs = l.state-iterator in
    let state = enumerate_count pairs in
    record {
      over : l.layer.below.now ≡ l.self.source.now;
      flags : Partly (stops (marked l.self.left.now) (marked l.self.right.now)) state l.layer.held;
      left_rest : iter_rest (zip_first (enumerate_source pairs)) ≡ drop state l.self.left.now;
      right_rest : iter_rest (zip_second (enumerate_source pairs)) ≡ drop state l.self.right.now;
    }
