-- The calls so far are played, the others are as they were, and the trial keeps the query that stands.
use Rattle.std.proofs.Common.{◌≡◌, take}
use Rattle.trial.specs.Keeping.{standing}
use Rattle.replay.specs.Standing.{Stands}
use Rattle.replay.proofs.Playing.{PlayedUpTo}
use Rattle.replay.proofs.replay.replay.Given as goal

abbrev pub invariant-loop-call : goal.invariant-loop-call
invariant-loop-call g l = record {
  source : l.trial.layer.below.now ≡ l.source;
  stands : Stands (take l.call-index l.calls) (standing (g.S.Source.model l.trial.layer.below.now).states l.trial.query);
  played : PlayedUpTo (g.S.Source.model l.source) l.initial.calls l.calls l.call-index;
}
