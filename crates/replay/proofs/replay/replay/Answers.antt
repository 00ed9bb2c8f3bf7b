-- Each call is played where the query of those before it stands.
use Rattle.std.proofs.Common.{◌<◌, ◌≤◌, length, ap, arith}
use Rattle.std.proofs.lemmas.List.{take_more_set}
use Rattle.replay.proofs.StandingQuery.{stands_first}
use Rattle.replay.proofs.Playing.{none_played, played_more, all_played}
use Rattle.replay.proofs.replay.replay.Goals as goal

pub loop-call-init : goal.loop-call-init
loop-call-init g c = record {
  source = c.over-trial.ensures.source;
  stands = rw c.over-trial.ensures.none stands_first;
  played = none_played _ _;
}

pub loop-call-preserved : goal.loop-call-preserved
loop-call-preserved g c =
    let there : c.loop-call.call-index < length c.loop-call.calls = omega arith in
    record {
      source = cc;
      stands = rw (take_more_set c.loop-call.calls c.loop-call.call-index c.play.new.self there) (c.play.ensures.query _ c.loop-call.invariant.stands);
      played = played_more _ _ _ _ _ _ c.call-item.result _ there (ap g.S.Source.model c.loop-call.invariant.source) c.loop-call.invariant.played c.loop-call.invariant.stands c.play.ensures.played c.play.ensures.meant;
    }

pub returns : goal.returns
returns g c =
    let end : length c.loop-call.calls ≤ c.loop-call.call-index = omega arith in
    all_played _ (g.S.Source.lawful c.args.source.now) _ _ c.loop-call.call-index c.loop-call.auto.calls end c.loop-call.invariant.played
