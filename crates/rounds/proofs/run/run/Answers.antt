use Rattle.std.proofs.Common.{◌≡◌, List, sym, ap, ◌∙◌, add-one, arith, rules}
use Rattle.rules.specs.Values.{told}
use Rattle.rounds.specs.Runs.{listed}
use Rattle.rounds.specs.Backups.{backed_up, values_by, spare_by}
use Rattle.rounds.proofs.run.run.Goals as goal

-- a round from the values after the rounds so far gives those after one more
pub loop-preserved : goal.loop-preserved
loop-preserved g c =
    let m = g.S.Source.model c.args.source.now in
    let better = g.B.Backup.chosen c.args.backup.now in
    let mix = g.B.Backup.mixed c.args.backup.now in
    let vs = c.args.values.now in
    let one = sym (add-one c.loop.counter) in
    record {
      first = λ d. c.one_round.ensures.values d
          ∙ ap (λ (old : List g.row.B-Value.Denot). listed m.states (backed_up better mix m (told old d))) (c.loop.invariant.first d)
          ∙ ap (λ k. values_by better mix m d k vs) one;
      second = λ d. c.one_round.ensures.spare ∙ c.loop.invariant.first d ∙ ap (λ k. spare_by better mix m d k vs c.args.spare.now) one;
    }

-- all rounds are done
pub returns : goal.returns
returns g c =
    let m = g.S.Source.model c.args.source.now in
    let better = g.B.Backup.chosen c.args.backup.now in
    let mix = g.B.Backup.mixed c.args.backup.now in
    let vs = c.args.values.now in
    let all : c.loop.counter ≡ c.args.count = omega arith in
    record {
      asked = search rules;
      first = λ d. c.loop.invariant.first d ∙ ap (λ k. values_by better mix m d k vs) all;
      second = λ d. c.loop.invariant.second d ∙ ap (λ k. spare_by better mix m d k vs c.args.spare.now) all;
    }
