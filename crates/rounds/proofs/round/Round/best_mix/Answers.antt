use Rattle.std.proofs.Common.{◌∙◌, rules}
use Rattle.theory.specs.Rounds.{mixed}
use Rattle.rules.specs.Values.{told}
use Rattle.rounds.proofs.Bests.{best_first, best_more}
use Rattle.rounds.proofs.round.Round.best_mix.Goals as goal

pub loop-choice-init : goal.loop-choice-init
loop-choice-init g c d =
    let x = c.args.self.now.source.now in
    let y = c.args.self.now.backup.now in
    let m = g.S.Source.model x in
    let v = told c.args.self.now.values.now d in
    best_first (g.B.Backup.chosen y) (mixed (g.B.Backup.mixed y) m v) (m.choices c.args.state) (v c.args.state) c.mix_choice-best.result
    ((g.S.Source.lawful x).some_choice c.args.state c.requires.there) (c.mix_choice-best.ensures d)

pub loop-choice-preserved : goal.loop-choice-preserved
loop-choice-preserved g c d =
    let m = g.S.Source.model c.args.self.now.source.now in
    let y = c.args.self.now.backup.now in
    best_more (g.B.Backup.chosen y) (mixed (g.B.Backup.mixed y) m (told c.args.self.now.values.now d)) (m.choices c.args.state) c.loop-choice.choice c.loop-choice.best c.mix_choice-next.result _
    (search rules) (c.mix_choice-next.ensures d) c.better-best.ensures ∙ c.loop-choice.invariant d
