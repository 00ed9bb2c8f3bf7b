use Rattle.std.proofs.Common.{rules}
use Rattle.theory.proofs.Rounds.{row_lawful}
use Rattle.rounds.proofs.Rows.{lent_whole}
use Rattle.rounds.proofs.round.Round.mix_choice.Goals as goal

pub mix-requires : goal.mix-requires
mix-requires g c =
    let x = c.args.self.now.source.now in
    let m = g.S.Source.model x in
    let l = g.S.Source.lawful x in
    let lent = lent_whole m l c.args.state c.args.choice _ _ c.requires.there (search (rules, c.told-buffer)) c.lend_row-row.ensures in
    rw (c.args.self.now.long, c.args.self.now.units, lent) (record { lawful = row_lawful m l c.args.state c.args.choice c.requires.there })

pub returns : goal.returns
returns g c d =
    let x = c.args.self.now.source.now in
    let m = g.S.Source.model x in
    let l = g.S.Source.lawful x in
    let lent = lent_whole m l c.args.state c.args.choice _ _ c.requires.there (search (rules, c.told-buffer)) c.lend_row-row.ensures in
    let mixed = c.mix.ensures d in
    cc
