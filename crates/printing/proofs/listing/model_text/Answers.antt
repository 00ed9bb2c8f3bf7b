use Rattle.std.proofs.Common.{rules}
use Rattle.printing.proofs.Texts.{whole_text}
use Rattle.printing.proofs.listing.model_text.Goals as goal

pub returns : goal.returns
returns g c =
    let lines = rw c.new.ensures.source at c.in_ok-lines.ensures in
    let whole = whole_text (g.S.Source.model c.args.source.now) _ _ _ c.states-2.ensures c.denominator.ensures lines in
    search rules
