use Rattle.std.proofs.lemmas.List.FromFn.{length-map-range_with_len}
use Rattle.printing.specs.Layouts.{state_of}
use Rattle.printing.proofs.listing.totals.Goals as goal

pub returns : goal.returns
returns g c = let m = g.S.Source.model c.args.source.now in let count = length-map-range_with_len (state_of m) 0 m.states in cc
