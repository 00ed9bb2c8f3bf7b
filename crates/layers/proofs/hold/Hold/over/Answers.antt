use Rattle.std.proofs.Common.{refl}
use Rattle.layers.proofs.Flags.{held_none}
use Rattle.layers.proofs.hold.Hold.over.Goals as goal

pub returns : goal.returns
returns g c = record { source = refl; flags = refl; model = held_none (g.S.Source.model c.args.below) 512 }
