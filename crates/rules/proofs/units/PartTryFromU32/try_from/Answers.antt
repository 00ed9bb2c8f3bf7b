use Rattle.std.proofs.Common.{Ok, Result, sym, ap, ◌∙◌, arith}
use Rattle.std.proofs.lemmas.Bool.{cond-true, le-leb}
use Rattle.theory.specs.Mixes.{whole}
use Rattle.rules.specs.declared.fault.PartFault.{PartFault}
use Rattle.rules.specs.declared.part.Part.{Part}
use Rattle.rules.specs.Parts.{part_of}
use Rattle.rules.specs.PartsLemmas.{part_same}
use Rattle.rules.proofs.units.PartTryFromU32.try_from.Goals as goal

pub returns : goal.returns
returns c =
    let n = c.args.units in
    let few = c.if-units-gt-WHOLE.false in
    let ok : Part → Result Part PartFault = λ p. Ok p in
    ap ok (part_same _ (part_of n) (omega arith)) ∙ sym (cond-true _ _ _ (le-leb n whole few))
