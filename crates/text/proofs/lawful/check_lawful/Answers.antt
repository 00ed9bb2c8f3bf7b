use Rattle.std.proofs.Common.{sym, arith}
use Rattle.std.proofs.lemmas.Bool.{cond-true}
use Rattle.text.proofs.Longest.{whole_passes}
use Rattle.text.proofs.lawful.check_lawful.Goals as goal

-- past the test, the longest lawful beginning is all of the field
pub returns : goal.returns
returns g c = sym (cond-true (g.lawful c.args.field.now) _ _ (whole_passes g.lawful c.args.field.now (omega (arith, c.requires.0)) (omega (arith, c.requires.0))))
