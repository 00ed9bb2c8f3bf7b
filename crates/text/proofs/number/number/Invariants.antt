use Rattle.text.specs.Fields.{numeral}
use Rattle.text.proofs.number.number.Given as goal

-- the test that is asked: whether the field is a number of at most seven digits
abbrev pub ghost-check_lawful : goal.ghost-check_lawful
ghost-check_lawful a = numeral 7
