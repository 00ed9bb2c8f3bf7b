use Rattle.text.specs.Fields.{numeral}
use Rattle.text.proofs.number.long_number.Given as goal

-- the test that is asked: whether the word is a number of at most ten digits
abbrev pub ghost-check_lawful : goal.ghost-check_lawful
ghost-check_lawful a = numeral 10
