use Rattle.text.specs.Fields.{lawful_labels}
use Rattle.text.proofs.labels.labels.Given as goal

-- the test that is asked: whether the field is a lawful set of labels
abbrev pub ghost-check_lawful : goal.ghost-check_lawful
ghost-check_lawful a = lawful_labels
