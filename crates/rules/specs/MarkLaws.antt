-- Marks keep the laws.
use Rattle.theory.specs.Rules.{RuleLaws}
use Rattle.theory.specs.Mixes.{mix_marks}
use Rattle.theory.proofs.RuleLaws.{marks_greater, marks_lesser}
use Rattle.rules.specs.declared.preference.Preference.{Preference}
use Rattle.rules.specs.declared.preference.Preference.TheVariants.{Greater, Lesser}
use Rattle.rules.specs.Marks.{prefers_mark}

-- marks keep the laws with either preference
pub marks_lawful : (p : Preference) → RuleLaws (prefers_mark p) mix_marks
marks_lawful Greater = marks_greater
marks_lawful Lesser = marks_lesser
