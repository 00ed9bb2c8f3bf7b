-- What a query asks for, and which comparisons that decides.
use Rattle.records.specs.declared.comparison.Comparison.{Comparison}
use Rattle.records.specs.declared.comparison.Comparison.TheVariants.{Below, AtMost, Above, AtLeast}
use Rattle.rules.specs.declared.preference.Preference.{Preference}
use Rattle.rules.specs.declared.preference.Preference.TheVariants.{Greater, Lesser}
use Rattle.trial.specs.declared.aim.Aim.{Aim}
use Rattle.trial.specs.declared.aim.Aim.TheVariants.{Best, Worst}

-- for the best the greater value is preferred, for the worst the lesser
abbrev pub preference_of : Aim → Preference
preference_of Best = Greater
preference_of Worst = Lesser

-- `<` and `<=` are decided by the best, `>` and `>=` by the worst
abbrev pub aim_for : Comparison → Aim
aim_for Below = Best
aim_for AtMost = Best
aim_for Above = Worst
aim_for AtLeast = Worst
