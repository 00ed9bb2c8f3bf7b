-- Marks: how they are preferred. Yes is the greater of the two.
use Rattle.std.specs.Prelude.{Bool}
use Rattle.theory.specs.Mixes.{yes_first, no_first}
use Rattle.rules.specs.declared.preference.Preference.{Preference}
use Rattle.rules.specs.declared.preference.Preference.TheVariants.{Greater, Lesser}

-- is the mark a at least as preferred as b?
abbrev pub prefers_mark : Preference → Bool → Bool → Bool
prefers_mark Greater = yes_first
prefers_mark Lesser = no_first
