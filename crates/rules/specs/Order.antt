-- Preference by an order: of two values the greater one or the lesser one.
use Rattle.std.specs.Prelude.{Bool, Option}
use Rattle.std.specs.declared.cmp.Ordering.{Ordering}
use Rattle.std.specs.Ordering.{partial_ge, partial_le}
use Rattle.rules.specs.declared.preference.Preference.{Preference}
use Rattle.rules.specs.declared.preference.Preference.TheVariants.{Greater, Lesser}

-- is the value a at least as preferred as b, by what comparing the two answers?
abbrev pub at_least_as_preferred : {V : Type 0} → (V → V → Option Ordering) → Preference → V → V → Bool
at_least_as_preferred compared Greater a b = partial_ge compared a b
at_least_as_preferred compared Lesser a b = partial_le compared a b
