-- The three bounds that an until without steps may have, as the code names them.
use Rattle.std.specs.Prelude.{Some, None, Option}
use Rattle.theory.specs.WithoutSteps.{Extremal, over_none, at_most_none, at_least_whole}
use Rattle.formula.specs.declared.extremal.Extremal.{Extremal as Code}
use Rattle.formula.specs.declared.extremal.Extremal.TheVariants.{OverNone, AtMostNone, AtLeastWhole}

-- the bound that the code's own stands for
abbrev pub bound_meant : Code → Extremal
bound_meant OverNone = over_none
bound_meant AtMostNone = at_most_none
bound_meant AtLeastWhole = at_least_whole

-- and where there may be none
abbrev pub maybe_meant : Option Code → Option Extremal
maybe_meant None = None
maybe_meant (Some o) = Some (bound_meant o)
