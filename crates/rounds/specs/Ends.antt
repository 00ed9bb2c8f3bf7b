-- Both ends at once: of the intervals of states the lower and the upper ends.
use Rattle.std.specs.Prelude.{ℕ, List}
use Rattle.rules.specs.declared.part.Part.{Part}
use Rattle.rules.specs.declared.preference.Preference.{Preference}
use Rattle.rules.specs.declared.rounding.Rounding.TheVariants.{Down, Up}
use Rattle.rules.specs.Parts.{units_of, prefers_part, mix_rounded, in_parts}
use Rattle.rules.specs.Values.{carried}
use Rattle.rounds.specs.declared.interval.Interval.{Interval}
use Rattle.rounds.specs.Backups.{better_by}

-- the lower end
abbrev pub lower_of : Interval → Part
lower_of x = x.lower

-- the upper end
abbrev pub upper_of : Interval → Part
upper_of x = x.upper

-- the units of the lower end
abbrev pub lower_units : Interval → ℕ
lower_units x = units_of (lower_of x)

-- the units of the upper end
abbrev pub upper_units : Interval → ℕ
upper_units x = units_of (upper_of x)

-- the interval of one part alone
abbrev pub point : Part → Interval
point p = record { lower = p; upper = p }

-- the better lower end and the better upper end of two
abbrev pub better_ends : Preference → Interval → Interval → Interval
better_ends p a b = record { lower = better_by (prefers_part p) (lower_of a) (lower_of b); upper = better_by (prefers_part p) (upper_of a) (upper_of b) }

-- the lower ends of a row mixed and rounded down, and the upper ends rounded up
abbrev pub mixed_ends : ℕ → List (ℕ × Interval) → Interval
mixed_ends d ps = record { lower = in_parts (mix_rounded Down) d (carried lower_of ps); upper = in_parts (mix_rounded Up) d (carried upper_of ps) }
