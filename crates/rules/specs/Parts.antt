-- Parts: numbers of units up to the whole, how they are preferred, and how they are mixed.
use Rattle.std.specs.Prelude.{ℕ, min, Bool, cond, List, Ok, Err, Result, nat_le}
use Rattle.std.proofs.Common.{arith}
use Rattle.theory.specs.Mixes.{whole, greater, lesser, mix_down, mix_up}
use Rattle.rules.specs.declared.part.Part.{Part}
use Rattle.rules.specs.declared.preference.Preference.{Preference}
use Rattle.rules.specs.declared.preference.Preference.TheVariants.{Greater, Lesser}
use Rattle.rules.specs.declared.rounding.Rounding.{Rounding}
use Rattle.rules.specs.declared.rounding.Rounding.TheVariants.{Down, Up}
use Rattle.rules.specs.declared.fault.PartFault.{PartFault}
use Rattle.rules.specs.declared.fault.PartFault.TheVariants.{Units}
use Rattle.rules.specs.Values.{carried}

-- the part of n units, the whole where n is more
abbrev pub part_of : ℕ → Part
part_of n = record { units = min n whole; within = omega arith }

-- how many units a part has
abbrev pub units_of : Part → ℕ
units_of p = p.units

-- making a part of n units: is that at most the whole?
abbrev pub part_made : ℕ → Result Part PartFault
part_made n = cond (nat_le n whole) (Ok (part_of n)) (Err Units)

-- is the number x at least as preferred as y?
abbrev pub prefers_number : Preference → ℕ → ℕ → Bool
prefers_number Greater = greater
prefers_number Lesser = lesser

-- is the part a at least as preferred as b? Parts are preferred by their units
abbrev pub prefers_part : Preference → Part → Part → Bool
prefers_part p a b = prefers_number p (units_of a) (units_of b)

-- the mix of numbers, rounded down or up
abbrev pub mix_rounded : Rounding → ℕ → List (ℕ × ℕ) → ℕ
mix_rounded Down = mix_down
mix_rounded Up = mix_up

-- a mix of numbers, of the units of parts
abbrev pub in_parts : (ℕ → List (ℕ × ℕ) → ℕ) → ℕ → List (ℕ × Part) → Part
in_parts mix d ps = part_of (mix d (carried units_of ps))
