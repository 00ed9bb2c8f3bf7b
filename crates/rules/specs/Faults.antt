-- The number of a part's fault.
use Rattle.std.specs.Prelude.{ℕ}
use Rattle.rules.specs.declared.fault.PartFault.{PartFault}
use Rattle.rules.specs.declared.fault.PartFault.TheVariants.{Units}

-- the number of the fault
abbrev pub fault_number : PartFault → ℕ
fault_number Units = 39
