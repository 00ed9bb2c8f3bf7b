-- Which fault a ladder is refused with: that of the first question whose answer is no.
use Rattle.std.specs.Prelude.{ℕ, Bool, cond, ◌&&◌, Some, None, Option, nat_le}
use Rattle.ladder.specs.declared.fault.LadderFault.{LadderFault}
use Rattle.ladder.specs.declared.fault.LadderFault.TheVariants.{Rungs, Denominator, Weight}

-- the number of each fault
abbrev pub fault_number : LadderFault → ℕ
fault_number Rungs = 40
fault_number Denominator = 41
fault_number Weight = 42

-- is x from `low` to `high`?
abbrev pub within : ℕ → ℕ → ℕ → Bool
within low high x = nat_le low x && nat_le x high

-- are there 1 to 511 rungs, is the denominator 1 to 1,000,000, and the weight 1 to the denominator? The first no.
abbrev pub ladder_fault : ℕ → ℕ → ℕ → Option LadderFault
ladder_fault r d w =
    cond (within 1 511 r) (cond (within 1 1000000 d) (cond (within 1 d w) None (Some Weight)) (Some Denominator)) (Some Rungs)
