-- The numbers of a trial's faults.
use Rattle.std.specs.Prelude.{ℕ}
use Rattle.trial.specs.declared.fault.TrialFault.{TrialFault}
use Rattle.trial.specs.declared.fault.TrialFault.TheVariants.{Lengths, Marks, NoQuery, Rounds, State, Bound, Aim}

-- the number of each fault
abbrev pub fault_number : TrialFault → ℕ
fault_number Lengths = 30
fault_number Marks = 31
fault_number NoQuery = 32
fault_number Rounds = 33
fault_number State = 34
fault_number Bound = 35
fault_number Aim = 36
