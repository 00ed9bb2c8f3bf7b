-- Which fault rounds are refused with: that of the first question whose answer is no.
use Rattle.std.specs.Prelude.{ℕ, cond, ◌&&◌, Some, None, Option, ◌==◌, nat_le}
use Rattle.rounds.specs.declared.fault.RoundsFault.{RoundsFault}
use Rattle.rounds.specs.declared.fault.RoundsFault.TheVariants.{Lengths, Count}

-- the number of each fault
abbrev pub fault_number : RoundsFault → ℕ
fault_number Lengths = 37
fault_number Count = 38

-- there are at most so many rounds
abbrev pub most_rounds : ℕ
most_rounds = 100000

-- are both lists as long as there are states?
abbrev pub lengths_fault : ℕ → ℕ → ℕ → Option RoundsFault
lengths_fault states first second = cond (first == states && second == states) None (Some Lengths)

-- are both lists as long as there are states, and are there at most so many rounds? The first no.
abbrev pub rounds_fault : ℕ → ℕ → ℕ → ℕ → Option RoundsFault
rounds_fault states first second k = cond (first == states && second == states) (cond (nat_le k most_rounds) None (Some Count)) (Some Lengths)
