-- Which fault rounds on given numbers are refused with, and what is printed of it.
use Rattle.std.specs.Prelude.{ℕ, cond, List, length, Some, codes, Option}
use Rattle.std.specs.Option.{option_map}
use Rattle.std.specs.List.{list_all}
use Rattle.rules.specs.declared.fault.PartFault.TheVariants.{Units}
use Rattle.rules.specs.Faults as part_faults
use Rattle.rounds.specs.declared.fault.RoundsFault.TheVariants.{Lengths, Count}
use Rattle.rounds.specs.Refusals as rounds_faults
use Rattle.printing.specs.Words.{refusal_line}
use Rattle.rounds_text.specs.declared.fault.RequestFault.{RequestFault}
use Rattle.rounds_text.specs.declared.fault.RequestFault.TheVariants.{Part, Rounds}
use Rattle.rounds_text.specs.declared.kind.Kind.{Kind}
use Rattle.rounds_text.specs.declared.kind.Kind.TheVariants.{Parts, Marks}
use Rattle.rounds_text.specs.declared.request.Request.{Request}
use Rattle.rounds_text.specs.Numberings.{Numbering, parts_numbering, marks_numbering}

-- the number of each fault
abbrev pub request_fault_number : RequestFault → ℕ
request_fault_number (Part f) = part_faults.fault_number f
request_fault_number (Rounds f) = rounds_faults.fault_number f

-- the words on it
abbrev pub request_words : RequestFault → List ℕ
request_words (Part Units) = codes "a value is more than 1000000000, which is the whole; lower it"
request_words (Rounds Lengths) = codes "there are not as many values as states; write one value for each state"
request_words (Rounds Count) = codes "there are more than 100000 rounds; lower their number"

-- the line of its refusal
abbrev pub request_refusal : RequestFault → List ℕ
request_refusal f = refusal_line (request_fault_number f) (request_words f)

-- for n states and k rounds: does each number stand for a value, is there one for each state, and are there at most so many
-- rounds? The first no.
abbrev pub numbers_fault : {V : Type 0} → Numbering V → ℕ → ℕ → List ℕ → Option RequestFault
numbers_fault v n k numbers = cond (list_all v.lawful numbers) (option_map Rounds (rounds_faults.rounds_fault n (length numbers) n k)) (Some (Part Units))

-- the same of rounds of each kind
abbrev pub kind_fault : Kind → ℕ → ℕ → List ℕ → Option RequestFault
kind_fault (Parts r) n k numbers = numbers_fault parts_numbering n k numbers
kind_fault Marks n k numbers = numbers_fault marks_numbering n k numbers

-- the same of a request
abbrev pub request_fault : Request → ℕ → List ℕ → Option RequestFault
request_fault r n numbers = kind_fault r.kind n r.count numbers
