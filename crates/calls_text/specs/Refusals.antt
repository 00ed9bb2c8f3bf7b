-- What is told of a call that is refused.
use Rattle.std.specs.Prelude.{ℕ, List, ◌++◌, codes}
use Rattle.trial.specs.declared.fault.TrialFault.{TrialFault}
use Rattle.trial.specs.declared.fault.TrialFault.TheVariants.{Lengths, Marks, NoQuery, Rounds, State, Bound, Aim}
use Rattle.trial.specs.Faults.{fault_number}
use Rattle.printing.specs.Words.{refusal_line}

-- the words on a trial's fault
abbrev pub trial_words : TrialFault → List ℕ
trial_words Lengths = codes "each list of marks has a mark for each state; write as many digits as there are states"
trial_words Marks = codes "a mark is 0 or 1; write 1 for a state in the set, and 0 for any other"
trial_words NoQuery = codes "no query stands; start one first, and again after a judge, which ends it"
trial_words Rounds = codes "a query has at most 100000 rounds; advance it by fewer"
trial_words State = codes "there is no such state; states are numbered from 0 to one below how many there are"
trial_words Bound = codes "a bound is at most 1000000000, which is the whole; lower it"
trial_words Aim = codes "< and <= are decided by a query for the best, > and >= by one for the worst; start the other query, or change the comparison"

-- what is printed of a refusal with this number and these words: its line, with a line feed
abbrev pub refused_text : ℕ → List ℕ → List ℕ
refused_text number words = refusal_line number words ++ codes "\n"

-- what is printed of a refused call
abbrev pub trial_refusal : TrialFault → List ℕ
trial_refusal e = refused_text (fault_number e) (trial_words e)
