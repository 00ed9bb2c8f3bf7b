-- What is printed of the answer of one call.
use Rattle.std.specs.Prelude.{ℕ, List, [], ◌++◌, Some, None, Ok, Err, Option, Result, codes, decimal, take}
use Rattle.records.specs.declared.fault.JudgeFault.{JudgeFault}
use Rattle.records.specs.declared.record.Record.{Record}
use Rattle.rules.specs.declared.part.Part.{Part}
use Rattle.rules.specs.Parts.{units_of}
use Rattle.trial.specs.declared.fault.TrialFault.{TrialFault}
use Rattle.trial.specs.declared.verdict.Verdict.{Verdict}
use Rattle.trial.specs.declared.verdict.Verdict.TheVariants.{No, Yes, Undecided}
use Rattle.formula_text.specs.Words.{judge_line}
use Rattle.calls_text.specs.Refusals.{trial_refusal}
use Rattle.calls_text.specs.RecordTexts.{row_text, record_lines}

-- the answer of a call that tells no more than that it was accepted; the first argument says what is printed of a fault
abbrev pub done_text : {F : Type 0} → (F → List ℕ) → Result (Unit {0}) F → List ℕ
done_text refused (Ok _) = codes "ok\n"
done_text refused (Err e) = refused e

-- a lower and an upper end in units, and after how many rounds
abbrev pub pair_text : Part × Part × ℕ → List ℕ
pair_text e = codes " " ++ (decimal (units_of e.0) ++ (codes " " ++ (decimal (units_of e.1) ++ (codes " after " ++ decimal e.2))))

-- the answer of ends
abbrev pub ends_text : Result (Part × Part × ℕ) TrialFault → List ℕ
ends_text (Ok e) = codes "ends" ++ (pair_text e ++ codes "\n")
ends_text (Err e) = trial_refusal e

-- the word of a verdict
abbrev pub verdict_word : Verdict → List ℕ
verdict_word No = codes "no"
verdict_word Yes = codes "yes"
verdict_word Undecided = codes "undecided"

-- the ends that stand behind a verdict, if they were answered
abbrev pub told_ends : Option (Result (Part × Part × ℕ) TrialFault) → List ℕ
told_ends None = []
told_ends (Some (Ok e)) = pair_text e
told_ends (Some (Err e)) = []

-- the answer of a verdict, with these ends behind it
abbrev pub verdict_text : Option (Result (Part × Part × ℕ) TrialFault) → Result Verdict TrialFault → List ℕ
verdict_text ends (Ok v) = codes "verdict " ++ (verdict_word v ++ (told_ends ends ++ codes "\n"))
verdict_text ends (Err e) = trial_refusal e

-- the answer of a judge over n states: how many records it filled, a line for each, and its output
abbrev pub judge_text : ℕ → List Record → List ℕ → List ℕ → Result ℕ JudgeFault → List ℕ
judge_text n records scratch out (Ok k) =
    codes "judge " ++ (decimal k ++ (codes " records\n" ++ (record_lines n 0 (take k records) scratch ++ (codes "out " ++ (row_text out ++ codes "\n")))))
judge_text n records scratch out (Err e) = judge_line e ++ codes "\n"
