-- What is printed of calls that were played.
use Rattle.std.specs.Prelude.{ℕ, cond, List, [], ◌∷◌, ◌++◌, Some, None, Option, Result, ◌==◌}
use Rattle.rules.specs.declared.part.Part.{Part}
use Rattle.trial.specs.declared.fault.TrialFault.{TrialFault}
use Rattle.replay.specs.declared.call.Call.{Call}
use Rattle.replay.specs.declared.call.Call.TheVariants.{Start, Advance, Ends, Verdict, Judge}
use Rattle.calls_text.specs.declared.print.Kept.{Kept}
use Rattle.calls_text.specs.Refusals.{trial_refusal}
use Rattle.calls_text.specs.AnswerTexts.{done_text, ends_text, verdict_text, judge_text}

-- what is printed of ends that were kept until now
abbrev pub kept_text : Option Kept → List ℕ
kept_text None = []
kept_text (Some k) = ends_text k.answer

-- those of them that are of the state s
abbrev pub own_ends : ℕ → Option Kept → Option (Result (Part × Part × ℕ) TrialFault)
own_ends s None = None
own_ends s (Some k) = cond (k.state == s) (Some k.answer) None

-- those of them that are of another state
abbrev pub other_ends : ℕ → Option Kept → Option Kept
other_ends s None = None
other_ends s (Some k) = cond (k.state == s) None (Some k)

-- what is printed of calls of a trial over n states, after ends that are kept: one line for each, but for a judge, and none for a
-- call that is not played; a verdict is printed with the ends of its state that were answered just before it
abbrev pub printed : ℕ → Option Kept → List Call → List ℕ
printed n k [] = kept_text k
printed n k (Start left right aim (Some a) ∷ cs) = kept_text k ++ (done_text trial_refusal a ++ printed n None cs)
printed n k (Advance count (Some a) ∷ cs) = kept_text k ++ (done_text trial_refusal a ++ printed n None cs)
printed n k (Ends s (Some a) ∷ cs) = kept_text k ++ printed n (Some (record { state = s; answer = a })) cs
printed n k (Verdict s comparison bound (Some a) ∷ cs) = kept_text (other_ends s k) ++ (verdict_text (own_ends s k) a ++ printed n None cs)
printed n k (Judge text records scratch out (Some a) ∷ cs) = kept_text k ++ (judge_text n records.items scratch.items out.items a ++ printed n None cs)
printed n k (c ∷ cs) = printed n k cs
