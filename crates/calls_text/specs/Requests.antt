-- What a line of a text of calls asks for.
use Rattle.std.specs.Prelude.{ℕ, ◌*◌, cond, ◌&&◌, List, Some, None, Err, Option, Result, ◌==◌, nat_le, replicate, option_and_then, ok_or}
use Rattle.std.specs.Option.{option_map}
use Rattle.std.specs.Result.{result_map_both}
use Rattle.records.specs.declared.comparison.Comparison.{Comparison}
use Rattle.records.specs.declared.record.Kind.TheVariants.{Truth}
use Rattle.formula.specs.Records.{line}
use Rattle.records.specs.declared.record.Record.{Record}
use Rattle.trial.specs.declared.aim.Aim.{Aim}
use Rattle.trial.specs.Judging.{Buffers}
use Rattle.replay.specs.declared.call.Call.{Call}
use Rattle.replay.specs.declared.call.Call.TheVariants as call
use Rattle.calls_text.specs.declared.mistake.Wrong.{Wrong}
use Rattle.calls_text.specs.declared.mistake.Wrong.TheVariants.{Word, Form}
use Rattle.calls_text.specs.declared.kind.LineKind.{LineKind}
use Rattle.calls_text.specs.declared.kind.LineKind.TheVariants as kind
use Rattle.calls_text.specs.declared.request.Request.{Request}
use Rattle.calls_text.specs.declared.request.Request.TheVariants as request
use Rattle.calls_text.specs.declared.sizes.Sizes.{Sizes}
use Rattle.calls_text.specs.Words.{word, word_count, number_at, aim_of, comparison_of, marks_of, kind_of}

-- a call of a trial, with what is given to it: of a judge, the text and the buffers
pub data Given : Type 0 where
  start : List ℕ → List ℕ → Aim → Given
  advance : ℕ → Given
  ends : ℕ → Given
  verdict : ℕ → Comparison → ℕ → Given
  judge : List ℕ → Buffers → Given

-- what is given to a call
abbrev pub given : Call → Given
given (call.Start left right aim answer) = start left.items right.items aim
given (call.Advance count answer) = advance count
given (call.Ends state answer) = ends state
given (call.Verdict state comparison bound answer) = verdict state comparison bound
given (call.Judge text records scratch out answer) = judge text.items (record { records = records.items; scratch = scratch.items; out = out.items })

-- what a line asks for: that a state is held, or that a call is played
pub data Asked : Type 0 where
  hold : ℕ → Asked
  play : Given → Asked

-- what a request of the code asks for
abbrev pub asked : Request → Asked
asked (request.Hold state) = hold state
asked (request.Play unplayed) = play (given unplayed.call)

infixl 10 ◌>>=◌
-- a value that is there goes on
abbrev pub ◌>>=◌ : {A B : Type 0} → Option A → (A → Option B) → Option B
o >>= f = option_and_then f o

-- `start AIM LEFT RIGHT` asks for a start
abbrev pub start_of : List ℕ → Option Asked
start_of line = do
  aim ← aim_of (word 1 line)
  left ← marks_of (word 2 line)
  right ← marks_of (word 3 line)
  Some (play (start left right aim))

-- `verdict STATE COMPARISON BOUND` asks for a verdict
abbrev pub verdict_of : List ℕ → Option Asked
verdict_of line = do
  state ← number_at 1 line
  comparison ← comparison_of (word 2 line)
  bound ← number_at 3 line
  Some (play (verdict state comparison bound))

-- the most records that a line may ask for
abbrev pub most_records : ℕ
most_records = 64

-- the most bytes of scratch, and of output, that a line may ask for
abbrev pub most_bytes : ℕ
most_bytes = 65536

-- the sizes of a judge's buffers that a line writes behind the formula, if they are within these limits
abbrev pub sizes_of : List ℕ → Option Sizes
sizes_of line = do
  records ← number_at 2 line
  scratch ← number_at 3 line
  out ← number_at 4 line
  cond (nat_le records most_records && (nat_le scratch most_bytes && nat_le out most_bytes)) (Some (record { records = records; scratch = scratch; out = out })) None

-- the sizes where it writes none: room for any formula over n states
abbrev pub usual_sizes : ℕ → Sizes
usual_sizes n = record { records = most_records; scratch = most_records * n; out = n }

-- a record that nothing is read into yet
abbrev pub blank : Record
blank = line Truth 0 0 None 0 0

-- buffers of these sizes
abbrev pub buffers_of : Sizes → Buffers
buffers_of s = record { records = replicate s.records blank; scratch = replicate s.scratch 0; out = replicate s.out 0 }

-- `judge FORMULA`, or with three sizes behind it, asks for a judge
abbrev pub judge_of : List ℕ → Sizes → Asked
judge_of line s = play (judge (word 1 line) (buffers_of s))

-- a line of this kind, over n states, by the number of its words
abbrev pub asked_by : LineKind → ℕ → List ℕ → Option Asked
asked_by kind.Hold n line = cond (word_count line == 2) (option_map hold (number_at 1 line)) None
asked_by kind.Start n line = cond (word_count line == 4) (start_of line) None
asked_by kind.Advance n line = cond (word_count line == 2) (option_map (λ k. play (advance k)) (number_at 1 line)) None
asked_by kind.Ends n line = cond (word_count line == 2) (option_map (λ s. play (ends s)) (number_at 1 line)) None
asked_by kind.Verdict n line = cond (word_count line == 4) (verdict_of line) None
asked_by kind.Judge n line = cond (word_count line == 2) (Some (judge_of line (usual_sizes n))) (cond (word_count line == 5) (option_map (judge_of line) (sizes_of line)) None)

-- a line whose first word tells this kind
abbrev pub kind_read : Option LineKind → ℕ → List ℕ → Result Asked Wrong
kind_read None n line = Err Word
kind_read (Some kind) n line = ok_or (asked_by kind n line) (Form kind)

-- what a line asks for, or what is wrong with it
abbrev pub line_read : ℕ → List ℕ → Result Asked Wrong
line_read n line = kind_read (kind_of (word 0 line)) n line

-- what a line that was read asks for
abbrev pub asked_of : Result Request Wrong → Result Asked Wrong
asked_of r = result_map_both asked (λ w. w) r
