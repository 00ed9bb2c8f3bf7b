-- What the program answers to the words of the command line.
use Rattle.std.specs.Prelude.{◌≡◌, ◌⊎◌, ℕ, cond, List, map, ◌++◌, length, Some, None, Ok, Err, vec_items, string_bytes, codes, Option, Result, MatchOption, MatchResult, ◌==◌}
use Rattle.model.specs.Mdp.{Mdp}
use Rattle.text.specs.Contents.{Content, model_of}
use Rattle.text.specs.Texts.{text_of, Describes}
use Rattle.text.specs.Refusals.{refusal}
use Rattle.ladder.specs.Ladders.{ladder_model}
use Rattle.ladder.specs.Refusals.{ladder_fault}
use Rattle.ladder.specs.declared.fault.LadderFault.{LadderFault}
use Rattle.replay.specs.declared.call.Call.{Call}
use Rattle.replay.specs.Replays.{Replayed}
use Rattle.calls_text.specs.Requests.{given}
use Rattle.calls_text.specs.Texts.{Contents, text_read}
use Rattle.calls_text.specs.Mistakes.{mistake_text as line_text}
use Rattle.calls_text.specs.Holdings.{holds_text, all_held}
use Rattle.calls_text.specs.Prints.{printed as calls_printed}
use Rattle.calls_text.specs.VerdictEnds.{VerdictsReadOff}
use Rattle.flat.specs.Flats.{content}
use Rattle.ladder.specs.Makes.{model_of as ladder_model_of}
use Rattle.limits_text.specs.declared.outcome.Outcome.{Outcome}
use Rattle.limits_text.specs.declared.summary.Summary.{Summary}
use Rattle.limits_text.specs.Lists.{Written, nothing, ListReported, ListBegun}
use Rattle.limits_text.specs.Summaries.{summary_of, summary_text}
use Rattle.console.specs.declared.found.Found.{Found}
use Rattle.console.specs.declared.found.Found.TheVariants as found
use Rattle.records.specs.declared.fault.JudgeFault.{JudgeFault}
use Rattle.formula.specs.Answers.{CountAnswer}
use Rattle.formula_text.specs.Answers.{lent_records, Tabled}
use Rattle.formula_text.specs.Words.{judge_refusal}
use Rattle.rounds_text.specs.declared.kind.Kind.{Kind}
use Rattle.rounds_text.specs.declared.kind.Kind.TheVariants.{Parts, Marks}
use Rattle.rounds_text.specs.declared.request.Request.{Request}
use Rattle.rounds_text.specs.Given.{numbers_given, are_marks}
use Rattle.rounds_text.specs.Refusals.{request_fault, request_refusal}
use Rattle.rounds_text.specs.Requests.{request_text}
use Rattle.console.specs.declared.command.Command.{Command}
use Rattle.console.specs.declared.command.Command.TheVariants.{Help, Print, Rounds, Formula, Trial, Check}
use Rattle.console.specs.declared.command.Mistake.{Mistake}
use Rattle.console.specs.declared.command.Mistake.TheVariants as mistake
use Rattle.console.specs.declared.command.RoundsMistake.{RoundsMistake}
use Rattle.console.specs.declared.command.RoundsMistake.TheVariants.{NoValues, NoMarks}
use Rattle.console.specs.declared.command.ModelName.{ModelName}
use Rattle.console.specs.declared.command.ModelName.TheVariants.{File, Ladder}
use Rattle.console.specs.declared.command.Form.{Form}
use Rattle.console.specs.declared.command.Form.TheVariants.{Listing, Text}
use Rattle.console.specs.declared.reply.Reply.{Reply}
use Rattle.console.specs.declared.reply.Reply.TheVariants as reply
use Rattle.printing.specs.Words.{ladder_refusal}
use Rattle.printing.specs.Carets.{refusal_text}
use Rattle.printing.specs.Layouts.{model_content}
use Rattle.printing.specs.Listings.{show_text}
use Rattle.console.specs.Commands.{word_at, command_of}
use Rattle.console.specs.Helps.{help_text, mistake_text, no_file_text, wrong_line_text}

-- an answer: the bytes of what was asked for, of a refusal, or of a sentence on what is wrong
pub data Answer : Type 0 where
  printed : List ℕ → Answer
  refused : List ℕ → Answer
  wrong : List ℕ → Answer

-- the answer that a reply holds
abbrev pub answer_of : Reply → Answer
answer_of (reply.Printed bytes) = printed (vec_items bytes)
answer_of (reply.Refused text) = refused (string_bytes text)
answer_of (reply.Wrong text) = wrong (string_bytes text)

-- a content in the form in which it is printed: the listing of `show`, with the length of its text, or its text
abbrev pub in_form : Form → Content → List ℕ
in_form Listing c = show_text (length (text_of c)) c
in_form Text c = text_of c

-- the answer that prints a model in a form
abbrev pub form_answer : Form → Mdp → Answer
form_answer form m = printed (in_form form (model_content m))

-- the answer on a model is what a function says of it
abbrev pub Gives : (Mdp → Answer) → Mdp → Answer → Type 0
Gives on m a = a ≡ on m

-- an answer, or the line of a refusal where there is a fault
abbrev pub or_refused : {E : Type 0} → (E → List ℕ) → Option E → Answer → Answer
or_refused line None a = a
or_refused line (Some f) a = refused (line f ++ codes "\n")

-- the answer of rounds on a model, from the given numbers
abbrev pub rounds_answer : Request → List ℕ → Mdp → Answer
rounds_answer r numbers m = or_refused request_refusal (request_fault r m.states numbers) (printed (request_text r m numbers))

-- the model that was found: that of the content in tables, or that of a ladder
abbrev pub model_in : Found → Mdp
model_in (found.Tables t) = model_of (content t.kept)
model_in (found.Ladder l) = ladder_model_of l

-- the model of a ladder, or the answer with its refusal
abbrev pub ladder_found : ℕ → ℕ → ℕ → Option LadderFault → Result Mdp Answer
ladder_found r d w None = Ok (ladder_model r d w)
ladder_found r d w (Some f) = Err (refused (ladder_refusal f ++ codes "\n"))

-- the model of the content that a text describes, or the answer with its refusal
abbrev pub TextFound : List ℕ → Result Mdp Answer → Type 0
TextFound text r = MatchOption (refusal text) ((c : Content) × Describes text c × (r ≡ Ok (model_of c))) (λ f. r ≡ Err (refused (refusal_text f text)))

-- the model that is named, or the answer that tells why there is none, given the path of its file and the bytes of that, if it could be read
abbrev pub ModelFound : ModelName → List ℕ → Option (List ℕ) → Result Mdp Answer → Type 0
ModelFound File path None r = r ≡ Err (wrong (no_file_text path))
ModelFound File path (Some text) r = TextFound text r
ModelFound (Ladder n) path file r = r ≡ ladder_found n.rungs n.denominator n.weight (ladder_fault n.rungs n.denominator n.weight)

-- the answer on the model that was found, or that which tells why there is none
abbrev pub Follows : (Mdp → Answer → Type 0) → Result Mdp Answer → Answer → Type 0
Follows on (Ok m) a = on m a
Follows on (Err b) a = a ≡ b

-- the answer of a text, by that on a model
abbrev pub TextAnswer : (Mdp → Answer → Type 0) → List ℕ → Answer → Type 0
TextAnswer on text a = (r : Result Mdp Answer) × TextFound text r × Follows on r a

-- the answer of a model that is named, by that on a model
abbrev pub ModelAnswer : (Mdp → Answer → Type 0) → ModelName → List ℕ → Option (List ℕ) → Answer → Type 0
ModelAnswer on name path file a = (r : Result Mdp Answer) × ModelFound name path file r × Follows on r a

-- numbers, if they are there, as values of a rule: marks are 0 or 1
abbrev pub as_values : Kind → Option (List ℕ) → Result (List ℕ) RoundsMistake
as_values kind None = Err NoValues
as_values (Parts r) (Some numbers) = Ok numbers
as_values Marks (Some numbers) = cond (are_marks numbers) (Ok numbers) (Err NoMarks)

-- the numbers that a word gives for values, or what is wrong with it
abbrev pub values_given : Kind → List ℕ → Result (List ℕ) RoundsMistake
values_given kind word = as_values kind (numbers_given word)

-- the answer of rounds on a model that is named, given the words of the command line
abbrev pub RoundsAnswer : Request → ModelName → List ℕ → Option (List ℕ) → List (List ℕ) → Answer → Type 0
RoundsAnswer r m path file args a =
    MatchResult (values_given r.kind (word_at 5 args)) (λ numbers. ModelAnswer (Gives (rounds_answer r numbers)) m path file a) (λ e. a ≡ wrong (mistake_text (mistake.Rounds e) args))

-- the answer of a formula's text: the table of its records, or the refusal of the fault for which it is not read
abbrev pub FormulaTextAnswer : List ℕ → Answer → Type 0
FormulaTextAnswer text (printed table) = Tabled text table
FormulaTextAnswer text (refused refusal) = (f : JudgeFault) × CountAnswer text lent_records (Err f) × (refusal ≡ judge_refusal f text)
FormulaTextAnswer text (wrong sentence) = ⊥

-- calls were made in turn on a trial of a model with some states held, and the answer prints what came of the states and of the
-- calls; each verdict among them is read off the ends that are printed with it
pub record CallsReplayed (m : Mdp) (c : Contents) (a : Answer) : Type 0 where
  pub before : List Call
  pub after : List Call
  pub asked : map given before ≡ c.calls
  pub replayed : Replayed (all_held c.holds m) before after
  pub verdicts : VerdictsReadOff after
  pub answer : a ≡ printed (holds_text m.states c.holds ++ calls_printed m.states None after)

-- the answer of a text of calls on a model, given its path and its bytes, if they could be read: what comes of the calls, or its first mistake
abbrev pub CallsAnswer : List ℕ → Option (List ℕ) → Mdp → Answer → Type 0
CallsAnswer path None m a = a ≡ wrong (no_file_text path)
CallsAnswer path (Some text) m a = MatchResult (text_read m.states text) (λ c. CallsReplayed m c a) (λ e. a ≡ wrong (wrong_line_text path (line_text e)))

-- the answer after a list of limits: its summary, with exit status 0 only if no formula of it is refused
abbrev pub summary_answer : Summary → Answer
summary_answer s = cond (s.refused == 0) (printed (summary_text s)) (refused (summary_text s))

-- what is written of a list of limits, and the answer then, given the list's path and its bytes, if it could be read
abbrev pub LimitsAnswer : List ℕ → Option (List ℕ) → Result Mdp Answer → Written → Answer → Type 0
LimitsAnswer path list (Err b) w a = (w ≡ nothing) × (a ≡ b)
LimitsAnswer path None (Ok m) w a = (w ≡ nothing) × (a ≡ wrong (no_file_text path))
LimitsAnswer path (Some list) (Ok m) w a = (outcomes : List Outcome) × ListReported m list outcomes w ×
    (a ≡ summary_answer (summary_of outcomes))

-- the same by the name of the model
abbrev pub CheckAnswer : ModelName → List ℕ → Option (List ℕ) → List ℕ → Option (List ℕ) → Written → Answer → Type 0
CheckAnswer name path file limits list w a = (r : Result Mdp Answer) × ModelFound name path file r × LimitsAnswer limits list r w a

-- what was written of a list of limits over a model where an error came: nothing, or a beginning of what is written of it
abbrev pub LimitsBegun : Option (List ℕ) → Mdp → Written → Type 0
LimitsBegun limits m w = (w ≡ nothing) ⊎
    ((list : List ℕ) × (limits ≡ Some list) × ListBegun m list w)

-- the same by the name of the model
abbrev pub CheckBegun : ModelName → List ℕ → Option (List ℕ) → Option (List ℕ) → Written → Type 0
CheckBegun name path file limits w = (w ≡ nothing) ⊎
    ((m : Mdp) × ModelFound name path file (Ok m) × LimitsBegun limits m w)

-- the path of a model's file, given the words of the command line
abbrev pub model_path : ModelName → List (List ℕ) → Option (List ℕ)
model_path File args = Some (word_at 1 args)
model_path (Ladder n) args = None

-- the path of file k that a command wants read: file 0 is that of its model, and file 1 that of the calls of a trial or of a list of limits
abbrev pub path_wanted : Result Command Mistake → ℕ → List (List ℕ) → Option (List ℕ)
path_wanted (Ok Help) k args = None
path_wanted (Ok (Print form m)) k args = cond (k == 0) (model_path m args) None
path_wanted (Ok (Rounds m r)) k args = cond (k == 0) (model_path m args) None
path_wanted (Ok Formula) k args = None
path_wanted (Ok (Trial m)) k args = cond (k == 0) (model_path m args) (cond (k == 1) (Some (word_at 2 args)) None)
path_wanted (Ok (Check m)) k args = cond (k == 0) (model_path m args) (cond (k == 1) (Some (word_at 2 args)) None)
path_wanted (Err e) k args = None

-- the answer to a command and what is written before it, given the words of the command line and the bytes of files 0 and 1 that they want read
abbrev pub CommandAnswer : Result Command Mistake → List (List ℕ) → Option (List ℕ) → Option (List ℕ) → Written → Answer → Type 0
CommandAnswer (Ok Help) args file second w a = (w ≡ nothing) × (a ≡ printed help_text)
CommandAnswer (Ok (Print form m)) args file second w a = (w ≡ nothing) × ModelAnswer (Gives (form_answer form)) m (word_at 1 args) file a
CommandAnswer (Ok (Rounds m r)) args file second w a = (w ≡ nothing) × RoundsAnswer r m (word_at 1 args) file args a
CommandAnswer (Ok Formula) args file second w a = (w ≡ nothing) × FormulaTextAnswer (word_at 1 args) a
CommandAnswer (Ok (Trial m)) args file second w a = (w ≡ nothing) × ModelAnswer (CallsAnswer (word_at 2 args) second) m (word_at 1 args) file a
CommandAnswer (Ok (Check m)) args file second w a = CheckAnswer m (word_at 1 args) file (word_at 2 args) second w a
CommandAnswer (Err e) args file second w a = (w ≡ nothing) × (a ≡ wrong (mistake_text e args))

-- the answer to the words of the command line and what is written before it, given the bytes of files 0 and 1 that they want read, if these could be read
abbrev pub Answers : List (List ℕ) → Option (List ℕ) → Option (List ℕ) → Written → Answer → Type 0
Answers args file second w a = CommandAnswer (command_of args) args file second w a

-- what was written of a command where an error came, given the words of the command line and the bytes of files 0 and 1 that they
-- want read: nothing, or a beginning of what is written of a list of limits
abbrev pub CommandBegun : Result Command Mistake → List (List ℕ) → Option (List ℕ) → Option (List ℕ) → Written → Type 0
CommandBegun (Ok Help) args file second w = w ≡ nothing
CommandBegun (Ok (Print form m)) args file second w = w ≡ nothing
CommandBegun (Ok (Rounds m r)) args file second w = w ≡ nothing
CommandBegun (Ok Formula) args file second w = w ≡ nothing
CommandBegun (Ok (Trial m)) args file second w = w ≡ nothing
CommandBegun (Ok (Check m)) args file second w = CheckBegun m (word_at 1 args) file second w
CommandBegun (Err e) args file second w = w ≡ nothing

-- the same by the words of the command line
abbrev pub Begun : List (List ℕ) → Option (List ℕ) → Option (List ℕ) → Written → Type 0
Begun args file second w = CommandBegun (command_of args) args file second w
