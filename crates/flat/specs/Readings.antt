-- What the loader knows while it reads a text, against the lines before, the newest first.
use Rattle.std.specs.Prelude.{◌≡◌, ℕ, ◌-◌, ◌<◌, Bool, true, cond, List, [], ◌∷◌, length, drop, Some, None, Ok, Err, vec_items, Option, Result, ◌==◌, nat_lt, slice_get}
use Rattle.std.specs.Option.{option_map_or}
use Rattle.model.specs.declared.branch.Branch.{Branch}
use Rattle.model.specs.Mdp.{Row, total}
use Rattle.text.specs.declared.word.Word.{Word}
use Rattle.text.specs.declared.word.Word.TheVariants as word
use Rattle.text.specs.declared.fault.LineFault.{LineFault}
use Rattle.text.specs.declared.fault.FileFault.{FileFault}
use Rattle.text.specs.Cuts.{Line, field}
use Rattle.text.specs.Fields.{lawful_number, labels_of}
use Rattle.text.specs.Words.{one_of}
use Rattle.text.specs.Questions.{word, number, last_word, states_given, denominator_given, row_sum, above_last, count, word_fits}
use Rattle.text.specs.Refusals.{ask, or_next, number_fault, line_fault, line_refusal}
use Rattle.flat.specs.declared.flat.Flat.{Flat}
use Rattle.flat.specs.declared.loader.Header.{Header}
use Rattle.flat.specs.declared.loader.Loader.{Loader}
use Rattle.flat.specs.declared.loader.Record.{Record}
use Rattle.flat.specs.declared.loader.Record.TheVariants as record_of
use Rattle.flat.specs.Drafts.{Emptied, Same, Labelled, Opened, Branched}
use Rattle.flat.specs.Flats.{row_start}

-- the row that is open after a line with this word, so far; empty where none is
abbrev pub open_row : Option Word → List ℕ → List Branch → Row
open_row last offsets branches = cond (one_of (word.Choice ∷ word.Branch ∷ []) last) (drop (row_start offsets) branches) []

-- the row that is open in the loader
abbrev pub row_of : Loader → Row
row_of r = open_row r.last (vec_items r.flat.now.offsets) (vec_items r.flat.now.branches)

-- is the target above that of the row's last branch, if it has one?
abbrev pub goes_above : Row → ℕ → Bool
goes_above row target = option_map_or (λ b. nat_lt b.target target) (slice_get row (length row - 1)) true

-- before the first line: the arrays are empty, and there is no line and no state
pub record Begun (r : Loader) : Type 0 where
  pub arrays : Emptied r.flat.now
  pub last : r.last ≡ None
  pub states : r.header.states ≡ 0
  pub denominator : r.header.denominator ≡ 0

-- what the loader knows is what the lines before say
pub record Follows (r : Loader) (before : List Line) : Type 0 where
  pub last : r.last ≡ last_word before
  pub begun : r.last ≡ None → before ≡ []
  pub states : r.header.states ≡ states_given before
  pub denominator : r.header.denominator ≡ denominator_given before
  pub row : total (row_of r) ≡ row_sum before
  pub target : (t : ℕ) → goes_above (row_of r) t ≡ above_last before t
  pub state_count : length (vec_items r.flat.now.labels) ≡ count word.State before
  pub choice_count : length (vec_items r.flat.now.offsets) ≡ count word.Choice before
  pub branch_count : length (vec_items r.flat.now.branches) ≡ count word.Branch before

-- there is room for what a line says
abbrev pub Admits : Loader → Record → Type 0
Admits r (record_of.Header header) = Unit {0}
Admits r (record_of.State labels) = length (vec_items r.flat.now.labels) < 512
Admits r record_of.Choice = length (vec_items r.flat.now.offsets) < 2048
Admits r (record_of.Branch branch) = length (vec_items r.flat.now.branches) < 4096
Admits r record_of.End = Unit {0}

-- the line says this
abbrev pub Says : Line → Record → Type 0
Says line (record_of.Header header) = (word line ≡ Some word.Mdp) × (header.states ≡ number 1 line) × (header.denominator ≡ number 2 line)
Says line (record_of.State labels) = (word line ≡ Some word.State) × (labels.letters ≡ labels_of (field 1 line))
Says line record_of.Choice = word line ≡ Some word.Choice
Says line (record_of.Branch branch) = (word line ≡ Some word.Branch) × (branch.target ≡ number 1 line) × (branch.weight ≡ number 2 line)
Says line record_of.End = word line ≡ Some word.End

-- fields 1 and 2 are lawful numbers, and these are they; or the line is refused, whatever is asked next
abbrev pub NumbersRead : Line → Result (ℕ × ℕ) LineFault → Type 0
NumbersRead line (Ok v) = (lawful_number (field 1 line) ≡ true) × (lawful_number (field 2 line) ≡ true) × (v.0 ≡ number 1 line) × (v.1 ≡ number 2 line)
NumbersRead line (Err fault) = (next : Option LineFault) → or_next (ask (lawful_number (field 1 line)) (number_fault 1 line)) (or_next (ask (lawful_number (field 2 line)) (number_fault 2 line)) next) ≡ Some fault

-- the line passes all questions, and says this; or it is refused
abbrev pub LineRead : List Line → Line → Result Record LineFault → Type 0
LineRead before line (Ok r) = (line_fault before line ≡ None) × Says line r
LineRead before line (Err fault) = line_fault before line ≡ Some fault

-- what reading a line answers, where it has this word, which may stand after the lines that the loader has read
abbrev pub RestRead : Word → Loader → Line → Result Record LineFault → Type 0
RestRead w r line result = (before : List Line) → Follows r before → word line ≡ Some w → word_fits before line ≡ true → LineRead before line result

-- the word of a line that says this
abbrev pub word_of_record : Record → Word
word_of_record (record_of.Header header) = word.Mdp
word_of_record (record_of.State labels) = word.State
word_of_record record_of.Choice = word.Choice
word_of_record (record_of.Branch branch) = word.Branch
word_of_record record_of.End = word.End

-- what a line says is put into the arrays
abbrev pub Recorded : Record → Flat → Flat → Type 0
Recorded (record_of.Header header) f g = Same f g
Recorded (record_of.State labels) f g = Labelled labels f g
Recorded record_of.Choice f g = Opened f g
Recorded (record_of.Branch branch) f g = Branched branch f g
Recorded record_of.End f g = Same f g

-- the header that is known after a line that says this
abbrev pub header_after : Header → Record → Header
header_after header (record_of.Header new) = new
header_after header (record_of.State labels) = header
header_after header record_of.Choice = header
header_after header (record_of.Branch branch) = header
header_after header record_of.End = header

-- with a line that says this, the loader goes on from r to q
pub record Put (said : Record) (r q : Loader) : Type 0 where
  pub arrays : Recorded said r.flat.now q.flat.now
  pub last : q.last ≡ Some (word_of_record said)
  pub header : q.header ≡ header_after r.header said

-- with the line, the loader goes on from r to q
pub record Stepped (line : Line) (r q : Loader) : Type 0 where
  pub said : Record
  pub says : Says line said
  pub put : Put said r q

-- line number n is not refused, and the loader goes on with it; or it is refused with this fault
abbrev pub StepRead : List Line → ℕ → Line → Loader → Loader → Result (Unit {0}) FileFault → Type 0
StepRead before n line r q (Ok _) = (line_refusal before n line ≡ None) × Stepped line r q
StepRead before n line r q (Err fault) = line_refusal before n line ≡ Some fault

-- are all states there, if this is the end?
abbrev pub all_there : Loader → Record → Bool
all_there r (record_of.Header header) = true
all_there r (record_of.State labels) = true
all_there r record_of.Choice = true
all_there r (record_of.Branch branch) = true
all_there r record_of.End = length (vec_items r.flat.now.labels) == r.header.states
