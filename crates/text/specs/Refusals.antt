-- Which fault a text is refused with: that of the first question whose answer is no.
use Rattle.std.specs.Prelude.{ℕ, ◌+◌, ◌-◌, Bool, cond, List, [], ◌∷◌, length, Some, None, Option, ◌==◌, nat_le, slice_index}
use Rattle.text.specs.declared.word.Word.TheVariants as word
use Rattle.text.specs.declared.fault.FieldFault.TheVariants as field_fault
use Rattle.text.specs.declared.fault.LineFault.{LineFault}
use Rattle.text.specs.declared.fault.LineFault.TheVariants.{Word, Fields, Field, Range, Order, Sum, States, Choices, Branches}
use Rattle.text.specs.declared.fault.FileFault.{FileFault}
use Rattle.text.specs.declared.fault.FileFault.TheVariants as file_fault
use Rattle.text.specs.Cuts.{Line, field, lines}
use Rattle.text.specs.Fields.{lawful_number, lawful_labels, unlawful_place}
use Rattle.text.specs.Words.{one_of}
use Rattle.text.specs.Questions.{last_word, word_fits, fields_fit, number_fits, range_fits, labels_fit, order_fits, sum_fits, states_left, choices_left, branches_left, states_there}

-- a question: no fault where its answer is yes
abbrev pub ask : {F : Type 0} → Bool → F → Option F
ask answer fault = cond answer None (Some fault)

-- this fault, or else the next
abbrev pub or_next : {F : Type 0} → Option F → Option F → Option F
or_next None next = next
or_next (Some fault) next = Some fault

-- the first fault of several questions
abbrev pub first : {F : Type 0} → List (Option F) → Option F
first [] = None
first (f ∷ fs) = or_next f (first fs)

-- the fault of field k where it is no lawful number
abbrev pub number_fault : ℕ → Line → LineFault
number_fault k line = Field (field_fault.Number (unlawful_place lawful_number (field k line) k))

-- the fault of field k where it is no lawful set of labels
abbrev pub labels_fault : ℕ → Line → LineFault
labels_fault k line = Field (field_fault.Labels (unlawful_place lawful_labels (field k line) k))

-- the fault of a line after the lines before it, the newest first: the questions 3 to 12 in their order
abbrev pub line_fault : List Line → Line → Option LineFault
line_fault before line = first (
    ask (word_fits before line) Word
    ∷ ask (fields_fit line) Fields
    ∷ ask (number_fits 1 line) (number_fault 1 line)
    ∷ ask (number_fits 2 line) (number_fault 2 line)
    ∷ ask (range_fits before line) Range
    ∷ ask (labels_fit line) (labels_fault 1 line)
    ∷ ask (order_fits before line) Order
    ∷ ask (sum_fits before line) Sum
    ∷ ask (states_left before line) States
    ∷ ask (choices_left before line) Choices
    ∷ ask (branches_left before line) Branches
    ∷ [])

-- a line's fault with its line number
abbrev pub numbered : ℕ → Option LineFault → Option FileFault
numbered n None = None
numbered n (Some f) = Some (file_fault.Line (record { line = n; fault = f }))

-- the fault of line number n: the questions of the line, and at `end` whether all states are there
abbrev pub line_refusal : List Line → ℕ → Line → Option FileFault
line_refusal before n line = first (numbered n (line_fault before line) ∷ ask (states_there before line) file_fault.Missing ∷ [])

-- the fault of the lines from number n on, after those before: the first line that has one, or else that the last line is no `end`
abbrev pub lines_refusal : List Line → ℕ → List Line → Option FileFault
lines_refusal before n [] = ask (one_of (word.End ∷ []) (last_word before)) file_fault.NoEnd
lines_refusal before n (l ∷ ls) = or_next (line_refusal before n l) (lines_refusal (l ∷ before) (n + 1) ls)

-- the fault of a text, if it is refused
abbrev pub refusal : List ℕ → Option FileFault
refusal text = first (
    ask (nat_le (length text) 65536) file_fault.Long
    ∷ ask (slice_index text (length text - 1) == 10) file_fault.Unended
    ∷ lines_refusal [] 1 (lines text)
    ∷ [])
