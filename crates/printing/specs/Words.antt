-- What a user is told of each fault, and the first line of a refusal.
use Rattle.std.specs.Prelude.{ℕ, List, [], ◌++◌, Some, None, codes, decimal, Option}
use Rattle.text.specs.declared.fault.FieldPlace.{FieldPlace}
use Rattle.text.specs.declared.fault.FieldFault.{FieldFault}
use Rattle.text.specs.declared.fault.FieldFault.TheVariants.{Number, Labels}
use Rattle.text.specs.declared.fault.LineFault.{LineFault}
use Rattle.text.specs.declared.fault.LineFault.TheVariants.{Word, Fields, Field, Range, Order, Sum, States, Choices, Branches}
use Rattle.text.specs.declared.fault.FileFault.{FileFault}
use Rattle.text.specs.declared.fault.FileFault.TheVariants.{Long, Unended, Line, Missing, NoEnd}
use Rattle.text.specs.Faults.{file_fault_number, fault_line, fault_field}
use Rattle.ladder.specs.declared.fault.LadderFault.{LadderFault}
use Rattle.ladder.specs.declared.fault.LadderFault.TheVariants.{Rungs, Denominator, Weight}
use Rattle.ladder.specs.Refusals.{fault_number}
use Rattle.layers.specs.declared.fault.HoldFault.{HoldFault}
use Rattle.layers.specs.declared.fault.HoldFault.TheVariants.{Held}
use Rattle.layers.specs.HoldAnswers as hold

-- the words on a field's fault
abbrev pub field_words : FieldFault → List ℕ
field_words (Number at) = codes "this is no number; write 0, or one to seven digits that do not start with 0"
field_words (Labels at) = codes "these are no labels; write letters from a to p in strictly ascending order, or - for none"

-- the words on a line's fault
abbrev pub line_words : LineFault → List ℕ
line_words Word = codes "this word may not stand here; mdp comes first, then for each state s, then for each of its choices c and its b lines, and end last; a tab, no blank, ends the word"
line_words Fields = codes "this line has too few or too many fields; mdp and b have two fields after the word, s has one, c and end have none, and one tab parts two fields"
line_words (Field fault) = field_words fault
line_words Range = codes "a number is out of range; there are 1 to 512 states, the denominator is 1 to 1000000, a target is below the number of states, a weight is 1 to the denominator"
line_words Order = codes "this target is not above the target before it; sort the b lines of a choice by their targets, and name each target once"
line_words Sum = codes "the weights of the choice that ends above this line do not add up to the denominator; change its b lines until they do"
line_words States = codes "this is one state more than the mdp line says; raise the number of states there, or take this state out"
line_words Choices = codes "this is choice number 2049, and a text has 2048 at the most; take choices out"
line_words Branches = codes "this is branch number 4097, and a text has 4096 at the most; take branches out"

-- the words on a text's fault
abbrev pub file_words : FileFault → List ℕ
file_words Long = codes "the text is longer than 65536 bytes; make it shorter"
file_words Unended = codes "the text does not end with a line feed; end its last line with one"
file_words (Line at) = line_words at.fault
file_words Missing = codes "the text ends before all of its states have come; add the states that are missing, or lower the number of states in the mdp line"
file_words NoEnd = codes "the text stops without an end line; write end as its last line"

-- the words on a ladder's fault
abbrev pub ladder_words : LadderFault → List ℕ
ladder_words Rungs = codes "a ladder has 1 to 511 rungs; change the first number of ladder:RUNGS:DENOMINATOR:WEIGHT"
ladder_words Denominator = codes "the denominator of a ladder is 1 to 1000000; change the second number of ladder:RUNGS:DENOMINATOR:WEIGHT"
ladder_words Weight = codes "the weight of a ladder is 1 to its denominator; change the third number of ladder:RUNGS:DENOMINATOR:WEIGHT"

-- the words on a hold's fault
abbrev pub hold_words : HoldFault → List ℕ
hold_words Held = codes "there is no such state to hold; states are numbered from 0 to one below how many there are"

-- the field and the length, of a fault that has them
abbrev pub field_text : Option FieldPlace → List ℕ
field_text None = []
field_text (Some at) = codes " field " ++ (decimal at.field ++ (codes " length " ++ decimal at.length))

-- what a text's refusal begins with: the number and the place of its fault
abbrev pub refused_at : FileFault → List ℕ
refused_at f = codes "refused " ++ (decimal (file_fault_number f) ++ (codes " line " ++ (decimal (fault_line f) ++ field_text (fault_field f))))

-- the first line of a text's refusal: its number, its place and its words
abbrev pub file_refusal : FileFault → List ℕ
file_refusal f = refused_at f ++ (codes ": " ++ file_words f)

-- the line of a refusal that has no place in a text: its number and its words
abbrev pub refusal_line : ℕ → List ℕ → List ℕ
refusal_line number words = codes "refused " ++ (decimal number ++ (codes ": " ++ words))

-- the first line of a ladder's refusal
abbrev pub ladder_refusal : LadderFault → List ℕ
ladder_refusal f = refusal_line (fault_number f) (ladder_words f)

-- the first line of a hold's refusal
abbrev pub hold_refusal : HoldFault → List ℕ
hold_refusal f = refusal_line (hold.fault_number f) (hold_words f)
