-- The number of each fault, and where it stands.
use Rattle.std.specs.Prelude.{ℕ, Some, None, Option}
use Rattle.text.specs.declared.fault.FieldPlace.{FieldPlace}
use Rattle.text.specs.declared.fault.FieldFault.{FieldFault}
use Rattle.text.specs.declared.fault.FieldFault.TheVariants.{Number, Labels}
use Rattle.text.specs.declared.fault.LineFault.{LineFault}
use Rattle.text.specs.declared.fault.LineFault.TheVariants.{Word, Fields, Field, Range, Order, Sum, States, Choices, Branches}
use Rattle.text.specs.declared.fault.FileFault.{FileFault}
use Rattle.text.specs.declared.fault.FileFault.TheVariants.{Long, Unended, Line, Missing, NoEnd}
use Rattle.text.specs.declared.fault.NoRoom.{NoRoom}

-- the number of a field's fault
abbrev pub field_fault_number : FieldFault → ℕ
field_fault_number (Number at) = 5
field_fault_number (Labels at) = 7

-- the number of a line's fault
abbrev pub line_fault_number : LineFault → ℕ
line_fault_number Word = 3
line_fault_number Fields = 4
line_fault_number (Field fault) = field_fault_number fault
line_fault_number Range = 6
line_fault_number Order = 8
line_fault_number Sum = 9
line_fault_number States = 10
line_fault_number Choices = 11
line_fault_number Branches = 12

-- the number of a text's fault
abbrev pub file_fault_number : FileFault → ℕ
file_fault_number Long = 1
file_fault_number Unended = 2
file_fault_number (Line at) = line_fault_number at.fault
file_fault_number Missing = 13
file_fault_number NoEnd = 14

-- the number of the fault of a buffer that is too short
abbrev pub no_room_number : NoRoom → ℕ
no_room_number _ = 15

-- the line of a text's fault, from 1; 0 for one of the whole text
abbrev pub fault_line : FileFault → ℕ
fault_line Long = 0
fault_line Unended = 0
fault_line (Line at) = at.line
fault_line Missing = 0
fault_line NoEnd = 0

-- where a field's fault stands: the field, and the length of the field's longest lawful beginning
abbrev pub place : FieldFault → FieldPlace
place (Number at) = at
place (Labels at) = at

-- the same of a line's fault, where it is one of a field
abbrev pub line_fault_field : LineFault → Option FieldPlace
line_fault_field Word = None
line_fault_field Fields = None
line_fault_field (Field fault) = Some (place fault)
line_fault_field Range = None
line_fault_field Order = None
line_fault_field Sum = None
line_fault_field States = None
line_fault_field Choices = None
line_fault_field Branches = None

-- the same of a text's fault
abbrev pub fault_field : FileFault → Option FieldPlace
fault_field Long = None
fault_field Unended = None
fault_field (Line at) = line_fault_field at.fault
fault_field Missing = None
fault_field NoEnd = None
