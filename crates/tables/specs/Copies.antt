-- What loading a text and then writing it answers and leaves.
use Rattle.std.specs.Prelude.{◌≡◌, ℕ, List, Ok, Err, Result}
use Rattle.text.specs.Faults.{file_fault_number, no_room_number}
use Rattle.tables.specs.declared.copy.CopyFault.{CopyFault}
use Rattle.tables.specs.declared.copy.CopyFault.TheVariants.{Load, Write}
use Rattle.flat.specs.declared.flat.Flat.{Flat}
use Rattle.tables.specs.Loads.{Accepted, Rejected}
use Rattle.tables.specs.Writes.{Wrote, NotWritten}

-- the number of a refusal
abbrev pub copy_number : CopyFault → ℕ
copy_number (Load fault) = file_fault_number fault
copy_number (Write fault) = no_room_number fault

-- a text is accepted, and its own bytes are written to the front of the buffer; or it is refused; or it is accepted
-- and does not fit. Where nothing is written, the buffer is as it was; where the text is refused, so are the tables.
abbrev pub Copied : List ℕ → Flat → Flat → List ℕ → List ℕ → Result ℕ CopyFault → Type 0
Copied text before after old new (Ok n) = Accepted text after × Wrote text old new n
Copied text before after old new (Err (Load fault)) = Rejected text fault before after × (new ≡ old)
Copied text before after old new (Err (Write fault)) = Accepted text after × NotWritten text old new
