-- What reading a text into flat arrays answers and leaves.
use Rattle.std.specs.Prelude.{◌≡◌, ℕ, ◌+◌, List, [], length, Some, None, Ok, Err, vec_items, Result}
use Rattle.text.specs.declared.fault.FileFault.{FileFault}
use Rattle.text.specs.Texts.{Describes}
use Rattle.text.specs.Cuts.{lines}
use Rattle.text.specs.Refusals.{lines_refusal, refusal}
use Rattle.flat.specs.declared.flat.Flat.{Flat}
use Rattle.flat.specs.Drafts.{Emptied}
use Rattle.flat.specs.Flats.{content, LaidOut, StartsOk, OffsetsOk}

-- the arrays hold the content that the text describes, and nothing besides, and their numbers are in order
pub record Holds (text : List ℕ) (f : Flat) : Type 0 where
  pub describes : Describes text (content f)
  pub laid_out : LaidOut (content f).states f
  pub long : length (vec_items f.starts) ≡ length (vec_items f.labels) + 1
  pub rising : StartsOk (length (vec_items f.labels)) (length (vec_items f.offsets)) (vec_items f.starts)
  pub spanned : OffsetsOk (length (vec_items f.branches)) (vec_items f.offsets)

-- the lines of a text that is short and ended are not refused, and the arrays hold its content; or they are refused with this fault
abbrev pub LinesRead : List ℕ → Flat → Result (Unit {0}) FileFault → Type 0
LinesRead text f (Ok _) = (lines_refusal [] 1 (lines text) ≡ None) × Holds text f
LinesRead text f (Err fault) = lines_refusal [] 1 (lines text) ≡ Some fault

-- no question refuses the text, and the arrays hold its content; or this is its fault, and the arrays are empty
abbrev pub ReadInto : List ℕ → Flat → Result (Unit {0}) FileFault → Type 0
ReadInto text f (Ok _) = (refusal text ≡ None) × Holds text f
ReadInto text f (Err fault) = (refusal text ≡ Some fault) × Emptied f
