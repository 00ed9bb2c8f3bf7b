-- A refused line and the caret under it.
use Rattle.std.specs.Prelude.{ℕ, zero, suc, ◌+◌, ◌-◌, min, cond, ◌||◌, List, [], ◌∷◌, ◌++◌, map, length, take, Some, None, codes, Option, ◌==◌}
use Rattle.text.specs.declared.fault.FieldPlace.{FieldPlace}
use Rattle.text.specs.declared.fault.FileFault.{FileFault}
use Rattle.text.specs.Cuts.{piece}
use Rattle.text.specs.Faults.{fault_line, fault_field}
use Rattle.text.specs.Fields.{between}
use Rattle.printing.specs.Words.{file_refusal}

-- a byte of the shown line: tabs (9) and printable ASCII stay, and `?` (63) stands for any other
abbrev pub shown : ℕ → ℕ
shown b = cond (b == 9 || between 32 126 b) b 63

-- a byte of the line under it: a tab stands under a tab, so that what follows stands where it does above, and else a blank (32)
abbrev pub under : ℕ → ℕ
under b = cond (b == 9) 9 32

-- where field k of a line begins: past k tabs, or at the line's end where there are fewer
abbrev pub field_place : ℕ → List ℕ → ℕ
field_place k [] = 0
field_place zero (b ∷ bs) = 0
field_place (suc k) (b ∷ bs) = 1 + field_place (cond (b == 9) k (suc k)) bs

-- the place of a fault in its line: past the longest lawful beginning of its field, or the line's start where it has no field
abbrev pub caret_place : Option FieldPlace → List ℕ → ℕ
caret_place None line = 0
caret_place (Some at) line = min (field_place at.field line + at.length) (length line)

-- a line as it is shown, and a caret under a place of it, or behind it where the place is past its end
abbrev pub marked : ℕ → List ℕ → List ℕ
marked place line = map shown line ++ (codes "\n" ++ (map under (take place line) ++ codes "^\n"))

-- the same with the caret under the place of a fault of the line
abbrev pub marked_fault : Option FieldPlace → List ℕ → List ℕ
marked_fault at line = marked (caret_place at line) line

-- the part of a text that is shown for line n, from 1: the line, or its first 100 bytes; nothing for line 0
abbrev pub mark : ℕ → Option FieldPlace → List ℕ → List ℕ
mark n at text = cond (n == 0) [] (marked_fault at (take 100 (piece 10 (n - 1) text)))

-- a text's refusal: its first line, and then the refused line with the caret
abbrev pub refusal_text : FileFault → List ℕ → List ℕ
refusal_text f text = file_refusal f ++ (codes "\n" ++ mark (fault_line f) (fault_field f) text)
