-- The table of a formula's records.
use Rattle.std.specs.Prelude.{ℕ, List, [], ◌∷◌, ◌++◌, map, codes, decimal}
use Rattle.std.specs.List.{join_with_byte}
use Rattle.records.specs.declared.record.Record.{Record}
use Rattle.records.specs.Numbers.{kind_number, optional_comparison_number}
use Rattle.printing.specs.Layouts.{laid}

-- the names of the columns, parted by tabs
abbrev pub heading : List ℕ
heading = codes "record\tkind\tfirst\tsecond\tcomparison\tnumber\tsteps\n"

-- what record number i has in these columns
abbrev pub record_numbers : ℕ → Record → List ℕ
record_numbers i r = i ∷ kind_number r.kind ∷ r.first ∷ r.second ∷ optional_comparison_number r.comparison ∷ r.number ∷ r.steps ∷ []

-- its line: these numbers parted by tabs (9)
abbrev pub record_line : ℕ → Record → List ℕ
record_line i r = join_with_byte 9 (map decimal (record_numbers i r)) ++ codes "\n"

-- the table of some records: the heading, and a line for each
abbrev pub records_table : List Record → List ℕ
records_table rs = heading ++ laid record_line 0 rs
