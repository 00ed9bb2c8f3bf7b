-- What is printed of the records of a judged formula, each with its row.
use Rattle.std.specs.Prelude.{ℕ, ◌+◌, List, [], ◌∷◌, ◌++◌, cond, Some, None, Option, codes, decimal, take, drop, nat_le}
use Rattle.std.specs.List.{flat_map}
use Rattle.records.specs.declared.record.Record.{Record}
use Rattle.records.specs.declared.record.Kind.{Kind}
use Rattle.records.specs.declared.record.Kind.TheVariants.{Truth, Label, Negation, Conjunction, Next, UntilWithin, Until}
use Rattle.records.specs.declared.comparison.Comparison.{Comparison}
use Rattle.grammar.specs.Spelling.{sign}
use Rattle.formula.specs.Tokens.{meant}

-- the letter of a label, from its number: `a` (97) for 0; a number of no label is told as it is
abbrev pub letter_text : ℕ → List ℕ
letter_text n = cond (nat_le 16 n) (decimal n) ((97 + n) ∷ [])

-- a comparison, if there is one, and the bound that it compares with
abbrev pub compared_text : Option Comparison → ℕ → List ℕ
compared_text None bound = []
compared_text (Some c) bound = codes " " ++ (sign (meant c) ++ (codes " " ++ decimal bound))

-- those of a record
abbrev pub threshold_text : Record → List ℕ
threshold_text r = compared_text r.comparison r.number

-- what a record of this kind stands for: its parts are told by their numbers
abbrev pub kind_text : Kind → Record → List ℕ
kind_text Truth r = codes "true"
kind_text Label r = codes "label " ++ letter_text r.number
kind_text Negation r = codes "not " ++ decimal r.first
kind_text Conjunction r = codes "and " ++ (decimal r.first ++ (codes " " ++ decimal r.second))
kind_text Next r = codes "next " ++ (decimal r.first ++ threshold_text r)
kind_text UntilWithin r = codes "until " ++ (decimal r.first ++ (codes " " ++ (decimal r.second ++ (codes " steps " ++ (decimal r.steps ++ threshold_text r)))))
kind_text Until r = codes "until " ++ (decimal r.first ++ (codes " " ++ (decimal r.second ++ threshold_text r)))

-- what a record stands for
abbrev pub formula_text : Record → List ℕ
formula_text r = kind_text r.kind r

-- the verdict bytes of a row, one after another: 0 no, 1 yes, 2 undecided
abbrev pub row_text : List ℕ → List ℕ
row_text row = flat_map decimal row

-- the line of record i: what it stands for, at how many states that holds and is undecided, and its row
abbrev pub record_line : ℕ → Record → List ℕ → List ℕ
record_line i r row =
    decimal i ++ (codes " " ++ (formula_text r ++ (codes " yes " ++ (decimal r.yes ++ (codes " undecided " ++ (decimal r.undecided ++ (codes ": " ++ (row_text row ++ codes "\n"))))))))

-- the lines of the records from number i on, where the scratch has a row of n bytes for each
abbrev pub record_lines : ℕ → ℕ → List Record → List ℕ → List ℕ
record_lines n i [] scratch = []
record_lines n i (r ∷ rs) scratch = record_line i r (take n scratch) ++ record_lines n (i + 1) rs (drop n scratch)
