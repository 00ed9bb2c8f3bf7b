-- The fields of a line: numbers and sets of labels.
use Rattle.std.specs.Prelude.{◌≡◌, ℕ, zero, suc, ◌+◌, Bool, true, false, cond, not, ◌&&◌, ◌||◌, List, [], ◌∷◌, length, take, Some, None, Ok, Err, Option, Result, ◌==◌, nat_le, slice_index}
use Rattle.std.specs.Str.Parse.{digits_value}
use Rattle.std.specs.Str.{all_ascii_digits}
use Rattle.std.specs.List.{list_any}
use Rattle.std.specs.Option.{option_map}
use Rattle.model.specs.declared.labels.Labels.{Labels}
use Rattle.text.specs.declared.fault.FieldPlace.{FieldPlace}
use Rattle.text.specs.declared.fault.FieldFault.{FieldFault}
use Rattle.text.specs.declared.fault.FieldFault.TheVariants as fault

-- x lies between low and high
abbrev pub between : ℕ → ℕ → ℕ → Bool
between low high x = nat_le low x && nat_le x high

-- a number of at most so many digits: 0, or one digit to so many that do not start with 0 (48)
abbrev pub numeral : ℕ → List ℕ → Bool
numeral most w = all_ascii_digits w && (between 1 most (length w) && (length w == 1 || not (slice_index w 0 == 48)))

-- a lawful number of a model text has at most seven digits
abbrev pub lawful_number : List ℕ → Bool
lawful_number w = numeral 7 w

-- the number that digits write
abbrev pub amount : List ℕ → ℕ
amount digits = digits_value 10 digits

-- letters from a to p (97 to 112) that ascend strictly, from at least `low`
abbrev pub ascending : ℕ → List ℕ → Bool
ascending low [] = true
ascending low (c ∷ cs) = between low 112 c && ascending (c + 1) cs

-- the writing of the empty set of labels
abbrev pub dash : List ℕ
dash = 45 ∷ []

-- a lawful set of labels: letters from a to p in strictly ascending order, or `-` (45) for none
abbrev pub lawful_labels : List ℕ → Bool
lawful_labels [] = false
lawful_labels (c ∷ cs) = (c == 45 && length cs == 0) || ascending 97 (c ∷ cs)

-- is the letter among the bytes?
abbrev pub among : ℕ → List ℕ → Bool
among letter bytes = list_any (λ c. c == letter) bytes

-- the letters whose flags are set, where the first flag is that of `letter`
abbrev pub letters_from : ℕ → List Bool → List ℕ
letters_from letter [] = []
letters_from letter (flag ∷ flags) = cond flag (letter ∷ letters_from (letter + 1) flags) (letters_from (letter + 1) flags)

-- a list, or another in the place of an empty one
abbrev pub or_else : List ℕ → List ℕ → List ℕ
or_else [] other = other
or_else (c ∷ cs) other = c ∷ cs

-- the writing of a set of labels
abbrev pub labels_text : List Bool → List ℕ
labels_text flags = or_else (letters_from 97 flags) dash

-- whether each of `count` letters, from `letter` on, is among the bytes
abbrev pub flags_from : ℕ → ℕ → List ℕ → List Bool
flags_from letter zero bytes = []
flags_from letter (suc count) bytes = among letter bytes ∷ flags_from (letter + 1) count bytes

-- the set of labels that a field writes
abbrev pub labels_of : List ℕ → List Bool
labels_of bytes = flags_from 97 16 bytes

-- the longest beginning of xs, of n bytes at the most, that passes the test; 0 where none does
abbrev pub longest_within : (List ℕ → Bool) → List ℕ → ℕ → ℕ
longest_within test xs zero = 0
longest_within test xs (suc n) = cond (test (take (suc n) xs)) (suc n) (longest_within test xs n)

-- the length of the longest beginning that passes the test
abbrev pub longest : (List ℕ → Bool) → List ℕ → ℕ
longest test xs = longest_within test xs (length xs)

-- the place of the fault of field k, of bytes w, which fails the test: the field, and the length of its longest beginning that passes
abbrev pub unlawful_place : (List ℕ → Bool) → List ℕ → ℕ → FieldPlace
unlawful_place test w k = record { field = k; length = longest test w }

-- what reading a number, field k of its line, answers
abbrev pub number_read : List ℕ → ℕ → Result ℕ FieldFault
number_read w k = cond (lawful_number w) (Ok (amount w)) (Err (fault.Number (unlawful_place lawful_number w k)))

-- what reading a number of at most ten digits answers
abbrev pub long_number_read : List ℕ → Option ℕ
long_number_read w = cond (numeral 10 w) (Some (amount w)) None

-- what reading the number of at most ten digits that a text begins with answers: the number of its longest such beginning, and its length
abbrev pub leading_number_read : List ℕ → Option (ℕ × ℕ)
leading_number_read w = let n = longest (numeral 10) w in option_map (λ v. (v, n)) (long_number_read (take n w))

-- what reading a set of labels, field k of its line, answers
abbrev pub LabelsRead : List ℕ → ℕ → Result Labels FieldFault → Type 0
LabelsRead w k (Ok l) = (lawful_labels w ≡ true) × (l.letters ≡ labels_of w)
LabelsRead w k (Err e) = (lawful_labels w ≡ false) × (e ≡ fault.Labels (unlawful_place lawful_labels w k))
