-- The bytes that an escaped text stands for: it is cut at each `{`, a part at its first `}` into a repetition and a
-- piece, a repetition at its first `:` into a count and a piece, and a piece at each backslash.
use Rattle.std.specs.Prelude.{ℕ, ◌+◌, ◌-◌, ◌*◌, ◌^◌, nat_le, nat_lt, Bool, List, [], ◌∷◌, ◌++◌, ◌==◌, ◌&&◌, if◌then◌else◌}
use Rattle.std.specs.List.{list_any, before_first, after_first, slice_split, flat_map, repeat}
use Rattle.std.specs.Str.{all_ascii_digits}
use Rattle.std.specs.Str.Parse.{without_leading_plus, digits_value}

-- the parts of a text, cut at each byte c
abbrev pub parts : ℕ → List ℕ → List (List ℕ)
parts c text = slice_split (λ b. b == c) text

-- Is there a byte c in the text?
abbrev pub has : ℕ → List ℕ → Bool
has c text = list_any (λ b. b == c) text

-- what stands before the first byte c
abbrev pub before : ℕ → List ℕ → List ℕ
before c text = before_first (λ b. b == c) text

-- what stands behind the first byte c
abbrev pub behind : ℕ → List ℕ → List ℕ
behind c text = after_first (λ b. b == c) text

-- the value of a hexadecimal digit, 0 of any other byte
abbrev pub hex_digit : ℕ → ℕ
hex_digit b = if nat_le 48 b && nat_le b 57 then b - 48 else if nat_le 97 b && nat_le b 102 then b - 97 + 10 else 0

-- what an `x` (120) and the bytes behind it stand for, after a backslash: the first two, as digits, for one byte; where
-- there are no two, the `x` stands for itself
abbrev pub hex_escape : List ℕ → List ℕ
hex_escape [] = 120 ∷ []
hex_escape (b ∷ []) = 120 ∷ b ∷ []
hex_escape (high ∷ low ∷ rest) = (hex_digit high * 16 + hex_digit low) ∷ rest

-- what a part behind a backslash stands for: an n (110), t (116) or r (114) at its front for LF, tab or CR, an x (120)
-- for a byte in hexadecimal digits; any other part stands for itself
abbrev pub escape : List ℕ → List ℕ
escape [] = []
escape (b ∷ rest) =
    if b == 110 then 10 ∷ rest else if b == 116 then 9 ∷ rest else if b == 114 then 13 ∷ rest else if b == 120 then hex_escape rest else b ∷ rest

-- what the parts of a piece stand for: the first for itself, each later one is an escape
abbrev pub unescaped : List (List ℕ) → List ℕ
unescaped [] = []
unescaped (first ∷ later) = first ++ flat_map escape later

-- a piece, cut at each backslash (92)
abbrev pub piece : List ℕ → List ℕ
piece text = unescaped (parts 92 text)

-- the number that decimal digits write, where it is below 2^32; 0 of any other text
abbrev pub number : List ℕ → ℕ
number digits = if all_ascii_digits digits && nat_lt (digits_value 10 digits) (2 ^ 32) then digits_value 10 digits else 0

-- a count: a number, with a plus in front or without
abbrev pub count : List ℕ → ℕ
count text = number (without_leading_plus text)

-- a repetition, cut at its first `:` (58): the piece behind it, as often as the count before it says; with no `:` nothing
abbrev pub repetition : List ℕ → List ℕ
repetition text = if has 58 text then repeat (count (before 58 text)) (piece (behind 58 text)) else []

-- a part of the text, cut at its first `}` (125): a repetition and then a piece; with no `}` it is a piece
abbrev pub part : List ℕ → List ℕ
part text = if has 125 text then repetition (before 125 text) ++ piece (behind 125 text) else piece text

-- the bytes that a text stands for: it is cut at each `{` (123), and what its parts stand for follows one another
abbrev pub expanded : List ℕ → List ℕ
expanded text = flat_map part (parts 123 text)
