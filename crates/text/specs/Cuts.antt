-- A text is cut into lines, and a line into fields.
use Rattle.std.specs.Prelude.{◌≡◌, ℕ, ◌<◌, ◌≤◌, cond, List, [], ◌∷◌, ◌++◌, length, ◌==◌, ◌≢◌, slice_index, slice_index_or}
use Rattle.std.specs.List.{onto_first}

-- the pieces of a list, cut at each byte `sep`; `last` are the pieces of the empty list
abbrev pub cut : ℕ → List (List ℕ) → List ℕ → List (List ℕ)
cut sep last [] = last
cut sep last (x ∷ xs) = cond (x == sep) ([] ∷ cut sep last xs) (onto_first x (cut sep last xs))

-- a line, as the list of its fields; the word is field 0
abbrev pub Line : Type 0
Line = List (List ℕ)

-- the pieces that each byte `sep` parts: one more than there are such bytes
abbrev pub pieces : ℕ → List ℕ → List (List ℕ)
pieces sep bytes = cut sep ([] ∷ []) bytes

-- one of the pieces; empty where there is none
abbrev pub piece : ℕ → ℕ → List ℕ → List ℕ
piece sep k bytes = slice_index_or (pieces sep bytes) k []

-- the fields of a line's bytes: a tab (9) parts two fields, so even an empty line has one
abbrev pub fields : List ℕ → Line
fields bytes = pieces 9 bytes

-- the lines of a list of pieces
abbrev pub each_fields : List (List ℕ) → List Line
each_fields [] = []
each_fields (p ∷ ps) = fields p ∷ each_fields ps

-- the lines of a text: an LF (10) ends each
abbrev pub lines : List ℕ → List Line
lines text = each_fields (cut 10 [] text)

-- a field of a line; empty where there is none
abbrev pub field : ℕ → Line → List ℕ
field k line = slice_index_or line k []

-- the bytes of a line: its fields, parted by tabs
abbrev pub parted : Line → List ℕ
parted [] = []
parted (f ∷ []) = f
parted (f ∷ g ∷ fs) = f ++ (9 ∷ parted (g ∷ fs))

-- the bytes of lines, each ended by an LF
abbrev pub spelled : List Line → List ℕ
spelled [] = []
spelled (l ∷ ls) = parted l ++ (10 ∷ spelled ls)

-- the first piece of some bytes has r bytes: there is no `sep` among them, and one comes next, unless the bytes end there
pub record FirstPiece (bytes : List ℕ) (sep r : ℕ) : Type 0 where
  pub within : r ≤ length bytes
  pub before : (k : ℕ) → k < r → slice_index bytes k ≢ sep
  pub here : r < length bytes → slice_index bytes r ≡ sep
