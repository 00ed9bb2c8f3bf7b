-- The report of a formula as lines, and the words of those that tell of a state.
use Rattle.std.proofs.Common.{◌≡◌, ◌≢◌, ℕ, zero, suc, ◌+◌, ◌-◌, ◌<◌, true, not, eqb, leb, List, [], ◌∷◌, ◌++◌, length, get_or, replicate, Some, None, Option, codes, decimal, sym, refl, ap, ◌∙◌, append_assoc, add-zero, arith}
use Rattle.std.specs.List.{list_all}
use Rattle.std.proofs.lemmas.Bool.{cond_both, and_parts, leb-true, not-true, both_ways, eq-eqb}
use Rattle.std.proofs.lemmas.List.Elements.{All-nil, All-append, All-weaker, All-replicate}
use Rattle.std.proofs.lemmas.List.Sums.{AllPass-from_list_all}
use Rattle.model.specs.Mdp.{Each}
use Rattle.model.proofs.Lists.{each_append}
use Rattle.theory.specs.Found.{TwoEnds}
use Rattle.printing.specs.Layouts.{laid}
use Rattle.limits_text.specs.declared.outcome.Counts.{Counts}
use Rattle.limits_text.specs.Cells.{at_right, at_left}
use Rattle.limits_text.specs.Outcomes.{counts_of, counts_text}
use Rattle.limits_text.specs.Tables.{verdict_word, verdict_cells, state_line, heading, units_at}
use Rattle.limits_text.specs.Reports.{formula_report}
use Rattle.limits_text.specs.Promise.{words}
use Rattle.limits_text.proofs.Printable.{is_graphic, AreGraphic, digits_graphic, some_digit}
use Rattle.limits_text.proofs.Pieces.{Lacks, word_parted, word_alone, words_after_blanks, word_and_blanks, ended, ended-append}

-- graphic bytes have no byte below `!`
pub lacks_low : (sep : ℕ) → sep < 33 → (bytes : List ℕ) → AreGraphic bytes → Lacks sep bytes
lacks_low sep low bytes graphics =
    All-weaker (λ b. is_graphic b ≡ true) (λ b. b ≢ sep)
    (λ b g e. let least = leb-true 33 b (and_parts (leb 33 b) (leb b 126) g).0 in absurd (omega arith))
    bytes (AllPass-from_list_all is_graphic bytes graphics)

-- so a number has none
pub number_lacks : (sep : ℕ) → sep < 33 → (n : ℕ) → Lacks sep (decimal n)
number_lacks sep low n = lacks_low sep low (decimal n) (digits_graphic n)

-- bytes have none of a value where a test of each says so
pub tested_lacks : (sep : ℕ) (bytes : List ℕ) → list_all (λ b. not (eqb b sep)) bytes ≡ true → Lacks sep bytes
tested_lacks sep bytes passes =
    All-weaker (λ b. not (eqb b sep) ≡ true) (λ b. b ≢ sep) (λ b other e. both_ways (eqb b sep) (not-true (eqb b sep) other) (eq-eqb b sep e))
    bytes (AllPass-from_list_all (λ b. not (eqb b sep)) bytes passes)

-- two texts without a byte have none together
pub both_lack : (sep : ℕ) (xs ys : List ℕ) → Lacks sep xs → Lacks sep ys → Lacks sep (xs ++ ys)
both_lack sep xs ys none none' = All-append (λ b. b ≢ sep) xs ys none none'

-- a verdict's word is graphic, and not empty
word_graphic : (b : ℕ) → AreGraphic (verdict_word b) × (0 < length (verdict_word b))
word_graphic b =
    cond_both (eqb b 0) _ _ P (λ e. (refl, omega arith)) (λ e. cond_both (eqb b 1) _ _ P (λ e'. (refl, omega arith)) (λ e'. (refl, omega arith)))
  where
    P : List ℕ → Type 0
    P word = AreGraphic word × (0 < length word)

-- a cell at the right of its column is read as the word in it
right_word : (width n : ℕ) (bytes : List ℕ) → words (at_right width (decimal n) ++ (32 ∷ bytes)) ≡ decimal n ∷ words bytes
right_word width n bytes =
    ap words (append_assoc (replicate (width - length (decimal n)) 32) (decimal n) (32 ∷ bytes))
    ∙ words_after_blanks (width - length (decimal n)) (decimal n ++ (32 ∷ bytes))
    ∙ word_parted (decimal n) bytes (number_lacks 32 (omega arith) n) (some_digit n)

-- also where nothing stands behind it
last_word : (width n : ℕ) → words (at_right width (decimal n)) ≡ decimal n ∷ []
last_word width n =
    words_after_blanks (width - length (decimal n)) (decimal n)
    ∙ word_alone (decimal n) (number_lacks 32 (omega arith) n) (some_digit n)

-- the words of two ends, if there are any
abbrev pub end_words : Option (ℕ × ℕ) → List (List ℕ)
end_words None = []
end_words (Some ends) = decimal ends.0 ∷ decimal ends.1 ∷ []

-- the words behind a state's number: its verdict, and its two ends
cells_words : (b : ℕ) (ends : Option (ℕ × ℕ)) → words (verdict_cells b ends) ≡ verdict_word b ∷ end_words ends
cells_words b None = let word = word_graphic b in word_alone (verdict_word b) (lacks_low 32 (omega arith) (verdict_word b) word.0) word.1
cells_words b (Some ends) =
    let word = word_graphic b in
    let behind = 32 ∷ (at_right 10 (decimal ends.0) ++ (32 ∷ 32 ∷ at_right 10 (decimal ends.1))) in
    word_and_blanks (verdict_word b) (9 - length (verdict_word b)) behind (lacks_low 32 (omega arith) (verdict_word b) word.0) word.1
    ∙ ap (λ ws. verdict_word b ∷ ws) (right_word 10 ends.0 (32 ∷ at_right 10 (decimal ends.1))
    ∙ ap (λ ws. decimal ends.0 ∷ ws) (last_word 10 ends.1))

-- the row of a state: its line without the line feed at the end
abbrev pub row_of_state : ℕ → ℕ → Option (ℕ × ℕ) → List ℕ
row_of_state s b ends = 32 ∷ 32 ∷ (at_right 5 (decimal s) ++ (32 ∷ 32 ∷ verdict_cells b ends))

-- its words
pub row_words : (s b : ℕ) (ends : Option (ℕ × ℕ)) → words (row_of_state s b ends) ≡ decimal s ∷ verdict_word b ∷ end_words ends
row_words s b ends = right_word 5 s (32 ∷ verdict_cells b ends) ∙ ap (λ ws. decimal s ∷ ws) (cells_words b ends)

-- blanks are no line feeds
pub blanks_lack : (n : ℕ) → Lacks 10 (replicate n 32)
blanks_lack n = All-replicate (λ b. b ≢ 10) n 32 (λ e. absurd (omega arith))

-- a cell at the right of its column has no line feed
right_lacks : (width n : ℕ) → Lacks 10 (at_right width (decimal n))
right_lacks width n =
    both_lack 10 (replicate (width - length (decimal n)) 32) (decimal n) (blanks_lack (width - length (decimal n))) (number_lacks 10 (omega arith) n)

-- nor has what stands behind a state's number
cells_lack : (b : ℕ) (ends : Option (ℕ × ℕ)) → Lacks 10 (verdict_cells b ends)
cells_lack b None = lacks_low 10 (omega arith) (verdict_word b) (word_graphic b).0
cells_lack b (Some ends) =
    both_lack 10 (at_left 9 (verdict_word b)) (32 ∷ 32 ∷ (at_right 10 (decimal ends.0) ++ (32 ∷ 32 ∷ at_right 10 (decimal ends.1))))
    (both_lack 10 (verdict_word b) (replicate (9 - length (verdict_word b)) 32) (lacks_low 10 (omega arith) (verdict_word b) (word_graphic b).0) (blanks_lack (9 - length (verdict_word b))))
    (both_lack 10 (replicate 2 32) (at_right 10 (decimal ends.0) ++ (32 ∷ 32 ∷ at_right 10 (decimal ends.1))) (blanks_lack 2)
    (both_lack 10 (at_right 10 (decimal ends.0)) (32 ∷ 32 ∷ at_right 10 (decimal ends.1)) (right_lacks 10 ends.0)
    (both_lack 10 (replicate 2 32) (at_right 10 (decimal ends.1)) (blanks_lack 2) (right_lacks 10 ends.1))))

-- nor has the row
row_lacks : (s b : ℕ) (ends : Option (ℕ × ℕ)) → Lacks 10 (row_of_state s b ends)
row_lacks s b ends =
    both_lack 10 (replicate 2 32) (at_right 5 (decimal s) ++ (32 ∷ 32 ∷ verdict_cells b ends)) (blanks_lack 2)
    (both_lack 10 (at_right 5 (decimal s)) (32 ∷ 32 ∷ verdict_cells b ends) (right_lacks 5 s)
    (both_lack 10 (replicate 2 32) (verdict_cells b ends) (blanks_lack 2) (cells_lack b ends)))

-- the line of a state is its row and a line feed, also in front of more
line_ends : (s b : ℕ) (ends : Option (ℕ × ℕ)) (more : List ℕ) → state_line s b ends ++ more ≡ row_of_state s b ends ++ (10 ∷ more)
line_ends s b ends more = simp append_assoc refl

-- the heading without its line feed
abbrev pub heading_line : {A : Type 0} → Option A → List ℕ
heading_line None = codes "  state  verdict"
heading_line (Some ends) = codes "  state  verdict         lower       upper"

-- it has none
heading_lacks : {A : Type 0} (ends : Option A) → Lacks 10 (heading_line ends)
heading_lacks None = tested_lacks 10 (codes "  state  verdict") refl
heading_lacks (Some ends) = tested_lacks 10 (codes "  state  verdict         lower       upper") refl

-- so it is that, and one
heading_ends : {A : Type 0} (ends : Option A) (more : List ℕ) → heading ends ++ more ≡ heading_line ends ++ (10 ∷ more)
heading_ends None more = refl
heading_ends (Some ends) more = refl

-- the counts without their line feed
abbrev pub counts_line : Counts → List ℕ
counts_line c = codes "  yes " ++ (decimal c.yes ++ (codes ", no " ++ (decimal c.no ++ (codes ", undecided " ++ decimal c.undecided))))

-- they have none
counts_lack : (c : Counts) → Lacks 10 (counts_line c)
counts_lack c =
    both_lack 10 (codes "  yes ") _ (tested_lacks 10 (codes "  yes ") refl)
    (both_lack 10 (decimal c.yes) (codes ", no " ++ (decimal c.no ++ (codes ", undecided " ++ decimal c.undecided))) (number_lacks 10 (omega arith) c.yes)
    (both_lack 10 (codes ", no ") (decimal c.no ++ (codes ", undecided " ++ decimal c.undecided)) (tested_lacks 10 (codes ", no ") refl)
    (both_lack 10 (decimal c.no) (codes ", undecided " ++ decimal c.undecided) (number_lacks 10 (omega arith) c.no)
    (both_lack 10 (codes ", undecided ") (decimal c.undecided) (tested_lacks 10 (codes ", undecided ") refl) (number_lacks 10 (omega arith) c.undecided)))))

-- so they are that, and one
counts_end : (c : Counts) (more : List ℕ) → counts_text c ++ more ≡ counts_line c ++ (10 ∷ more)
counts_end c more = simp append_assoc refl

module _ (two : Option TwoEnds) where
  -- the rows of some states, from state i on
  abbrev pub rows_from : ℕ → List ℕ → List (List ℕ)
  rows_from i [] = []
  rows_from i (b ∷ bytes) = row_of_state i b (units_at two i) ∷ rows_from (i + 1) bytes

  -- their lines are these, each ended
  rows_ended : (i : ℕ) (bytes : List ℕ) → laid (λ s b. state_line s b (units_at two s)) i bytes ≡ ended (rows_from i bytes)
  rows_ended i [] = refl
  rows_ended i (b ∷ bytes) =
      line_ends i b (units_at two i) (laid (λ s b. state_line s b (units_at two s)) (i + 1) bytes)
      ∙ ap (λ t. row_of_state i b (units_at two i) ++ (10 ∷ t)) (rows_ended (i + 1) bytes)

  -- there are as many as states
  pub rows_length : (i : ℕ) (bytes : List ℕ) → length (rows_from i bytes) ≡ length bytes
  rows_length i [] = refl
  rows_length i (b ∷ bytes) = ap suc (rows_length (i + 1) bytes)

  -- they have no line feed
  rows_lack : (i : ℕ) (bytes : List ℕ) → Each (Lacks 10) (rows_from i bytes)
  rows_lack i [] = tt
  rows_lack i (b ∷ bytes) = (row_lacks i b (units_at two i), rows_lack (i + 1) bytes)

  -- each is that of its state
  pub row_there : (i : ℕ) (bytes : List ℕ) (s : ℕ) → s < length bytes → get_or (rows_from i bytes) s [] ≡ row_of_state (i + s) (get_or bytes s 0) (units_at two (i + s))
  row_there i [] s there = absurd (omega arith)
  row_there i (b ∷ bytes) zero there = ap (λ k. row_of_state k b (units_at two k)) (sym (add-zero i))
  row_there i (b ∷ bytes) (suc s) there =
      let next : (i + 1) + s ≡ i + suc s = omega arith in
      row_there (i + 1) bytes s (omega arith) ∙ ap (λ k. row_of_state k (get_or bytes s 0) (units_at two k)) next

  -- the lines of a report behind the formula's text and the heading: the rows, the counts and an empty line
  abbrev pub lines_behind : List ℕ → List (List ℕ)
  lines_behind row = rows_from 0 row ++ (counts_line (counts_of row) ∷ [] ∷ [])

  -- the report is these lines
  pub report_ended : (text row : List ℕ) → formula_report text row two ≡ ended (text ∷ heading_line two ∷ lines_behind row)
  report_ended text row =
      let rows = laid (λ s b. state_line s b (units_at two s)) 0 row in
      let last = counts_line (counts_of row) ++ (10 ∷ 10 ∷ []) in
      ap (λ t. text ++ (10 ∷ t)) (
      append_assoc (heading two) rows (counts_text (counts_of row) ++ (10 ∷ []))
      ∙ heading_ends two (rows ++ (counts_text (counts_of row) ++ (10 ∷ [])))
      ∙ ap (λ t. heading_line two ++ (10 ∷ t)) (
      ap (λ t. rows ++ t) (counts_end (counts_of row) (10 ∷ []))
      ∙ ap (λ t. t ++ last) (rows_ended 0 row)
      ∙ sym (ended-append (rows_from 0 row) (counts_line (counts_of row) ∷ [] ∷ []))))

  -- no line of it has a line feed, if the text has none
  pub report_lacks : (text row : List ℕ) → Lacks 10 text → Each (Lacks 10) (text ∷ heading_line two ∷ lines_behind row)
  report_lacks text row none = (
    none,
    (
      heading_lacks two,
      each_append (Lacks 10) (rows_from 0 row) (counts_line (counts_of row) ∷ [] ∷ [])
          (rows_lack 0 row) (counts_lack (counts_of row), (All-nil (λ b. b ≢ 10), tt)),
    ),
  )
