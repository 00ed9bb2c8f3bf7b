-- The lines of a text of calls, the words of a line, and what single words write.
use Rattle.std.specs.Prelude.{ℕ, ◌-◌, Bool, true, cond, not, ◌&&◌, List, [], ◌∷◌, length, map, Some, None, codes, find, Option, ◌==◌}
use Rattle.std.specs.Char.{is_ascii_digit}
use Rattle.std.specs.List.{list_all}
use Rattle.text.specs.Cuts.{pieces, piece}
use Rattle.text.specs.Fields.{long_number_read, dash}
use Rattle.text.specs.Words.{same}
use Rattle.grammar.specs.Spelling.{sign}
use Rattle.formula.specs.Tokens.{meant}
use Rattle.records.specs.declared.comparison.Comparison.{Comparison}
use Rattle.records.specs.declared.comparison.Comparison.TheVariants.{Below, AtMost, Above, AtLeast}
use Rattle.trial.specs.declared.aim.Aim.{Aim}
use Rattle.trial.specs.declared.aim.Aim.TheVariants.{Best, Worst}
use Rattle.calls_text.specs.declared.kind.LineKind.{LineKind}
use Rattle.calls_text.specs.declared.kind.LineKind.TheVariants.{Hold, Start, Advance, Ends, Verdict, Judge}

-- the lines of a text: an LF (10) ends each, and what stands after the last LF is a line, too
abbrev pub text_lines : List ℕ → List (List ℕ)
text_lines text = pieces 10 text

-- a line is passed over if it is empty or begins with `#` (35)
abbrev pub is_passed_over : List ℕ → Bool
is_passed_over [] = true
is_passed_over (b ∷ bs) = b == 35

-- a word of a line, from 0: one blank (32) parts two words; empty where there is none
abbrev pub word : ℕ → List ℕ → List ℕ
word k line = piece 32 k line

-- how many words a line has
abbrev pub word_count : List ℕ → ℕ
word_count line = length (pieces 32 line)

-- the number that word k of a line writes, if it is 0, or one to ten digits that do not start with 0
abbrev pub number_at : ℕ → List ℕ → Option ℕ
number_at k line = long_number_read (word k line)

-- the word that a line begins with, by what it asks for
abbrev pub kind_name : LineKind → List ℕ
kind_name Hold = codes "hold"
kind_name Start = codes "start"
kind_name Advance = codes "advance"
kind_name Ends = codes "ends"
kind_name Verdict = codes "verdict"
kind_name Judge = codes "judge"

-- what a line may ask for
abbrev pub line_kinds : List LineKind
line_kinds = Hold ∷ Start ∷ Advance ∷ Ends ∷ Verdict ∷ Judge ∷ []

-- what a line that begins with this word asks for
abbrev pub kind_of : List ℕ → Option LineKind
kind_of w = find (λ k. same w (kind_name k)) line_kinds

-- what a query asks for, by its word
abbrev pub aim_of : List ℕ → Option Aim
aim_of w = cond (same w (codes "best")) (Some Best) (cond (same w (codes "worst")) (Some Worst) None)

-- the comparison that a word writes, as in a formula
abbrev pub comparison_of : List ℕ → Option Comparison
comparison_of w = find (λ c. same w (sign (meant c))) (Below ∷ AtMost ∷ Above ∷ AtLeast ∷ [])

-- the bytes of a list of marks, of which a word writes each as a digit, from 0 (48) on; `-` writes the empty list
abbrev pub marks_of : List ℕ → Option (List ℕ)
marks_of w = cond (same w dash) (Some []) (cond (not (length w == 0) && list_all is_ascii_digit w) (Some (map (λ b. b - 48) w)) None)
