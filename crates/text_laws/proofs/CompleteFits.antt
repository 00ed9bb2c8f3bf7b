-- Lines that no question refuses, one after another.
use Rattle.std.proofs.Common.{◌≡◌, ℕ, ◌+◌, true, List, ◌∷◌, None, refl}
use Rattle.text.specs.Cuts.{Line}
use Rattle.text.specs.Questions.{states_there}
use Rattle.text.specs.Refusals.{line_fault, line_refusal, lines_refusal}
use Rattle.text_laws.proofs.Fits.{Fits}

-- such a line has no fault
no_fault : (before : List Line) (line : Line) → Fits before line → line_fault before line ≡ None
no_fault before line h = rw (h.word, h.fields, h.first_number, h.second_number, h.range, h.labels, h.order, h.sum, h.states, h.choices, h.branches) refl

-- a line with no fault is not refused, where all states are there or it is no end
pub not_refused : (before : List Line) (n : ℕ) (line : Line) → line_fault before line ≡ None → states_there before line ≡ true → line_refusal before n line ≡ None
not_refused before n line e h = rw (e, h) refl

-- the lines are not refused after those before them, whatever the number of the first is
abbrev pub Passes : List Line → List Line → Type 0
Passes before ls = (n : ℕ) → lines_refusal before n ls ≡ None

-- a line that fits is passed over
pub passes_more : (before : List Line) (line : Line) (ls : List Line) → Fits before line → Passes (line ∷ before) ls → Passes before (line ∷ ls)
passes_more before line ls h rest n = rw (not_refused before n line (no_fault before line h) h.complete) (rest (n + 1))
