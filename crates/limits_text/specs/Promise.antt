-- What printed bytes promise: what a reader finds in them at a state, and what that says of all adversaries.
use Rattle.std.specs.Prelude.{◌≡◌, ℕ, ◌+◌, ◌<◌, ◌≤◌, ◌⊎◌, List, [], ◌∷◌, length, codes, decimal, filter, nat_lt}
use Rattle.model.specs.Mdp.{Mdp, Lawful}
use Rattle.theory.specs.Mixes.{whole}
use Rattle.theory.specs.Adversaries.{Adversary, Allowed}
use Rattle.theory.specs.Formulas.{Formula, Holds, HasOneSet}
use Rattle.theory.specs.Found.{BoundsFormula}
use Rattle.text.specs.Cuts.{pieces, piece}
use Rattle.grammar.specs.Spelling.{print, Spelled}

-- line i of the bytes, from 0, is this one, and ended by an LF (10)
pub record HasLine (bytes : List ℕ) (i : ℕ) (line : List ℕ) : Type 0 where
  pub same : piece 10 i bytes ≡ line
  pub ended : i + 1 < length (pieces 10 bytes)

-- the words of a line: what stands between its blanks (32)
abbrev pub words : List ℕ → List (List ℕ)
words line = filter (λ word. nat_lt 0 (length word)) (pieces 32 line)

-- a line is the heading of a table, of one without ends or of one with them
abbrev pub IsHeading : List ℕ → Type 0
IsHeading line =
    (line ≡ codes "  state  verdict") ⊎ (line ≡ codes "  state  verdict         lower       upper")

-- in the bytes stands a table of the formula f, with this row for the state s: a line is the text of f, the next one is a heading, and
-- behind it stand the rows, from state 0 on
pub record HasRow (bytes : List ℕ) (f : Formula) (s : ℕ) (row : List ℕ) : Type 0 where
  pub at : ℕ
  pub formula : HasLine bytes at (print f)
  pub heading : List ℕ
  pub headed : HasLine bytes (at + 1) heading
  pub is_heading : IsHeading heading
  pub line : HasLine bytes (at + 2 + s) row

-- the row of s tells a verdict: that is its second word, behind the number of s
abbrev pub TellsVerdict : ℕ → List ℕ → List ℕ → Type 0
TellsVerdict s row verdict = (behind : List (List ℕ)) × (words row ≡ decimal s ∷ verdict ∷ behind)

-- the row of s tells two ends lo and hi: they stand behind the verdict, and are numbers of units, none above the whole
pub record TellsEnds (s : ℕ) (row : List ℕ) (lo hi : ℕ) : Type 0 where
  pub verdict : List ℕ
  pub line : words row ≡ decimal s ∷ verdict ∷ decimal lo ∷ decimal hi ∷ []
  pub lower_within : lo ≤ whole
  pub upper_within : hi ≤ whole

-- what the row of s in a table of f means over the model m: with yes f holds at s, of all adversaries, and with no it does not; two
-- ends bound all adversaries
pub record RowPromise (m : Mdp) (f : Formula) (s : ℕ) (row : List ℕ) : Type 0 where
  pub yes_holds : TellsVerdict s row (codes "yes") → Holds m f s
  pub no_fails : TellsVerdict s row (codes "no") → ¬ (Holds m f s)
  pub ends_bound : (lo hi : ℕ) → TellsEnds s row lo hi → BoundsFormula m f s lo hi

-- the promise of printed bytes over the model m: each row that they have of a formula at one of its states means what it says; the
-- model is lawful; it has an adversary, so that what is said of all is not said of none; and every formula has exactly one set of
-- states, so that what is said of each of its sets is said of one
pub record Promise (m : Mdp) (bytes : List ℕ) : Type 0 where
  pub rows : (f : Formula) (s : ℕ) (row : List ℕ) → Spelled f → s < m.states →
      HasRow bytes f s row → RowPromise m f s row
  pub lawful : Lawful m
  pub some_adversary : (σ : Adversary) × Allowed m σ
  pub one_set : (f : Formula) → HasOneSet m f
