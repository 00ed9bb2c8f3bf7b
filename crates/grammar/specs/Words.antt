-- Words of a language, and what a reader finds of one at a place of a text.
use Rattle.std.specs.Prelude.{◌≡◌, ℕ, ◌+◌, ◌≤◌, List, [], ◌∷◌, ◌++◌, length, drop}

-- a language is told by its words
abbrev pub Language : Type 1
Language = List ℕ → Type 0

-- the words that spell the lawful values of a type
abbrev pub Words : {A : Type 0} → (A → Type 0) → (A → List ℕ) → Language
Words {A} Lawful spell w = (a : A) × Lawful a × (w ≡ spell a)

-- u begins a longer word
abbrev pub Open : Language → List ℕ → Type 0
Open L u = (c : ℕ) × (r : List ℕ) × L (u ++ c ∷ r)

-- u with the next byte, the first of the rest, begins no word
abbrev pub Shut : Language → List ℕ → List ℕ → Type 0
Shut L u [] = Unit {0}
Shut L u (d ∷ rest) = (r : List ℕ) → L (u ++ d ∷ r) → ⊥

-- w stands in the text from `at` to e
pub record Stands (w text : List ℕ) (at e : ℕ) : Type 0 where
  pub splits : drop at text ≡ w ++ drop e text
  pub place : e ≡ at + length w
  pub within : e ≤ length text

-- the word w stands in the text from `at` to e, and the byte after it carries it on to no other word
pub record Read (L : Language) (w text : List ℕ) (at e : ℕ) : Type 0 where
  pub lawful : L w
  pub stands : Stands w text at e
  pub ends : Shut L w (drop e text)

-- what stands from `at` to p is the longest beginning of any word there, and no word itself
pub record Refused (L : Language) (text : List ℕ) (at p : ℕ) : Type 0 where
  pub front : List ℕ
  pub opens : Open L front
  pub none : L front → ⊥
  pub shuts : Shut L front (drop p text)
  pub stands : Stands front text at p
