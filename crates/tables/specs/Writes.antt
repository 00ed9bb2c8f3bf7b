-- What writing into a lent buffer leaves there.
use Rattle.std.specs.Prelude.{◌≡◌, ℕ, ◌<◌, ◌≤◌, List, ◌++◌, length, drop, Ok, Err, Result}
use Rattle.text.specs.declared.fault.NoRoom.{NoRoom}

-- a text was written: it fits, its length is told, and after it the buffer is as it was
pub record Wrote (text old new : List ℕ) (n : ℕ) : Type 0 where
  pub fits : length text ≤ length old
  pub count : n ≡ length text
  pub is : new ≡ text ++ drop n old

-- a text was not written: it does not fit, and the buffer is as it was
pub record NotWritten (text old new : List ℕ) : Type 0 where
  pub short : length old < length text
  pub same : new ≡ old

-- what writing a text into a buffer answers, and what it leaves there
abbrev pub Written : List ℕ → List ℕ → List ℕ → Result ℕ NoRoom → Type 0
Written text old new (Ok n) = Wrote text old new n
Written text old new (Err e) = NotWritten text old new
