-- What loading a text answers and leaves.
use Rattle.std.specs.Prelude.{◌≡◌, ℕ, List, Some, None, Ok, Err, Result}
use Rattle.text.specs.declared.fault.FileFault.{FileFault}
use Rattle.text.specs.Contents.{Content}
use Rattle.text.specs.Texts.{Describes}
use Rattle.text.specs.Refusals.{refusal}
use Rattle.flat.specs.declared.flat.Flat.{Flat}
use Rattle.flat.specs.Flats.{content}

-- an accepted text: no question refuses it, it describes what the tables then hold, and it describes nothing else
pub record Accepted (text : List ℕ) (after : Flat) : Type 0 where
  pub passed : refusal text ≡ None
  pub describes : Describes text (content after)
  pub only : (c : Content) → Describes text c → c ≡ content after

-- a refused text: the fault is that of the first question answered no, the tables are as they were, and the text describes nothing
pub record Rejected (text : List ℕ) (fault : FileFault) (before after : Flat) : Type 0 where
  pub first : refusal text ≡ Some fault
  pub unchanged : after ≡ before
  pub none : (c : Content) → Describes text c → ⊥

-- what loading a text answers, and what the tables hold before and after
abbrev pub Loaded : List ℕ → Flat → Flat → Result (Unit {0}) FileFault → Type 0
Loaded text before after (Ok _) = Accepted text after
Loaded text before after (Err fault) = Rejected text fault before after
