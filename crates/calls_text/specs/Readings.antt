-- What inner functions add to a script while a text of calls is read.
use Rattle.std.specs.Prelude.{◌≡◌, ℕ, Bool, not, List, [], ◌∷◌, ◌++◌, length, map, Ok, Err, Result, ◌==◌}
use Rattle.std.specs.List.{flat_map}
use Rattle.calls_text.specs.declared.mistake.Wrong.{Wrong}
use Rattle.calls_text.specs.declared.script.Script.{Script}
use Rattle.calls_text.specs.Requests.{Asked, given}
use Rattle.calls_text.specs.Texts.{in_time, line_asks, held_state, played_calls}

-- have calls begun?
abbrev pub begun : Script → Bool
begun s = not (length s.calls.items == 0)

-- what was asked for is added to a script
pub record Adds (before after : Script) (asks : List Asked) : Type 0 where
  pub holds : after.holds.items ≡ before.holds.items ++ flat_map held_state asks
  pub calls : map given after.calls.items ≡ map given before.calls.items ++ flat_map played_calls asks

-- what adding a request to a script answers and leaves
abbrev pub AskedAdded : Asked → Script → Script → Result (Unit {0}) Wrong → Type 0
AskedAdded a before after (Ok _) = (in_time (begun before) (Ok a) ≡ Ok (a ∷ [])) × Adds before after (a ∷ [])
AskedAdded a before after (Err w) = in_time (begun before) (Ok a) ≡ Err w

-- what adding a line to a script answers and leaves
abbrev pub LineAdded : ℕ → List ℕ → Script → Script → Result (Unit {0}) Wrong → Type 0
LineAdded n line before after (Ok _) = (asks : List Asked) × (line_asks n (begun before) line ≡ Ok asks) × Adds before after asks
LineAdded n line before after (Err w) = line_asks n (begun before) line ≡ Err w
