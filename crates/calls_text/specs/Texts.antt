-- What a text of calls asks for, or its first mistake.
use Rattle.std.specs.Prelude.{ℕ, ◌+◌, Bool, false, true, cond, not, ◌&&◌, ◌||◌, List, [], ◌∷◌, ◌++◌, map, Ok, Err, Result}
use Rattle.std.specs.Result.{result_map_both}
use Rattle.std.specs.List.{list_any, flat_map}
use Rattle.calls_text.specs.declared.mistake.Wrong.{Wrong}
use Rattle.calls_text.specs.declared.mistake.Wrong.TheVariants.{Late}
use Rattle.calls_text.specs.declared.mistake.Mistake.{Mistake}
use Rattle.calls_text.specs.declared.script.Script.{Script}
use Rattle.calls_text.specs.Words.{text_lines, is_passed_over}
use Rattle.calls_text.specs.Requests.{Given, start, advance, ends, verdict, judge, Asked, hold, play, given, line_read}

-- does it ask for a call?
abbrev pub is_call : Asked → Bool
is_call (hold s) = false
is_call (play c) = true

-- whether what is read may stand there: no state is held after a call
abbrev pub in_time : Bool → Result Asked Wrong → Result (List Asked) Wrong
in_time begun (Err w) = Err w
in_time begun (Ok a) = cond (begun && not (is_call a)) (Err Late) (Ok (a ∷ []))

-- what one line asks for, if anything, over n states, where calls have begun before it or have not; or what is wrong with it
abbrev pub line_asks : ℕ → Bool → List ℕ → Result (List Asked) Wrong
line_asks n begun line = cond (is_passed_over line) (Ok []) (in_time begun (line_read n line))

-- what line k and those after it ask for
abbrev pub and_then : ℕ → Result (List Asked) Wrong → (List Asked → Result (List Asked) Mistake) → Result (List Asked) Mistake
and_then k (Err w) rest = Err (record { line = k; wrong = w })
and_then k (Ok asks) rest = result_map_both (λ more. asks ++ more) (λ m. m) (rest asks)

-- what the lines from number k on ask for, or the first mistake
abbrev pub lines_ask : ℕ → Bool → ℕ → List (List ℕ) → Result (List Asked) Mistake
lines_ask n begun k [] = Ok []
lines_ask n begun k (l ∷ ls) = and_then k (line_asks n begun l) (λ asks. lines_ask n (begun || list_any is_call asks) (k + 1) ls)

-- a state that is to be held
abbrev pub held_state : Asked → List ℕ
held_state (hold s) = s ∷ []
held_state (play c) = []

-- a call that is to be played: just before a verdict the ends are asked for that it is read off
abbrev pub played_calls : Asked → List Given
played_calls (hold s) = []
played_calls (play (verdict s c b)) = ends s ∷ verdict s c b ∷ []
played_calls (play (start left right aim)) = start left right aim ∷ []
played_calls (play (advance k)) = advance k ∷ []
played_calls (play (ends s)) = ends s ∷ []
played_calls (play (judge text buffers)) = judge text buffers ∷ []

-- the states to be held, and then the calls to be played
pub record Contents : Type 0 where
  pub holds : List ℕ
  pub calls : List Given

-- those of what lines ask for
abbrev pub contents_asked : List Asked → Contents
contents_asked asks = record { holds = flat_map held_state asks; calls = flat_map played_calls asks }

-- the contents of a text of calls over n states, or its first mistake
abbrev pub text_read : ℕ → List ℕ → Result Contents Mistake
text_read n text = result_map_both contents_asked (λ m. m) (lines_ask n false 1 (text_lines text))

-- the contents of a script
abbrev pub contents : Script → Contents
contents s = record { holds = s.holds.items; calls = map given s.calls.items }

-- the contents of what was read
abbrev pub contents_read : Result Script Mistake → Result Contents Mistake
contents_read r = result_map_both contents (λ m. m) r
