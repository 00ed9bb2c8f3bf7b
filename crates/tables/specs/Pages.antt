-- What putting text into a page leaves there.
use Rattle.std.specs.Prelude.{◌≡◌, ℕ, ◌+◌, cond, List, [], ◌∷◌, length, nat_lt, slice_set}
use Rattle.model.specs.Mdp.{Row}
use Rattle.text.specs.Contents.{State}
use Rattle.text.specs.Cuts.{Line, spelled}
use Rattle.text.specs.Texts.{state_line, choice_line, row_lines, choices_lines}
use Rattle.tables.specs.declared.page.Page.{Page}

-- a buffer, and the place of the next byte in it
abbrev pub Filling : Type 0
Filling = List ℕ × ℕ

-- one byte more, if there is a place left for it
abbrev pub with_byte : Filling → ℕ → Filling
with_byte f b = cond (nat_lt f.1 (length f.0)) (slice_set f.0 f.1 b, f.1 + 1) f

-- bytes, one after the other
abbrev pub with_bytes : Filling → List ℕ → Filling
with_bytes f [] = f
with_bytes f (b ∷ bs) = with_bytes (with_byte f b) bs

-- how far a page is filled
abbrev pub filling : Page → Filling
filling p = (p.out.now, p.at)

-- bytes were put into a page: it is over the same buffer, and they come after what it had
pub record Put (bytes : List ℕ) (before after : Page) : Type 0 where
  pub same : after.out.ghost_name ≡ before.out.ghost_name
  pub filled : filling after ≡ with_bytes (filling before) bytes

-- the text of one line
abbrev pub line_text : Line → List ℕ
line_text line = spelled (line ∷ [])

-- the text of one choice: its line, then one for each branch
abbrev pub choice_text : Row → List ℕ
choice_text row = spelled (choice_line ∷ row_lines row)

-- the text of one state: its line, then the lines of its choices
abbrev pub state_text : State → List ℕ
state_text state = spelled (state_line state.labels ∷ choices_lines state.choices)
