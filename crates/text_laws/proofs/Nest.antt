-- The content that a list of lines tells, read from the last line to the first.
use Rattle.std.proofs.Common.{List, [], ◌∷◌, Some, None, Option}
use Rattle.model.specs.declared.branch.Branch.{Branch}
use Rattle.model.specs.Mdp.{Row}
use Rattle.text.specs.declared.word.Word.{Word}
use Rattle.text.specs.declared.word.Word.TheVariants as word
use Rattle.text.specs.Cuts.{Line, field}
use Rattle.text.specs.Fields.{labels_of}
use Rattle.text.specs.Contents.{State, Content}
use Rattle.text.specs.Questions.{word, number}

-- the branch that a line writes
abbrev pub branch_of : Line → Branch
branch_of line = record { target = number 1 line; weight = number 2 line }

-- what some last lines of a text tell: the rest of the open row, the further choices of the open state, the further states
pub record Nested : Type 0 where
  pub row : Row
  pub rows : List Row
  pub states : List State

-- one line more, in front
abbrev pub nest_line : Option Word → Line → Nested → Nested
nest_line None line n = n
nest_line (Some word.Mdp) line n = n
nest_line (Some word.State) line n = record { row = []; rows = []; states = record { labels = labels_of (field 1 line); choices = n.rows } ∷ n.states }
nest_line (Some word.Choice) line n = record { row = []; rows = n.row ∷ n.rows; states = n.states }
nest_line (Some word.Branch) line n = record { row = branch_of line ∷ n.row; rows = n.rows; states = n.states }
nest_line (Some word.End) line n = n

abbrev pub nest : List Line → Nested
nest [] = record { row = []; rows = []; states = [] }
nest (l ∷ ls) = nest_line (word l) l (nest ls)

-- the first line; empty where there is none
abbrev pub first_line : List Line → Line
first_line [] = []
first_line (l ∷ ls) = l

-- the content that the lines of a text tell
abbrev pub content_of : List Line → Content
content_of ls = record { denominator = number 2 (first_line ls); states = (nest ls).states }
