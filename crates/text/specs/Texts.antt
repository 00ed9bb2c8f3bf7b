-- The text of a content: its lines, each as the list of its fields, and their bytes.
use Rattle.std.specs.Prelude.{◌≡◌, ℕ, ◌≤◌, Bool, List, [], ◌∷◌, ◌++◌, length, decimal}
use Rattle.model.specs.declared.branch.Branch.{Branch}
use Rattle.model.specs.Mdp.{Row, Lawful}
use Rattle.text.specs.declared.word.Word.TheVariants as word
use Rattle.text.specs.Cuts.{Line, spelled}
use Rattle.text.specs.Fields.{labels_text}
use Rattle.text.specs.Words.{spelling}
use Rattle.text.specs.Contents.{State, Content, model_of, all_choices, all_branches}

-- `mdp`, the number of states and the denominator
abbrev pub header_line : ℕ → ℕ → Line
header_line n d = spelling word.Mdp ∷ decimal n ∷ decimal d ∷ []

-- `s` and the labels
abbrev pub state_line : List Bool → Line
state_line labels = spelling word.State ∷ labels_text labels ∷ []

-- `c`
abbrev pub choice_line : Line
choice_line = spelling word.Choice ∷ []

-- `b`, the target and the weight
abbrev pub branch_line : Branch → Line
branch_line b = spelling word.Branch ∷ decimal b.target ∷ decimal b.weight ∷ []

-- `end`
abbrev pub end_line : Line
end_line = spelling word.End ∷ []

-- the lines of a row's branches
abbrev pub row_lines : Row → List Line
row_lines [] = []
row_lines (b ∷ bs) = branch_line b ∷ row_lines bs

-- the lines of a state's choices: `c`, then its branches
abbrev pub choices_lines : List Row → List Line
choices_lines [] = []
choices_lines (r ∷ rs) = choice_line ∷ (row_lines r ++ choices_lines rs)

-- the lines of the states: `s`, then its choices
abbrev pub states_lines : List State → List Line
states_lines [] = []
states_lines (s ∷ ss) = state_line s.labels ∷ (choices_lines s.choices ++ states_lines ss)

-- the lines of a content: the header, the states, the end
abbrev pub content_lines : Content → List Line
content_lines c = header_line (length c.states) c.denominator ∷ (states_lines c.states ++ (end_line ∷ []))

-- the text of a content
abbrev pub text_of : Content → List ℕ
text_of c = spelled (content_lines c)

-- a content within the limits: its model is lawful, and it has few choices, branches and bytes
pub record Within (c : Content) : Type 0 where
  pub lawful : Lawful (model_of c)
  pub few_choices : length (all_choices c.states) ≤ 2048
  pub few_branches : length (all_branches (all_choices c.states)) ≤ 4096
  pub short : length (text_of c) ≤ 65536

-- the text describes the content
pub record Describes (text : List ℕ) (c : Content) : Type 0 where
  pub within : Within c
  pub is : text ≡ text_of c
