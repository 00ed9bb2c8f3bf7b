-- The text of a content, piece after piece.
use Rattle.std.proofs.Common.{◌≡◌, ℕ, List, [], ◌∷◌, ◌++◌, length, sym, refl, ap, ◌∙◌, append_assoc}
use Rattle.std.specs.List.{flat_map}
use Rattle.model.specs.declared.branch.Branch.{Branch}
use Rattle.model.specs.Mdp.{Row}
use Rattle.text.specs.Contents.{State, Content}
use Rattle.text.specs.Cuts.{Line, parted, spelled}
use Rattle.text.specs.Texts.{header_line, state_line, choice_line, branch_line, end_line, row_lines, choices_lines, states_lines, text_of}
use Rattle.text.proofs.Joining.{spelled_append}
use Rattle.tables.specs.Pages.{line_text, choice_text, state_text}

-- the first line, then the others
spelled_more : (l : Line) (ls : List Line) → spelled (l ∷ ls) ≡ line_text l ++ spelled ls
spelled_more l ls = sym (append_assoc (parted l) (10 ∷ []) (spelled ls))

-- a line of three fields: each after the first begins with a tab
pub line_fields : (w a b : List ℕ) → line_text (w ∷ a ∷ b ∷ []) ≡ w ++ ((9 ∷ a) ++ ((9 ∷ b) ++ (10 ∷ [])))
line_fields w a b = simp append_assoc

-- the text of one branch
abbrev pub branch_text : Branch → List ℕ
branch_text b = line_text (branch_line b)

-- the lines of a row, branch after branch
row_is : (r : Row) → spelled (row_lines r) ≡ flat_map branch_text r
row_is [] = refl
row_is (b ∷ bs) = spelled_more (branch_line b) (row_lines bs) ∙ ap (λ t. branch_text b ++ t) (row_is bs)

-- a choice: `c` and an LF, then its branches
pub choice_is : (r : Row) → choice_text r ≡ (99 ∷ 10 ∷ []) ++ flat_map branch_text r
choice_is r = ap (λ t. 99 ∷ 10 ∷ t) (row_is r)

-- the lines of choices, choice after choice
choices_are : (rs : List Row) → spelled (choices_lines rs) ≡ flat_map choice_text rs
choices_are [] = refl
choices_are (r ∷ rs) = spelled_append (choice_line ∷ row_lines r) (choices_lines rs) ∙ ap (λ t. choice_text r ++ t) (choices_are rs)

-- a state: its line, then its choices
pub state_is : (s : State) → state_text s ≡ line_text (state_line s.labels) ++ flat_map choice_text s.choices
state_is s = spelled_more (state_line s.labels) (choices_lines s.choices) ∙ ap (λ t. line_text (state_line s.labels) ++ t) (choices_are s.choices)

-- the lines of states, state after state
states_are : (ss : List State) → spelled (states_lines ss) ≡ flat_map state_text ss
states_are [] = refl
states_are (s ∷ ss) = spelled_append (state_line s.labels ∷ choices_lines s.choices) (states_lines ss) ∙ ap (λ t. state_text s ++ t) (states_are ss)

-- a text: the header, the states, the end
pub text_is : (c : Content) → text_of c ≡ line_text (header_line (length c.states) c.denominator) ++ (flat_map state_text c.states ++ (101 ∷ 110 ∷ 100 ∷ 10 ∷ []))
text_is c =
    spelled_more (header_line (length c.states) c.denominator) (states_lines c.states ++ (end_line ∷ []))
    ∙ ap (λ t. line_text (header_line (length c.states) c.denominator) ++ t) (spelled_append (states_lines c.states) (end_line ∷ []) ∙ ap (λ t. t ++ (101 ∷ 110 ∷ 100 ∷ 10 ∷ [])) (states_are c.states))
