-- The lines of a content tell that content.
use Rattle.std.proofs.Common.{◌≡◌, ℕ, ◌^◌, ◌<◌, List, [], ◌∷◌, ◌++◌, length, refl, ap, ◌∙◌, ap₂, arith}
use Rattle.std.proofs.lemmas.List.{append_assoc}
use Rattle.model.specs.declared.branch.Branch.{Branch}
use Rattle.model.specs.Mdp.{Row, Each}
use Rattle.text.specs.Contents.{State, Content}
use Rattle.text.specs.Texts.{branch_line, row_lines, choices_lines, states_lines, content_lines, end_line, Within}
use Rattle.text.specs.Cuts.{Line}
use Rattle.text_laws.proofs.Nest.{branch_of, Nested, nest, content_of}
use Rattle.text_laws.proofs.States.{LawfulState, lawful_states, Small, small_rows}
use Rattle.text_laws.proofs.CompleteFields.{amount_decimal, labels_read}

-- the rest of an open row, further choices and further states
abbrev nested : Row → List Row → List State → Nested
nested r rs ss = record { row = r; rows = rs; states = ss }

-- the line of a branch writes that branch
pub branch_told : (b : Branch) → Small b → branch_of (branch_line b) ≡ b
branch_told b h = λ i. record { target = amount_decimal b.target h.target i; weight = amount_decimal b.weight h.weight i }

-- the lines of a row tell that row
row_told : (r : Row) (rest : List Line) (rs : List Row) (ss : List State) → Each Small r → nest rest ≡ nested [] rs ss → nest (row_lines r ++ rest) ≡ nested r rs ss
row_told [] rest rs ss h e = e
row_told (b ∷ bs) rest rs ss h e = ap₂ (λ a n. nested (a ∷ n.row) n.rows n.states) (branch_told b h.0) (row_told bs rest rs ss h.1 e)

-- the lines of a state's choices tell those
choices_told : (rs : List Row) (rest : List Line) (ss : List State) → Each (Each Small) rs → nest rest ≡ nested [] [] ss → nest (choices_lines rs ++ rest) ≡ nested [] rs ss
choices_told [] rest ss h e = e
choices_told (r ∷ rs) rest ss h e =
    ap (λ n. nested [] (n.row ∷ n.rows) n.states) (ap nest (append_assoc (row_lines r) (choices_lines rs) rest) ∙ row_told r (choices_lines rs ++ rest) rs ss h.0 (choices_told rs rest ss h.1 e))

-- the lines of states, before the end, tell those
states_told : (n d : ℕ) (ss : List State) → n < 10 ^ 7 → d < 10 ^ 7 → Each (LawfulState n d) ss → nest (states_lines ss ++ (end_line ∷ [])) ≡ nested [] [] ss
states_told n d [] few_states few_units h = refl
states_told n d (s ∷ ss) few_states few_units h =
    ap₂ (λ flags m. nested [] [] (record { labels = flags; choices = m.rows } ∷ m.states)) (labels_read s.labels h.0.labels) (ap nest (append_assoc (choices_lines s.choices) (states_lines ss) (end_line ∷ [])) ∙ choices_told s.choices (states_lines ss ++ (end_line ∷ [])) ss (small_rows n d s few_states few_units h.0) (states_told n d ss few_states few_units h.1))

-- the lines of a content within the limits tell that content
pub told : (c : Content) → Within c → content_of (content_lines c) ≡ c
told c h =
    let few_states : length c.states < 10 ^ 7 = omega (arith, h.lawful.few_states) in
    let few_units : c.denominator < 10 ^ 7 = omega (arith, h.lawful.few_units) in
    let states = states_told (length c.states) c.denominator c.states few_states few_units (lawful_states c h.lawful) in
    λ i. record { denominator = amount_decimal c.denominator few_units i; states = (states i).states }
