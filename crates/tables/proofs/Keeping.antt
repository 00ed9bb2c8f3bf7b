-- A content within the limits passes the test of the limits. (That what passes it is within them is `keeps_within`.)
use Rattle.std.proofs.Common.{◌≡◌, ℕ, ◌+◌, true, List, [], ◌∷◌, length, refl}
use Rattle.std.proofs.lemmas.Bool.{and_from, le-leb, lt-ltb, eq-eqb}
use Rattle.model.specs.Mdp.{Row, total, Ascends, LawfulRow, Each}
use Rattle.text.specs.Contents.{State, Content, all_choices, all_branches}
use Rattle.text.specs.Texts.{text_of, Within}
use Rattle.text_laws.proofs.CompleteFields.{between_from}
use Rattle.text_laws.proofs.States.{LawfulState, lawful_states}
use Rattle.tables.specs.Keeps.{row_ascends, rows_keep, states_keep, keeps}

-- a row that ascends passes the test
ascends_from : (n low : ℕ) (r : Row) → Ascends n low r → row_ascends n low r ≡ true
ascends_from n low [] a = refl
ascends_from n low (b ∷ bs) a =
    and_from _ _ (le-leb low b.target a.0) (and_from _ _ (lt-ltb b.target n a.1) (and_from _ _ (le-leb 1 b.weight a.2) (ascends_from n (b.target + 1) bs a.3)))

-- lawful rows pass the test
rows_from : (n d : ℕ) (rs : List Row) → Each (LawfulRow n d) rs → rows_keep n d rs ≡ true
rows_from n d [] a = refl
rows_from n d (r ∷ rs) a =
    and_from _ _ (and_from _ _ (ascends_from n 0 r a.0.ascends) (eq-eqb (total r) d a.0.sums)) (rows_from n d rs a.1)

-- lawful states pass the test
states_from : (n d : ℕ) (ss : List State) → Each (LawfulState n d) ss → states_keep n d ss ≡ true
states_from n d [] a = refl
states_from n d (s ∷ ss) a =
    let labels = eq-eqb (length s.labels) 16 a.0.labels in
    let number = le-leb 1 (length s.choices) a.0.some_choice in
    and_from _ _ (and_from _ _ labels (and_from _ _ number (rows_from n d s.choices a.0.rows))) (states_from n d ss a.1)

-- a content within the limits passes the test
pub within_keeps : (c : Content) → Within c → keeps c ≡ true
within_keeps c w =
    let l = w.lawful in
    let n = between_from 1 512 (length c.states) l.some_state l.few_states in
    let d = between_from 1 1000000 c.denominator l.some_unit l.few_units in
    let states = states_from (length c.states) c.denominator c.states (lawful_states c l) in
    let choices = le-leb (length (all_choices c.states)) 2048 w.few_choices in
    let branches = le-leb (length (all_branches (all_choices c.states))) 4096 w.few_branches in
    let bytes = le-leb (length (text_of c)) 65536 w.short in
    and_from _ _ n (and_from _ _ d (and_from _ _ states (and_from _ _ choices (and_from _ _ branches bytes))))
