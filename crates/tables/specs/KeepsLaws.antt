-- A content that passes the test of the limits is within them.
use Rattle.std.specs.Prelude.{◌≡◌, ℕ, ◌+◌, true, ◌&&◌, List, [], ◌∷◌, length, ◌==◌, nat_le, nat_lt}
use Rattle.std.proofs.lemmas.Bool.{and_parts, leb-true, ltb-true, eqb-true}
use Rattle.model.specs.Mdp.{Row, Ascends, LawfulRow, Each, total}
use Rattle.text.specs.Contents.{State, Content, all_choices, all_branches}
use Rattle.text.specs.Fields.{between}
use Rattle.text.specs.Texts.{text_of, Within}
use Rattle.text_laws.proofs.SoundFields.{between_true}
use Rattle.text_laws.proofs.States.{LawfulState, lawful_content}
use Rattle.tables.specs.Keeps.{row_ascends, rows_keep, states_keep, keeps}

-- a row that passes the test ascends
ascends_so : (n low : ℕ) (r : Row) → row_ascends n low r ≡ true → Ascends n low r
ascends_so n low [] e = tt
ascends_so n low (b ∷ bs) e =
    let p = and_parts (nat_le low b.target) (nat_lt b.target n && (nat_le 1 b.weight && row_ascends n (b.target + 1) bs)) e in
    let q = and_parts (nat_lt b.target n) (nat_le 1 b.weight && row_ascends n (b.target + 1) bs) p.1 in
    let t = and_parts (nat_le 1 b.weight) (row_ascends n (b.target + 1) bs) q.1 in
    (leb-true low b.target p.0, ltb-true b.target n q.0, leb-true 1 b.weight t.0, ascends_so n (b.target + 1) bs t.1)

-- rows that pass the test are lawful
rows_so : (n d : ℕ) (rs : List Row) → rows_keep n d rs ≡ true → Each (LawfulRow n d) rs
rows_so n d [] e = tt
rows_so n d (r ∷ rs) e =
    let p = and_parts (row_ascends n 0 r && total r == d) (rows_keep n d rs) e in
    let q = and_parts (row_ascends n 0 r) (total r == d) p.0 in
    (record { ascends = ascends_so n 0 r q.0; sums = eqb-true (total r) d q.1 }, rows_so n d rs p.1)

-- states that pass the test are lawful
states_so : (n d : ℕ) (ss : List State) → states_keep n d ss ≡ true → Each (LawfulState n d) ss
states_so n d [] e = tt
states_so n d (s ∷ ss) e =
    let p = and_parts (length s.labels == 16 && (nat_le 1 (length s.choices) && rows_keep n d s.choices)) (states_keep n d ss) e in
    let q = and_parts (length s.labels == 16) (nat_le 1 (length s.choices) && rows_keep n d s.choices) p.0 in
    let t = and_parts (nat_le 1 (length s.choices)) (rows_keep n d s.choices) q.1 in
    (record { labels = eqb-true (length s.labels) 16 q.0; some_choice = leb-true 1 (length s.choices) t.0; rows = rows_so n d s.choices t.1 }, states_so n d ss p.1)

-- a content that passes the test is within the limits
pub keeps_within : (c : Content) → keeps c ≡ true → Within c
keeps_within c e =
    let n = and_parts (between 1 512 (length c.states)) _ e in
    let d = and_parts (between 1 1000000 c.denominator) _ n.1 in
    let states = and_parts (states_keep (length c.states) c.denominator c.states) _ d.1 in
    let choices = and_parts (nat_le (length (all_choices c.states)) 2048) _ states.1 in
    let branches = and_parts (nat_le (length (all_branches (all_choices c.states))) 4096) (nat_le (length (text_of c)) 65536) choices.1 in
    let few = leb-true (length (all_choices c.states)) 2048 choices.0 in
    record {
      lawful = lawful_content c (between_true 1 512 (length c.states) n.0) (between_true 1 1000000 c.denominator d.0) few (states_so (length c.states) c.denominator c.states states.0);
      few_choices = few;
      few_branches = leb-true (length (all_branches (all_choices c.states))) 4096 branches.0;
      short = leb-true (length (text_of c)) 65536 branches.1;
    }
