-- A test that decides whether a content is within the limits, so that the tables can keep its answer.
use Rattle.std.specs.Prelude.{ℕ, ◌+◌, Bool, true, ◌&&◌, List, [], ◌∷◌, length, ◌==◌, nat_le, nat_lt}
use Rattle.model.specs.Mdp.{Row, total}
use Rattle.text.specs.Fields.{between}
use Rattle.text.specs.Contents.{State, Content, all_choices, all_branches}
use Rattle.text.specs.Texts.{text_of}

-- targets ascend strictly, from at least `low`, and stay below n; weights are at least 1
abbrev pub row_ascends : ℕ → ℕ → Row → Bool
row_ascends n low [] = true
row_ascends n low (b ∷ bs) = nat_le low b.target && (nat_lt b.target n && (nat_le 1 b.weight && row_ascends n (b.target + 1) bs))

-- each row is lawful
abbrev pub rows_keep : ℕ → ℕ → List Row → Bool
rows_keep n d [] = true
rows_keep n d (r ∷ rs) = (row_ascends n 0 r && total r == d) && rows_keep n d rs

-- each state has sixteen flags, a choice at least, and lawful rows
abbrev pub states_keep : ℕ → ℕ → List State → Bool
states_keep n d [] = true
states_keep n d (s ∷ ss) = (length s.labels == 16 && (nat_le 1 (length s.choices) && rows_keep n d s.choices)) && states_keep n d ss

-- the content is within the limits
abbrev pub keeps : Content → Bool
keeps c =
    between 1 512 (length c.states)
    && (between 1 1000000 c.denominator
    && (states_keep (length c.states) c.denominator c.states
    && (nat_le (length (all_choices c.states)) 2048
    && (nat_le (length (all_branches (all_choices c.states))) 4096
    && nat_le (length (text_of c)) 65536))))
