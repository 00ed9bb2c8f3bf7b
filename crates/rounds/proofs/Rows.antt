-- What a lawful model gives of a row.
use Rattle.std.proofs.Common.{◌≡◌, ℕ, ◌<◌, ◌≤◌, length, take, ◌∙◌, take_all, arith}
use Rattle.model.specs.Mdp.{Mdp, Row, row, Lawful}
use Rattle.model.proofs.Rows.{ascends_short}
use Rattle.theory.proofs.Rounds.{row_lawful}

-- no row of a lawful model has more than 512 branches
row_short : (m : Mdp) → Lawful m → (s c : ℕ) → c < length (m.choices s) → length (row m s c) ≤ 512
row_short m l s c h = omega (arith, ascends_short m.states 0 (row m s c) (row_lawful m l s c h).ascends (omega arith), l.few_states)

-- a row that is lent with room for 512 branches is lent whole
pub lent_whole : (m : Mdp) → Lawful m → (s c n : ℕ) (r : Row) → c < length (m.choices s) → n ≡ 512 → r ≡ take n (row m s c) → r ≡ row m s c
lent_whole m l s c n r h room e = e ∙ take_all n (row m s c) (omega (arith, row_short m l s c h))
