-- Rows of verdict bytes that are written state by state, and what a row tells.
use Rattle.std.proofs.Common.{◌≡◌, ℕ, ◌<◌, Bool, true, false, not, eqb, ◌≢◌, List, length, get_or, set, sym, refl, ap, ◌∙◌, arith, get_or-set_other, get_or-set_same}
use Rattle.std.proofs.lemmas.List.FromFn.{fill_by_all}
use Rattle.model.specs.Mdp.{Mdp}
use Rattle.theory.specs.Verdicts.{VerdictSets, SameVerdicts}
use Rattle.rounds.proofs.Lists.{told_listed, listed_same}
use Rattle.trial.specs.VerdictBytes.{verdict_number, verdict_by}
use Rattle.trial.specs.Queries.{marked}
use Rattle.trial.specs.Rows.{sets, byte_at, bytes}

-- a row with the byte of each state's verdict is the row of the verdicts
pub row_written : (v : VerdictSets) (row : List ℕ) (n : ℕ) → length row ≡ n → ((s : ℕ) → s < n → get_or row s 0 ≡ byte_at v s) → row ≡ bytes n v
row_written v row n long written = fill_by_all (byte_at v) row n 0 long written

-- a byte before the one that is written is as it was
pub byte_kept : (row : List ℕ) (i b s v : ℕ) → s < i → get_or row s 0 ≡ v → get_or (set row i b) s 0 ≡ v
byte_kept row i b s v h e = let ne : s ≢ i = omega arith in rw get_or-set_other e

-- and the one that is written is there
pub byte_set : (row : List ℕ) (i b v : ℕ) → i < length row → b ≡ v → get_or (set row i b) i 0 ≡ v
byte_set row i b v h e = rw get_or-set_same e

-- the byte of a verdict is 1 where it is sure
byte_sure : (a b : Bool) → eqb (verdict_number (verdict_by a b)) 1 ≡ a
byte_sure true b = refl
byte_sure false true = refl
byte_sure false false = refl

-- it is not 0 where it is possible, if what is sure is possible
byte_possible : (a b : Bool) → (a ≡ true → b ≡ true) → not (eqb (verdict_number (verdict_by a b)) 0) ≡ b
byte_possible true b h = sym (h refl)
byte_possible false true h = refl
byte_possible false false h = refl

-- the sure states that a row tells are those that it was made of
pub bytes_sure : (n : ℕ) (v : VerdictSets) (s : ℕ) → s < n → marked (bytes n v) s ≡ v.sure s
bytes_sure n v s h = ap (λ (b : ℕ). eqb b 1) (told_listed n (byte_at v) 0 s h) ∙ byte_sure (v.sure s) (v.possible s)

-- so are both its sets, if what is sure is possible
pub bytes_sets : (m : Mdp) (v : VerdictSets) → ((s : ℕ) → s < m.states → v.sure s ≡ true → v.possible s ≡ true) → SameVerdicts m (sets (bytes m.states v)) v
bytes_sets m v within = record {
  sures = bytes_sure m.states v;
  possibles = λ s h. ap (λ (b : ℕ). not (eqb b 0)) (told_listed m.states (byte_at v) 0 s h) ∙ byte_possible (v.sure s) (v.possible s) (within s h);
}

-- verdicts that are the same on the states have the same row
pub bytes_same : (m : Mdp) (v w : VerdictSets) → SameVerdicts m v w → bytes m.states v ≡ bytes m.states w
bytes_same m v w same = listed_same m.states (byte_at v) (byte_at w) 0 (λ s h. ap (λ (a : Bool). verdict_number (verdict_by a (v.possible s))) (same.sures s h) ∙ ap (λ (b : Bool). verdict_number (verdict_by (w.sure s) b)) (same.possibles s h))
