-- What a lawful row gives of its branches.
use Rattle.std.proofs.Common.{ℕ, ◌<◌, length, get_or}
use Rattle.model.specs.declared.branch.Branch.{Branch}
use Rattle.model.specs.Mdp.{Row, LawfulRow, no_branch}
use Rattle.model.proofs.Lists.{each_at}
use Rattle.theory.proofs.Rounds.{ascends_within}

-- each target of a lawful row is a state
pub row_target : (n d : ℕ) (r : Row) (i : ℕ) → LawfulRow n d r → i < length r → (get_or r i no_branch).target < n
row_target n d r i l h = each_at (λ (b : Branch). b.target < n) r i no_branch (ascends_within n 0 r l.ascends) h
