-- The weighted sum, over a row, of the parts that values have.
use Rattle.std.proofs.Common.{◌≡◌, ℕ, ◌+◌, ◌*◌, ◌<◌, ◌≤◌, List, [], length, get_or, drop, ap, ◌∙◌, zero-add, arith}
use Rattle.std.proofs.lemmas.List.{at_drop_more}
use Rattle.model.specs.Mdp.{Row, LawfulRow, no_branch, total}
use Rattle.theory.specs.Rules.{valued}
use Rattle.theory.specs.Mixes.{sum_of, whole}
use Rattle.theory.proofs.Rounds.{weight_after}
use Rattle.rules.specs.declared.part.Part.{Part}
use Rattle.rules.specs.Values.{told, carried}
use Rattle.rules.specs.Parts.{units_of}
use Rattle.rules.specs.PartsLemmas.{sum_bound}

module _ {V : Type 0} (f : V → Part) (vs : List V) (d : V) where
  -- the weighted sum over a row
  abbrev pub summed : Row → ℕ
  summed r = sum_of (carried (λ v. units_of (f v)) (valued (told vs d) r))

  -- it is at most the denominator times the whole
  pub summed_bound : (n u : ℕ) (r : Row) → LawfulRow n u r → summed r ≤ whole * u
  summed_bound n u r l =
      let b = sum_bound f (valued (told vs d) r) in
      let w = weight_after [] (told vs d) r ∙ zero-add (total r) ∙ l.sums in
      omega (arith, ap (λ n. whole * n) w)

  -- from branch i on it is that of this branch and of the others
  pub summed_more : (r : Row) (i : ℕ) → i < length r →
      summed (drop i r) ≡ (get_or r i no_branch).weight * units_of (f (get_or vs (get_or r i no_branch).target d)) + summed (drop (i + 1) r)
  summed_more r i h = at_drop_more summed r i no_branch h
