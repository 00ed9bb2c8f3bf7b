-- A loop over the parts of some bytes, each with its number.
use Rattle.std.proofs.Common.{◌≡◌, ℕ, ◌<◌, List, length, get_or, Some, None, Option, ap, ◌∙◌, zero-add, Bor, arith}
use Rattle.std.specs.Iterator.{Yields}
use Rattle.std.specs.List.{enumerate_from}
use Rattle.std.proofs.lemmas.Iterator.{YieldsList}
use Rattle.std.proofs.lemmas.Iterator.Consumers.{YieldsList-turn, YieldsList-end}
use Rattle.std.proofs.lemmas.List.FromFn.{get_or-enumerate_from, length-enumerate_from}

-- a loop over parts that are counted from 0, which has had the parts xs
module _ {S : Type 0} {steps : S → Option (ℕ × Bor (List ℕ)) → S → Type 0} {s : S} (parts : List (List ℕ)) (each : YieldsList steps (λ p. (p.0, p.1.now)) s (enumerate_from 0 parts)) (xs : List (ℕ × Bor (List ℕ))) (t : S) (had : Yields steps s xs t) (u : S) (got : Option (ℕ × Bor (List ℕ))) (step : steps t got u) where
  -- gets the next part, if it gets one
  pub next_part : (i : ℕ) (part : Bor (List ℕ)) → got ≡ Some (i, part) → (i ≡ length xs) × (length xs < length parts) × (part.now ≡ get_or parts (length xs) part.now)
  next_part i part e =
      let turn = YieldsList-turn each xs t had got u (i, part) e step in
      let few : length xs < length parts = omega (arith, turn.0, length-enumerate_from 0 parts) in
      let same = turn.1 ∙ get_or-enumerate_from 0 parts (length xs) (i, part.now) few in
      (ap (λ p. p.0) same ∙ zero-add (length xs), few, ap (λ p. p.1) same)

  -- where it gets none, it has had all parts
  pub no_part : got ≡ None → length xs ≡ length parts
  no_part e = (YieldsList-end each xs t had got u e step).1 ∙ length-enumerate_from 0 parts
