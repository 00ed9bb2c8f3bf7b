-- Lists of the values of states, and the functions that they tell: a round after k rounds.
use Rattle.std.proofs.Common.{◌≡◌, ℕ, zero, suc, ◌<◌, Bool, List, refl, ◌∙◌, arith}
use Rattle.std.proofs.lemmas.List.FromFn.{get_or-map-range_with_len, length-map-range_with_len, fill_by_all}
use Rattle.model.specs.Mdp.{Mdp, Lawful}
use Rattle.theory.specs.Rules.{RuleLaws}
use Rattle.theory.specs.Rounds.{round, rounds, Optimum}
use Rattle.theory.proofs.Rounds.{round_same, rounds_optimal}
use Rattle.rules.specs.Values.{told}
use Rattle.rounds.specs.Runs.{listed, values_after}

-- a list of values tells them
pub told_listed : {V : Type 0} (n : ℕ) (f : ℕ → V) (d : V) (s : ℕ) → s < n → told (listed n f) d s ≡ f s
told_listed n f d s h = get_or-map-range_with_len f 0 n s s d h (omega arith)

-- functions that agree on the states have the same list
pub listed_same : {V : Type 0} (n : ℕ) (f g : ℕ → V) (d : V) → ((s : ℕ) → s < n → f s ≡ g s) → listed n f ≡ listed n g
listed_same n f g d h = fill_by_all g (listed n f) n d (length-map-range_with_len f 0 n) (λ s k. told_listed n f d s k ∙ h s k)

module _ {V : Type 0} (preferred : V → V → Bool) (mix : ℕ → List (ℕ × V) → V) (laws : RuleLaws preferred mix) (m : Mdp) (lawful : Lawful m) (values : List V) where
  -- the list after k rounds tells the values after k rounds
  pub told_after : (d : V) (k s : ℕ) → s < m.states → told (values_after preferred mix m values d k) d s ≡ rounds preferred mix k m (told values d) s
  told_after d zero s h = refl
  told_after d (suc k) s h = told_listed m.states (rounds preferred mix (suc k) m (told values d)) d s h

  -- a round from it gives the list after one round more
  pub after_more : (d : V) (k : ℕ) → listed m.states (round preferred mix m (told (values_after preferred mix m values d k) d)) ≡ values_after preferred mix m values d (suc k)
  after_more d k = listed_same m.states (round preferred mix m (told (values_after preferred mix m values d k) d)) (rounds preferred mix (suc k) m (told values d)) d
      (round_same preferred mix laws m lawful (told (values_after preferred mix m values d k) d) (rounds preferred mix k m (told values d)) (told_after d k))

  -- what it tells of a state is the optimum over all adversaries
  pub after_optimal : (d : V) (k s : ℕ) → s < m.states → Optimum preferred mix m (told values d) k s (told (values_after preferred mix m values d k) d s)
  after_optimal d k s h = rw (told_after d k s h) (rounds_optimal preferred mix laws m lawful (told values d) k s h)
