-- The flags of a hold layer where none is set.
use Rattle.std.proofs.Common.{◌≡◌, ℕ, zero, suc, false, ltb, List, get_or, replicate, refl, ap}
use mathlib.Core.Path.{fun_ext}
use mathlib.Core.Bool.{and-false}
use Rattle.model.specs.Mdp.{Mdp, Row}
use Rattle.layers.specs.Holds.{held_model}

-- the model m with other choices
abbrev with_choices : Mdp → (ℕ → List Row) → Mdp
with_choices m f = record { states = m.states; denominator = m.denominator; labels = m.labels; choices = f }

-- no flag is set among flags that are all false
pub none_set : (n s : ℕ) → get_or (replicate n false) s false ≡ false
none_set zero s = refl
none_set (suc n) zero = refl
none_set (suc n) (suc s) = none_set n s

-- where no flag is set, the model is the one below
pub held_none : (m : Mdp) (n : ℕ) → held_model m (replicate n false) ≡ m
held_none m n =
    let each : (s : ℕ) → (held_model m (replicate n false)).choices s ≡ m.choices s = λ s. rw (none_set n s, and-false (ltb s m.states)) in
    ap (with_choices m) (fun_ext each)
