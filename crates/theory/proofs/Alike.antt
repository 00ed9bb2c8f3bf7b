-- Only the states count: sets alike below n give the same ends and the same verdicts, so a program's marks may stand for them.
use Rattle.std.proofs.Common.{◌≡◌, ℕ, ◌<◌, Bool, true, cond, ◌&&◌, ltb, List, [], ◌∷◌, sym, refl, ap, ◌∙◌, subst, inl, inr, ltb-true, ap₂}
use Rattle.theory.proofs.Compare.{asked_laws}
use Rattle.std.proofs.lemmas.Bool.{cases_Bool}
use mathlib.Core.Path.{fun_ext}
use Rattle.std.proofs.lemmas.Bool.Decides.{same_from_decides}
use Rattle.model.specs.Mdp.{Mdp, Row, Lawful, hold, to}
use Rattle.theory.specs.Found.{extremal_verdicts}
use Rattle.theory.specs.Rules.{RuleLaws}
use Rattle.theory.specs.Rounds.{rounds}
use Rattle.theory.specs.Mixes.{mix_down, mix_up}
use Rattle.theory.specs.Ends.{held, stops, start, next_lower, next_upper, lower, upper}
use Rattle.theory.specs.WithoutSteps.{Extremal, over_none, at_most_none, at_least_whole, marked_set}
use Rattle.theory.specs.Formulas.{Comparison}
use Rattle.theory.specs.Verdicts.{fits, VerdictSets, next_verdicts, until_within_verdicts, Alike, SameVerdicts, asked, harder_end, easier_end, read_off}
use Rattle.theory.proofs.RuleLaws.{down_greater, down_lesser, up_greater, up_lesser}
use Rattle.model.specs.HoldLaws.{hold_lawful}
use Rattle.theory.proofs.Bridge.{rounds_same}
use Rattle.theory.proofs.Between.{Subset}
use Rattle.theory.proofs.Meaning.{marked_iff, without_steps_same}

-- models that hold the same states below n
pub hold_same : (m : Mdp) (f g : ℕ → Bool) → ((t : ℕ) → t < m.states → f t ≡ g t) → hold f m ≡ hold g m
hold_same m f g h =
    ap (λ (c : ℕ → List Row). record { states = m.states; denominator = m.denominator; labels = m.labels; choices = c }) (fun_ext same)
  where
    same : (s : ℕ) → cond (ltb s m.states && f s) ((to s m.denominator ∷ []) ∷ []) (m.choices s) ≡ cond (ltb s m.states && g s) ((to s m.denominator ∷ []) ∷ []) (m.choices s)
    same s = elim (cases_Bool (ltb s m.states)) [
      | inl e ↦ rw (h s (ltb-true s m.states e))
      | inr e ↦ rw e
    ]

module _ (m : Mdp) (l : Lawful m) (s : ℕ) (p : s < m.states) where
  -- rounds over the held model, from the start of right, depend on the two sets at the states only
  pub held_alike : (prefer : ℕ → ℕ → Bool) (mix : ℕ → List (ℕ × ℕ) → ℕ) → RuleLaws prefer mix → (left left' right right' : ℕ → Bool) → Alike m left left' → Alike m right right' → (k : ℕ) →
      rounds prefer mix k (held left right m) (start right) s ≡ rounds prefer mix k (held left' right' m) (start right') s
  held_alike prefer mix laws left left' right right' f g k =
      subst (λ (x : Mdp). rounds prefer mix k (held left right m) (start right) s ≡ rounds prefer mix k x (start right) s)
      (hold_same m (stops left right) (stops left' right') (λ t q. rw (f t q, g t q))) refl
      ∙ rounds_same prefer mix laws (held left' right' m) (hold_lawful (stops left' right') m l) (start right) (start right') (λ t q. rw (g t q)) k s p

  -- so does the one round of a next on its set
  pub next_alike : (prefer : ℕ → ℕ → Bool) (mix : ℕ → List (ℕ × ℕ) → ℕ) → RuleLaws prefer mix → (f g : ℕ → Bool) → Alike m f g →
      rounds prefer mix 1 m (start f) s ≡ rounds prefer mix 1 m (start g) s
  next_alike prefer mix laws f g h = rounds_same prefer mix laws m l (start f) (start g) (λ t q. rw (h t q)) 1 s p

  -- so do the sets that marks find
  pub marked_alike : (o : Extremal) (left left' right right' : ℕ → Bool) → Alike m left left' → Alike m right right' → marked_set o left right m s ≡ marked_set o left' right' m s
  marked_alike o left left' right right' f g = same_from_decides {P = marked_set o left' right' m s ≡ true} _ _ (
    (λ e. (marked_iff m l s p o left' right').1 (without_steps_same m l s p o left left' right right' up down up' down' ((marked_iff m l s p o left right).0 e))),
    (λ e. (marked_iff m l s p o left right).1 (without_steps_same m l s p o left' left right' right down up down' up' ((marked_iff m l s p o left' right').0 e))),
  )
      (λ e. e, λ e. e)
    where
      up : Subset m left left'
      up t q e = sym (f t q) ∙ e

      down : Subset m left' left
      down t q e = f t q ∙ e

      up' : Subset m right right'
      up' t q e = sym (g t q) ∙ e

      down' : Subset m right' right
      down' t q e = g t q ∙ e

-- a part's verdicts, read from a program's row of bytes, may stand for the part
module _ (m : Mdp) (l : Lawful m) where
  -- verdicts read off ends that are alike are the same
  read_off_alike : (c : Comparison) (b : ℕ) (lo lo' hi hi' : ℕ → ℕ) → ((s : ℕ) → s < m.states → lo s ≡ lo' s) → ((s : ℕ) → s < m.states → hi s ≡ hi' s) →
      SameVerdicts m (read_off c b lo hi) (read_off c b lo' hi')
  read_off_alike c b lo lo' hi hi' f g = record {
    sures = λ s p. ap₂ (λ x y. fits c (harder_end c x y) b) (f s p) (g s p);
    possibles = λ s p. ap₂ (λ x y. fits c (easier_end c x y) b) (f s p) (g s p);
  }

  -- the verdicts of a next
  pub next_verdicts_alike : (c : Comparison) (b : ℕ) (v v' : VerdictSets) → SameVerdicts m v v' → SameVerdicts m (next_verdicts c b m v) (next_verdicts c b m v')
  next_verdicts_alike c b v v' x = read_off_alike c b
      (next_lower (asked c) v.sure m) (next_lower (asked c) v'.sure m) (next_upper (asked c) v.possible m) (next_upper (asked c) v'.possible m)
      (λ s p. next_alike m l s p (asked c) mix_down (asked_laws mix_down down_greater down_lesser c) v.sure v'.sure x.sures)
      (λ s p. next_alike m l s p (asked c) mix_up (asked_laws mix_up up_greater up_lesser c) v.possible v'.possible x.possibles)

  -- the verdicts of an until with steps
  pub until_within_verdicts_alike : (c : Comparison) (b k : ℕ) (v v' w w' : VerdictSets) → SameVerdicts m v v' → SameVerdicts m w w' → SameVerdicts m (until_within_verdicts c b k m v w) (until_within_verdicts c b k m v' w')
  until_within_verdicts_alike c b k v v' w w' x y = read_off_alike c b
      (lower (asked c) v.sure w.sure k m) (lower (asked c) v'.sure w'.sure k m) (upper (asked c) v.possible w.possible k m) (upper (asked c) v'.possible w'.possible k m)
      (λ s p. held_alike m l s p (asked c) mix_down (asked_laws mix_down down_greater down_lesser c) v.sure v'.sure w.sure w'.sure x.sures y.sures k)
      (λ s p. held_alike m l s p (asked c) mix_up (asked_laws mix_up up_greater up_lesser c) v.possible v'.possible w.possible w'.possible x.possibles y.possibles k)

  -- the verdicts of an until without steps
  pub extremal_verdicts_alike : (o : Extremal) (v v' w w' : VerdictSets) → SameVerdicts m v v' → SameVerdicts m w w' → SameVerdicts m (extremal_verdicts o m v w) (extremal_verdicts o m v' w')
  extremal_verdicts_alike over_none v v' w w' x y = record {
    sures = λ s p. marked_alike m l s p over_none _ _ _ _ x.sures y.sures;
    possibles = λ s p. marked_alike m l s p over_none _ _ _ _ x.possibles y.possibles;
  }
  extremal_verdicts_alike at_most_none v v' w w' x y = record {
    sures = λ s p. marked_alike m l s p at_most_none _ _ _ _ x.possibles y.possibles;
    possibles = λ s p. marked_alike m l s p at_most_none _ _ _ _ x.sures y.sures;
  }
  extremal_verdicts_alike at_least_whole v v' w w' x y = record {
    sures = λ s p. marked_alike m l s p at_least_whole _ _ _ _ x.sures y.sures;
    possibles = λ s p. marked_alike m l s p at_least_whole _ _ _ _ x.possibles y.possibles;
  }
