-- Marks at the front of a list, settled: those that the rounds find from the set that they tell.
use Rattle.std.proofs.Common.{◌≡◌, ℕ, ◌<◌, Bool, true, false, not, List, ◌++◌, get_or, take, Some, None, Ok, Option, sym, refl, ap, ◌∙◌, arith, get_or-take}
use Rattle.std.proofs.lemmas.List.FromFn.{length-map-range_with_len}
use Rattle.std.proofs.lemmas.List.{get_or_append_left}
use Rattle.model.specs.Mdp.{Mdp, Lawful}
use Rattle.theory.specs.Rounds.{rounds}
use Rattle.theory.specs.Mixes.{mix_marks}
use Rattle.theory.specs.Ends.{held}
use Rattle.theory.specs.WithoutSteps.{Extremal, over_none, at_most_none, at_least_whole, all_marks, unmarked, marked_set}
use Rattle.theory.specs.Verdicts.{VerdictSets, Alike, SameVerdicts}
use Rattle.theory.proofs.Bridge.{rounds_same}
use Rattle.theory.proofs.Settle.{all_settled}
use Rattle.theory.proofs.Sure.{unmarked_stays}
use Rattle.theory.proofs.WithoutSteps.{held_lawful}
use Rattle.rules.specs.declared.preference.Preference.{Preference}
use Rattle.rules.specs.declared.preference.Preference.TheVariants.{Greater}
use Rattle.rules.specs.Marks.{prefers_mark}
use Rattle.rules.specs.Values.{told}
use Rattle.rules.specs.MarkLaws.{marks_lawful}
use Rattle.rounds.specs.Runs.{listed}
use Rattle.rounds.specs.Settles.{marks_after, TakesNone, Settling}
use Rattle.rounds.proofs.Lists.{told_listed}
use Rattle.trial.specs.Rows.{bound_sets, extremal_verdicts}

module _ (p : Preference) (m : Mdp) (l : Lawful m) where
  -- marks that tell a set have the rounds of the set
  pub after_alike : (marks : List Bool) (from : ℕ → Bool) → Alike m (told marks false) from → (k s : ℕ) → s < m.states → marks_after p m marks k s ≡ rounds (prefers_mark p) mix_marks k m from s
  after_alike marks from = rounds_same (prefers_mark p) mix_marks (marks_lawful p) m l (told marks false) from

  module _ (n : ℕ) (e : n ≡ m.states) (marks : List Bool) where
    -- the front of a list tells the same marks
    front_told : Alike m (told (take n marks) false) (told marks false)
    front_told s h = get_or-take n marks s false (omega arith)

    -- so where the first round takes none away, it takes none of the front away
    front_grows : TakesNone p m marks → TakesNone p m (take n marks)
    front_grows grows s h f = after_alike (take n marks) (told marks false) front_told 1 s h ∙ grows s h (sym (front_told s h) ∙ f)

    -- so the rounds of the front settle: the answer that they do not is never given
    settled_list : TakesNone p m marks → (spare new spare' : List Bool) (o : Option ℕ) → Settling p m (take n marks) spare new spare' (Ok o) → new ≡ listed m.states (marks_after p m (take n marks) m.states)
    settled_list grows spare new spare' (Some j) settled = settled.first
    settled_list grows spare new spare' None settled = absurd (settled.some_taken (front_grows grows))

    -- and the settled front is that of the whole list
    pub front_settled : TakesNone p m marks → (spare new spare' rest : List Bool) (o : Option ℕ) → Settling p m (take n marks) spare new spare' (Ok o) → (d : Bool) (s : ℕ) → s < m.states → get_or (new ++ rest) s d ≡ marks_after p m marks m.states s
    front_settled grows spare new spare' rest o settled d s h =
        let after = marks_after p m (take n marks) m.states in
        ap (λ (vs : List Bool). get_or (vs ++ rest) s d) (settled_list grows spare new spare' o settled)
        ∙ get_or_append_left (listed m.states after) rest d s (omega (arith, length-map-range_with_len after 0 m.states))
        ∙ told_listed m.states after d s h
        ∙ after_alike (take n marks) (told marks false) front_told m.states s h

module _ (left right : ℕ → Bool) (m : Mdp) (l : Lawful m) (marks : List Bool) where
  -- what rounds over the layer that holds the settled states make of marks that tell a set, they make of the set
  pub held_alike : (p : Preference) (from : ℕ → Bool) → Alike m (told marks false) from → (s : ℕ) → s < m.states → (x : Bool) → x ≡ marks_after p (held left right m) marks m.states s →
      x ≡ rounds (prefers_mark p) mix_marks m.states (held left right m) from s
  held_alike p from e s h x f = f ∙ after_alike p (held left right m) (held_lawful left right m l) marks from e m.states s h

  -- from what the settled marks with no preferred leave unmarked, no round with yes preferred takes a mark away
  pub unmarked_grows : Alike m (told marks false) (unmarked left right m m.states) → TakesNone Greater (held left right m) marks
  unmarked_grows e s h f =
      after_alike Greater (held left right m) (held_lawful left right m l) marks (unmarked left right m m.states) e 1 s h
      ∙ unmarked_stays left right m l m.states (all_settled left right m l) 1 s h (not-true (all_marks left right m right m.states s) (sym (e s h) ∙ f))
    where
      not-true : (b : Bool) → not b ≡ true → b ≡ false
      not-true true g = sym g
      not-true false g = refl

-- marks that are those of the sets give the verdicts on the sets
pub bound_same : (o : Extremal) (m : Mdp) (v w : VerdictSets) (on_sure on_possible : List Bool) →
    Alike m (told on_sure false) (marked_set o v.sure w.sure m) → Alike m (told on_possible false) (marked_set o v.possible w.possible m) →
    SameVerdicts m (bound_sets o on_sure on_possible) (extremal_verdicts o m v w)
bound_same over_none m v w on_sure on_possible f g = record { sures = f; possibles = g }
bound_same at_most_none m v w on_sure on_possible f g = record { sures = g; possibles = f }
bound_same at_least_whole m v w on_sure on_possible f g = record { sures = f; possibles = g }
