-- Rounds of marks: when two lists of marks after rounds are the same, that they then stay for good, and when that must come.
use Rattle.std.proofs.Common.{◌≡◌, ℕ, zero, suc, ◌+◌, ◌-◌, ◌<◌, ◌≤◌, Bool, true, false, not, List, length, None, sym, refl, ap, ◌∙◌, suc-add, zero-add, sub-add_cancel, add-one, arith}
use Rattle.std.proofs.lemmas.Bool.{both_ways}
use Rattle.std.proofs.lemmas.List.FromFn.{fill_by_all}
use Rattle.model.specs.Mdp.{Mdp, Lawful}
use Rattle.theory.specs.Rounds.{round}
use Rattle.theory.specs.Mixes.{mix_marks, yes_first, no_first}
use Rattle.theory.specs.WithoutSteps.{Settled}
use Rattle.theory.proofs.Rounds.{rising, falling, round_same}
use Rattle.theory.proofs.RuleLaws.{marks_greater, marks_lesser}
use Rattle.theory.proofs.Sure.{yes_first_yes}
use Rattle.theory.proofs.Settle.{settle, settled_later, no_first_grows, from_no_first, from_yes_first}
use Rattle.rules.specs.declared.preference.Preference.{Preference}
use Rattle.rules.specs.declared.preference.Preference.TheVariants.{Greater, Lesser}
use Rattle.rules.specs.Marks.{prefers_mark}
use Rattle.rules.specs.Values.{told}
use Rattle.rules.specs.MarkLaws.{marks_lawful}
use Rattle.rounds.specs.Runs.{listed}
use Rattle.rounds.specs.Refusals.{lengths_fault}
use Rattle.rounds.specs.Settles.{marks_after, TakesNone, AddsNone, SettledAt, Unsettled}
use Rattle.rounds.proofs.Lists.{told_listed, listed_same}

-- a negation keeps two marks apart
not_apart : (a b : Bool) → not a ≡ not b → a ≡ b
not_apart true true e = refl
not_apart true false e = sym e
not_apart false true e = sym e
not_apart false false e = refl

-- where one mark comes with another, the other is absent where the one is
not_grows : (a b : Bool) → (b ≡ true → a ≡ true) → not a ≡ true → not b ≡ true
not_grows true b h e = absurd (both_ways false refl e)
not_grows false true h e = absurd (both_ways false refl (h refl))
not_grows false false h e = refl

module _ (p : Preference) (m : Mdp) (l : Lawful m) (marks : List Bool) where
  -- the list of the marks after k rounds
  abbrev pub list_after : ℕ → List Bool
  list_after k = listed m.states (marks_after p m marks k)

  -- the given list is that after no round
  pub list_none : length marks ≡ m.states → marks ≡ list_after 0
  list_none long = fill_by_all (told marks false) marks m.states false long (λ k h. refl)

  -- a round from the list after k rounds gives that after one more
  pub list_more : (k : ℕ) (old new : List Bool) → old ≡ list_after k → new ≡ listed m.states (round (prefers_mark p) mix_marks m (told old false)) → new ≡ list_after (suc k)
  list_more k old new e f =
      f ∙ ap (λ (vs : List Bool). listed m.states (round (prefers_mark p) mix_marks m (told vs false))) e
      ∙ listed_same m.states (round (prefers_mark p) mix_marks m (told (list_after k) false)) (marks_after p m marks (suc k)) false
      (round_same (prefers_mark p) mix_marks (marks_lawful p) m l (told (list_after k) false) (marks_after p m marks k) (told_listed m.states (marks_after p m marks k) false))

  -- lists that are the same tell the same marks
  pub same_settled : (k : ℕ) → list_after (suc k) ≡ list_after k → Settled m (marks_after p m marks) k
  same_settled k e s h =
      sym (told_listed m.states (marks_after p m marks (suc k)) false s h) ∙ ap (λ (vs : List Bool). told vs false s) e ∙ told_listed m.states (marks_after p m marks k) false s h

  -- and the other way round
  pub settled_same : (k : ℕ) → Settled m (marks_after p m marks) k → list_after (suc k) ≡ list_after k
  settled_same k e = listed_same m.states (marks_after p m marks (suc k)) (marks_after p m marks k) false e

  -- marks that a round does not change are not changed by d more
  stays : (i d : ℕ) → Settled m (marks_after p m marks) i → (s : ℕ) → s < m.states → marks_after p m marks (d + i) s ≡ marks_after p m marks i s
  stays i zero e s h = rw (zero-add i)
  stays i (suc d) e s h = rw (suc-add d i) (settled_later (prefers_mark p) (marks_lawful p) m l (told marks false) i d e s h ∙ stays i d e s h)

  -- so they are those after any later round
  pub for_good : (i : ℕ) → Settled m (marks_after p m marks) i → (k : ℕ) → i ≤ k → (s : ℕ) → s < m.states → marks_after p m marks k s ≡ marks_after p m marks i s
  for_good i e k h s q = rw (sub-add_cancel h) at (stays i (k - i) e s q)

  -- the list after i rounds is then that after as many rounds as there are states
  pub list_for_good : (i : ℕ) → Settled m (marks_after p m marks) i → i ≤ m.states → list_after i ≡ list_after m.states
  list_for_good i e h = listed_same m.states (marks_after p m marks i) (marks_after p m marks m.states) false (λ s q. sym (for_good i e m.states h s q))

module _ (m : Mdp) (l : Lawful m) (marks : List Bool) where
  -- where the first round takes no mark away, none does
  takes_none : (p : Preference) → TakesNone p m marks → (k s : ℕ) → s < m.states → marks_after p m marks k s ≡ true → marks_after p m marks (suc k) s ≡ true
  takes_none Greater h k s q = yes_first_yes _ _ (rising yes_first mix_marks marks_greater m l (told marks false) (λ t r. from_yes_first _ _ (h t r)) k s q)
  takes_none Lesser h k s q = no_first_grows _ _ (falling no_first mix_marks marks_lesser m l (told marks false) (λ t r. from_no_first _ _ (h t r)) k s q)

  -- where the first round adds no mark, none does
  adds_none : (p : Preference) → AddsNone p m marks → (k s : ℕ) → s < m.states → marks_after p m marks (suc k) s ≡ true → marks_after p m marks k s ≡ true
  adds_none Greater h k s q = yes_first_yes _ _ (falling yes_first mix_marks marks_greater m l (told marks false) (λ t r. from_yes_first _ _ (h t r)) k s q)
  adds_none Lesser h k s q = no_first_grows _ _ (rising no_first mix_marks marks_lesser m l (told marks false) (λ t r. from_no_first _ _ (h t r)) k s q)

  -- in the first case a round that changes no mark comes within_states
  pub taken_settles : (p : Preference) → TakesNone p m marks → (i : ℕ) × (i ≤ m.states) × Settled m (marks_after p m marks) i
  taken_settles p h = settle m (marks_after p m marks) (takes_none p h)

  -- in the second too
  pub added_settles : (p : Preference) → AddsNone p m marks → (i : ℕ) × (i ≤ m.states) × Settled m (marks_after p m marks) i
  added_settles p h =
      let r = settle m (λ k s. not (marks_after p m marks k s)) (λ k s q. not_grows (marks_after p m marks k s) (marks_after p m marks (suc k) s) (adds_none p h k s q)) in
      (r.0, r.1, λ s q. not_apart _ _ (r.2 s q))

module _ (p : Preference) (m : Mdp) (l : Lawful m) (marks spare marks' spare' : List Bool) (asked : lengths_fault m.states (length marks) (length spare) ≡ None) (k : ℕ)
    (earlier : (j : ℕ) → j < k → ¬ (Settled m (marks_after p m marks) j)) where
  -- the round after k rounds changes no mark, and none before it did so
  pub settled_here : k ≤ m.states → marks' ≡ list_after p m l marks (suc k) → spare' ≡ list_after p m l marks k → marks' ≡ spare' → SettledAt p m marks spare marks' spare' (k + 1)
  settled_here few first second same =
      let settled = same_settled p m l marks k (sym first ∙ same ∙ second) in
      record {
        asked = asked;
        before = k;
        reached = add-one k;
        first_unchanged = record { unchanged = settled; earlier = earlier; within_states = few; for_good = for_good p m l marks k settled };
        first = same ∙ second ∙ list_for_good p m l marks k settled few;
        second = sym same;
      }

  -- one round more than there are states has been made, and each changed a mark
  pub unsettled_here : k ≡ suc m.states → marks' ≡ list_after p m l marks k → spare' ≡ list_after p m l marks m.states → Unsettled p m marks spare marks' spare'
  unsettled_here all first second =
      let never : (i : ℕ) → i ≤ m.states → ¬ (Settled m (marks_after p m marks) i) = λ i h. earlier i (omega arith) in
      record {
        asked = asked;
        changing = never;
        some_taken = λ h. let r = taken_settles m l marks p h in never r.0 r.1 r.2;
        some_added = λ h. let r = added_settles m l marks p h in never r.0 r.1 r.2;
        first = first ∙ ap (list_after p m l marks) all;
        second = second;
      }
