-- Rows of path formulas: marks at the front of a list, ends in parts, and the two ends at a state.
use Rattle.std.proofs.Common.{◌≡◌, ℕ, ◌<◌, ◌≤◌, Bool, eqb, ltb, None, Some, Option, sym, List, get_or, take, refl, ap, ◌∙◌, inl, inr, arith, get_or-take}
use Rattle.std.proofs.lemmas.Bool.{cases_Bool, cond-true, cond-false, lt-ltb, le-ltb}
use Rattle.model.specs.Mdp.{Mdp, Lawful}
use Rattle.theory.specs.Rules.{RuleLaws}
use Rattle.theory.specs.Mixes.{whole}
use Rattle.theory.specs.Rounds.{rounds}
use Rattle.theory.specs.Ends.{start}
use Rattle.theory.specs.Verdicts.{asked}
use Rattle.theory.proofs.Bridge.{rounds_same}
use Rattle.records.specs.declared.comparison.Comparison.{Comparison}
use Rattle.records.specs.declared.comparison.Comparison.TheVariants.{Below, AtMost, Above, AtLeast}
use Rattle.rules.specs.declared.part.Part.{Part}
use Rattle.rules.specs.declared.preference.Preference.{Preference}
use Rattle.rules.specs.declared.rounding.Rounding.{Rounding}
use Rattle.rules.specs.declared.parts.Parts.{Parts}
use Rattle.rules.specs.Parts.{part_of, units_of, prefers_number, prefers_part, mix_rounded, in_parts}
use Rattle.rules.specs.Values.{told}
use Rattle.rules.specs.PartsLemmas.{part_same, numbers_lawful, parts_lawful, parts_rounds}
use Rattle.formula.specs.Tokens.{meant}
use Rattle.trial.specs.Aims.{preference_of, aim_for}
use Rattle.trial.specs.Queries.{marked}
use Rattle.trial.specs.Rows.{start_part}
use Rattle.trial.specs.declared.two_ends.Ends.{Ends}
use Rattle.trial.specs.PathEnds.{EndsAre, ends_at}

-- the marks of the states are those at the front of a longer list
pub marked_front : (n : ℕ) (marks : List ℕ) (set : ℕ → Bool) → ((s : ℕ) → s < n → marked marks s ≡ set s) → (s : ℕ) → s < n → marked (take n marks) s ≡ set s
marked_front n marks set e s h = ap (λ (b : ℕ). eqb b 1) (get_or-take n marks s 0 h) ∙ e s h

-- the start in parts has the units of the start
pub start_units : (set : ℕ → Bool) (s : ℕ) → units_of (start_part set s) ≡ start set s
start_units set s = elim (cases_Bool (set s)) [ inl e ↦ rw e | inr e ↦ rw e ]

-- what rounds make of a list that tells the start they make of the start
pub started_rounds : (preferred : Part → Part → Bool) (mix : ℕ → List (ℕ × Part) → Part) → RuleLaws preferred mix → (m : Mdp) → Lawful m → (set : ℕ → Bool) (ends : List Part) (d : Part) →
    ((s : ℕ) → s < m.states → get_or ends s d ≡ start_part set s) → (k s : ℕ) → s < m.states → (x : Part) → x ≡ rounds preferred mix k m (told ends d) s → x ≡ rounds preferred mix k m (start_part set) s
started_rounds preferred mix laws m l set ends d e k s h x f = f ∙ rounds_same preferred mix laws m l (told ends d) (start_part set) e k s h

-- ends in parts have the units of ends in numbers, under a rule with this rounding and preference
pub ends_units : (x : Parts) (r : Rounding) (p : Preference) → x.rounding ≡ r → x.preference ≡ p → (m : Mdp) → Lawful m → (set : ℕ → Bool) (k s : ℕ) → s < m.states →
    (z : Part) → z ≡ rounds (prefers_part x.preference) (in_parts (mix_rounded x.rounding)) k m (start_part set) s → units_of z ≡ rounds (prefers_number p) (mix_rounded r) k m (start set) s
ends_units x r p e f m l set k s h z found =
    ap units_of found
    ∙ ap (λ (y : Rounding). units_of (rounds (prefers_part x.preference) (in_parts (mix_rounded y)) k m (start_part set) s)) e
    ∙ ap (λ (q : Preference). units_of (rounds (prefers_part q) (in_parts (mix_rounded r)) k m (start_part set) s)) f
    ∙ parts_rounds r p m l (start_part set) k s h
    ∙ rounds_same (prefers_number p) (mix_rounded r) (numbers_lawful r p) m l (λ t. units_of (start_part set t)) (start set) (λ t q. start_units set t) k s h

-- so an end in numbers is at most the whole
pub end_within : (r : Rounding) (p : Preference) (m : Mdp) → Lawful m → (set : ℕ → Bool) (k s : ℕ) → s < m.states → rounds (prefers_number p) (mix_rounded r) k m (start set) s ≤ whole
end_within r p m l set k s h =
    let z : Part = rounds (prefers_part p) (in_parts (mix_rounded r)) k m (start_part set) s in
    let e = ends_units (record { rounding = r; preference = p }) r p refl refl m l set k s h z refl in
    omega (arith, z.within)

-- so have ends that rounds make of a list that tells the start
pub started_units : (r : Rounding) (p : Preference) (m : Mdp) → Lawful m → (set : ℕ → Bool) (ends : List Part) (d : Part) → ((s : ℕ) → s < m.states → get_or ends s d ≡ start_part set s) → (k s : ℕ) → s < m.states →
    (z : Part) → z ≡ rounds (prefers_part p) (in_parts (mix_rounded r)) k m (told ends d) s → units_of z ≡ rounds (prefers_number p) (mix_rounded r) k m (start set) s
started_units r p m l set ends d e k s h z found =
    let rule : Parts = record { rounding = r; preference = p } in
    ends_units rule r p refl refl m l set k s h z (started_rounds (prefers_part p) (in_parts (mix_rounded r)) (parts_lawful r p) m l set ends d e k s h z found)

-- the aim that a comparison is decided by prefers as the comparison asks
pub asked_for : (c : Comparison) → prefers_number (preference_of (aim_for c)) ≡ asked (meant c)
asked_for Below = refl
asked_for AtMost = refl
asked_for Above = refl
asked_for AtLeast = refl

-- the ends at a state that there is
pub ends_there : (n : ℕ) (lo hi : ℕ → ℕ) (e : Ends) → EndsAre n lo hi e → (s : ℕ) → s < n → (low high : Part) → ((d : Part) → low ≡ get_or e.lower.values s d) → ((d : Part) → high ≡ get_or e.upper.values s d) →
    Some (low, high) ≡ ends_at n lo hi s
ends_there n lo hi e x s h low high f g =
    let d = part_of 0 in
    let a : units_of low ≡ lo s = ap units_of (f d) ∙ x.lower d s h in
    let b : units_of high ≡ hi s = ap units_of (g d) ∙ x.upper d s h in
    let first : low ≡ part_of (lo s) = part_same low (part_of (lo s)) (omega (arith, a, low.within)) in
    let second : high ≡ part_of (hi s) = part_same high (part_of (hi s)) (omega (arith, b, high.within)) in
    let made : Part → Part → Option (Part × Part) = λ p q. Some (p, q) in
    ap (λ p. made p high) first ∙ ap (made (part_of (lo s))) second ∙ sym (cond-true (ltb s n) (made (part_of (lo s)) (part_of (hi s))) None (lt-ltb s n h))

-- there are none at any other
pub ends_past : (n : ℕ) (lo hi : ℕ → ℕ) (s : ℕ) → n ≤ s → None ≡ ends_at n lo hi s
ends_past n lo hi s h = sym (cond-false (ltb s n) (Some (part_of (lo s), part_of (hi s))) None (le-ltb s n h))
