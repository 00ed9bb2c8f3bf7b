-- Untils without steps: what the settled marks say of the tallies.
use Rattle.std.proofs.Common.{◌≡◌, ℕ, zero, suc, ◌+◌, ◌<◌, ◌≤◌, Bool, true, false, ◌↔◌, List, [], ◌∷◌, sym, refl, ◌∙◌, inl, inr, le_of_eq, le_refl, not-suc-le-zero, mul-le-mul_right, mul-le-mul_left, arith}
use Rattle.std.proofs.lemmas.Bool.{cases_Bool, both_ways, or_parts, false_from_ne_true}
use mathlib.Core.Bool.{or-false}
use native.Mathlib.Nat.{one-le-pow}
use Rattle.model.specs.Mdp.{Mdp, Row, Lawful, Ascends}
use Rattle.theory.specs.Adversaries.{Adversary, Allowed, chosen}
use Rattle.theory.specs.Tallies.{tally_after}
use Rattle.theory.specs.Rules.{valued}
use Rattle.theory.specs.Rounds.{mixed, value, rounds}
use Rattle.theory.specs.Mixes.{mix_marks, no_first, yes_first}
use Rattle.theory.specs.Ends.{held, stops}
use Rattle.theory.specs.WithoutSteps.{Positive, Never, all_marks, some_marks, Settled}
use Rattle.theory.proofs.Rounds.{Within, row_lawful, row_within, none_better, some_adversary, round_best, choose}
use Rattle.theory.proofs.RuleLaws.{marks_greater, marks_lesser}
use Rattle.theory.proofs.Tallies.{spread, spread_const, tally_right, tally_out, tally_none, tally_on}
use Rattle.model.specs.HoldLaws.{hold_lawful}
use Rattle.theory.proofs.Holding.{unheld_allowed, lifted, lifted_allowed, lifted_row, unheld_row, stay, rounds_stay, reached, lost, under_way, kind}

-- some branch goes where v is yes
pub spread_some : (n low d c : ℕ) (v : ℕ → Bool) (f : ℕ → ℕ) (r : Row) → Ascends n low r → mix_marks d (valued v r) ≡ true →
    ((t : ℕ) → t < n → v t ≡ true → c ≤ f t) → c ≤ spread f r
spread_some n low d c v f [] a e h = absurd (both_ways false refl e)
spread_some n low d c v f (b ∷ bs) a e h = elim (cases_Bool (v b.target)) [
  | inl p ↦ let q = h b.target a.1 p in let w = mul-le-mul_right (f b.target) a.2 in omega arith
  | inr p ↦ let i = spread_some n (b.target + 1) d c v f bs a.3 (rw p at e) h in omega arith
]

-- every branch goes where v is no
pub spread_where : (n d : ℕ) (v : ℕ → Bool) (f g : ℕ → ℕ) (r : Row) → Within n r → mix_marks d (valued v r) ≡ false →
    ((t : ℕ) → t < n → v t ≡ false → f t ≤ g t) → spread f r ≤ spread g r
spread_where n d v f g [] w e h = le_refl 0
spread_where n d v f g (b ∷ bs) w e h =
    let o = or_parts (v b.target) (mix_marks d (valued v bs)) e in
    let q = mul-le-mul_left b.weight (h b.target w.0 o.0) in
    let i = spread_where n d v f g bs w.1 o.1 h in
    omega arith

-- so the sum is 0
pub spread_zero : (n d : ℕ) (v : ℕ → Bool) (f : ℕ → ℕ) (r : Row) → Within n r → mix_marks d (valued v r) ≡ false →
    ((t : ℕ) → t < n → v t ≡ false → f t ≡ 0) → spread f r ≡ 0
spread_zero n d v f r w e h =
    let i = spread_where n d v f (λ t. 0) r w e (λ t q p. le_of_eq (h t q p)) in
    let z = spread_const 0 r in
    omega arith

module _ (left right : ℕ → Bool) (m : Mdp) (l : Lawful m) (σ τ : Adversary) (a : Allowed m σ) (b : Allowed (held left right m) τ)
    (agree : (h : List ℕ) (s : ℕ) → stops left right s ≡ false → chosen (held left right m) τ h s ≡ chosen m σ h s) where
  -- a held state keeps its mark
  keep : (k : ℕ) (h : List ℕ) (s : ℕ) → s < m.states → stops left right s ≡ true → value mix_marks k (held left right m) right τ h s ≡ right s
  keep = stay (stops left right) m mix_marks or-false right τ b

  -- an adversary whose mark is yes has a tally above 0
  pub value_yes : (k : ℕ) (h : List ℕ) (s : ℕ) → s < m.states → value mix_marks k (held left right m) right τ h s ≡ true → 0 < tally_after left right k m σ h s
  value_yes zero h s p e = rw (tally_right left right m l σ a 0 h s p e) (one-le-pow 0 m.denominator l.some_unit)
  value_yes (suc k) h s p e = elim (kind left right s) [
    | reached r ↦ rw (tally_right left right m l σ a (suc k) h s p r) (one-le-pow (suc k) m.denominator l.some_unit)
    | lost r f ↦ absurd (both_ways (right s) r (sym (keep (suc k) h s p (rw (r, f))) ∙ e))
    | under_way r f ↦ rw (tally_on left right m l σ a k h s r f)
        (spread_some m.states 0 m.denominator 1 (value mix_marks k (held left right m) right τ (s ∷ h)) (tally_after left right k m σ (s ∷ h)) (chosen m σ h s)
        (row_lawful m l s (σ (s ∷ h)) (a h s p)).ascends (rw (agree h s (rw (r, f))) at e) (λ t q v. value_yes k (s ∷ h) t q v))
  ]

-- with the lesser preferred, what is marked has a tally above 0, whatever came before
module _ (left right : ℕ → Bool) (m : Mdp) (l : Lawful m) where
  -- the held model is lawful
  pub held_lawful : Lawful (held left right m)
  held_lawful = hold_lawful (stops left right) m l

  -- so every adversary has
  pub positive_after : (k : ℕ) (σ : Adversary) → Allowed m σ → (h : List ℕ) (s : ℕ) → s < m.states → all_marks left right m right k s ≡ true → 0 < tally_after left right k m σ h s
  positive_after k σ a h s p e =
      let τ = lifted (stops left right) m σ in
      let b = lifted_allowed (stops left right) m σ a in
      value_yes left right m l σ τ a b (lifted_row (stops left right) m σ) k h s p
      (rw e at (none_better no_first mix_marks marks_lesser (held left right m) held_lawful right τ b k h s p))

  -- what rounds of marks from right leave unmarked is not in right
  unmarked_not_right : (prefer : Bool → Bool → Bool) (k s : ℕ) → s < m.states → rounds prefer mix_marks k (held left right m) right s ≡ false → right s ≡ false
  unmarked_not_right prefer k s p e =
      false_from_ne_true (right s) (λ r. both_ways (right s) (sym (rounds_stay prefer mix_marks (stops left right) m or-false right k s p (rw r)) ∙ e) r)

  -- yes preferred: where the best is no, all are
  pub yes_first_no : (x y : Bool) → yes_first x y ≡ true → x ≡ false → y ≡ false
  yes_first_no true y e f = absurd (both_ways true f refl)
  yes_first_no false true e f = absurd (both_ways false refl e)
  yes_first_no false false e f = refl

  -- from a settled state that is not marked no choice leads to one that is
  pub closed : (from : ℕ → Bool) (k : ℕ) → Settled m (some_marks left right m from) k → (σ : Adversary) → Allowed m σ → (h : List ℕ) (s : ℕ) → s < m.states →
      stops left right s ≡ false → some_marks left right m from k s ≡ false → mix_marks m.denominator (valued (some_marks left right m from k) (chosen m σ h s)) ≡ false
  closed from k settled σ a h s p t e =
      rw (lifted_row (stops left right) m σ h s t) at
      (yes_first_no _ (mixed mix_marks (held left right m) (some_marks left right m from k) (chosen (held left right m) (lifted (stops left right) m σ) h s))
      (round_best yes_first mix_marks marks_greater (held left right m) (some_marks left right m from k) s (lifted (stops left right) m σ (s ∷ h))
      (lifted_allowed (stops left right) m σ a h s p)) (settled s p ∙ e))

  -- so its tally is 0 for every number of steps
  pub never_after : (k : ℕ) → Settled m (some_marks left right m right) k → (σ : Adversary) → Allowed m σ →
      (j : ℕ) (h : List ℕ) (s : ℕ) → s < m.states → some_marks left right m right k s ≡ false → tally_after left right j m σ h s ≡ 0
  never_after k settled σ a zero h s p e = tally_none left right m l σ a h s (unmarked_not_right yes_first k s p e)
  never_after k settled σ a (suc j) h s p e = elim (kind left right s) [
    | reached r ↦ absurd (both_ways (right s) (unmarked_not_right yes_first k s p e) r)
    | lost r f ↦ tally_out left right m l σ a (suc j) h s r f
    | under_way r f ↦ tally_on left right m l σ a j h s r f
        ∙ spread_zero m.states m.denominator (some_marks left right m right k) (tally_after left right j m σ (s ∷ h)) (chosen m σ h s)
        (row_within m l s (σ (s ∷ h)) (a h s p)) (closed right k settled σ a h s p (rw (r, f)) e) (λ t q x. never_after k settled σ a j (s ∷ h) t q x)
  ]

  -- never, exactly where the settled marks are no
  pub never_iff : (k : ℕ) → Settled m (some_marks left right m right) k → (s : ℕ) → s < m.states →
      (some_marks left right m right k s ≡ false) ↔ Never left right m s
  never_iff k settled s p = (λ e σ a j. never_after k settled σ a j [] s p e, back)
    where
      back : Never left right m s → some_marks left right m right k s ≡ false
      back f = elim (cases_Bool (some_marks left right m right k s)) [
        | inl e ↦
            let c = some_adversary yes_first mix_marks marks_greater (held left right m) held_lawful right k s p in
            let a = unheld_allowed (stops left right) m l c.0 c.1 in
            let y = value_yes left right m l c.0 c.0 a c.1 (unheld_row (stops left right) m c.0) k [] s p (c.2 ∙ e) in
            absurd (not-suc-le-zero (rw (f c.0 a k) at y))
        | inr e ↦ e
      ]

  module _ (k : ℕ) (settled : Settled m (all_marks left right m right) k) where
    -- an adversary that goes on among the states that are not marked
    pub unmarked_none : (σ : Adversary) → Allowed m σ →
        ((h : List ℕ) (s : ℕ) → s < m.states → all_marks left right m right k s ≡ false →
        mixed mix_marks (held left right m) (all_marks left right m right k) (chosen (held left right m) σ h s) ≡ false) →
        (j : ℕ) (h : List ℕ) (s : ℕ) → s < m.states → all_marks left right m right k s ≡ false → tally_after left right j m σ h s ≡ 0
    unmarked_none σ a go zero h s p e = tally_none left right m l σ a h s (unmarked_not_right no_first k s p e)
    unmarked_none σ a go (suc j) h s p e = elim (kind left right s) [
      | reached r ↦ absurd (both_ways (right s) (unmarked_not_right no_first k s p e) r)
      | lost r f ↦ tally_out left right m l σ a (suc j) h s r f
      | under_way r f ↦ tally_on left right m l σ a j h s r f
          ∙ spread_zero m.states m.denominator (all_marks left right m right k) (tally_after left right j m σ (s ∷ h)) (chosen m σ h s)
          (row_within m l s (σ (s ∷ h)) (a h s p)) (rw (unheld_row (stops left right) m σ h s (rw (r, f))) at (go h s p e)) (λ t q x. unmarked_none σ a go j (s ∷ h) t q x)
    ]

    -- the adversary that goes on among the unmarked
    lingerer : Adversary
    lingerer [] = 0
    lingerer (s ∷ h) = (choose no_first mix_marks marks_lesser (held left right m) (all_marks left right m right k) s).0

    -- it is allowed
    lingerer_allowed : Allowed (held left right m) lingerer
    unfolding lingerer
    lingerer_allowed h s p = ((choose no_first mix_marks marks_lesser (held left right m) (all_marks left right m right k) s).1 (held_lawful.some_choice s p)).0

    -- and it does
    lingerer_goes : (h : List ℕ) (s : ℕ) → s < m.states → all_marks left right m right k s ≡ false →
        mixed mix_marks (held left right m) (all_marks left right m right k) (chosen (held left right m) lingerer h s) ≡ false
    unfolding lingerer
    lingerer_goes h s p e = ((choose no_first mix_marks marks_lesser (held left right m) (all_marks left right m right k) s).1 (held_lawful.some_choice s p)).1 ∙ settled s p ∙ e

    -- positive, exactly where the settled marks are yes
    pub positive_iff : (s : ℕ) → s < m.states → (all_marks left right m right k s ≡ true) ↔ Positive left right m s
    positive_iff s p = (λ e σ a. (k, positive_after k σ a [] s p e), back)
      where
        back : Positive left right m s → all_marks left right m right k s ≡ true
        back f = elim (cases_Bool (all_marks left right m right k s)) [
          | inl e ↦ e
          | inr e ↦
              let a = unheld_allowed (stops left right) m l lingerer lingerer_allowed in
              let q = f lingerer a in
              let z = unmarked_none lingerer a lingerer_goes q.0 [] s p e in
              absurd (not-suc-le-zero (rw z at q.1))
        ]
