-- Untils without steps: where every adversary is sure.
use Rattle.std.proofs.Common.{◌≡◌, ℕ, zero, suc, ◌+◌, ◌-◌, ◌*◌, ◌^◌, ◌<◌, ◌≤◌, Bool, true, false, cond, not, ◌↔◌, List, [], ◌∷◌, length, sym, refl, ap, ◌∙◌, inl, inr, suc-le-suc, zero-le, le_trans, add-zero, mul-le-mul_right, suc-mul, add_comm, suc-add, mul-le-mul_left, zero-add, zero-mul, le-mul_of_pos_right, arith}
use Rattle.std.proofs.lemmas.Bool.{cases_Bool, both_ways, or_parts}
use mathlib.Core.Path.{fun_ext}
use mathlib.Core.Bool.{or-false, and-false}
use native.Mathlib.Nat.{pow-succ', pow-zero, one-le-pow}
use Rattle.model.specs.Mdp.{Mdp, Row, Lawful, total, row}
use Rattle.theory.specs.Adversaries.{Adversary, Allowed, chosen}
use Rattle.theory.specs.Tallies.{Run, runs, meets, weigh, tally_after, tally, Sure}
use Rattle.theory.specs.Rules.{valued}
use Rattle.theory.specs.Rounds.{mixed}
use Rattle.theory.specs.Mixes.{mix_marks, no_first, yes_first}
use Rattle.theory.specs.Ends.{held, stops}
use Rattle.theory.specs.WithoutSteps.{Certain, all_marks, some_marks, unmarked, Settled}
use Rattle.theory.proofs.Rounds.{Within, row_lawful, row_within, round_best, choose, optimal, optimal_allowed, optimal_row}
use Rattle.theory.proofs.RuleLaws.{marks_greater, marks_lesser}
use Rattle.theory.proofs.Tallies.{spread, spread_mul, weigh_suc, runs_of, weigh_all, weigh_none}
use Rattle.theory.proofs.Holding.{unheld_allowed, unheld_row, rounds_stay, reached, lost, under_way, kind}
use Rattle.theory.proofs.WithoutSteps.{spread_some, spread_where, positive_after, closed, unmarked_none, held_lawful}
use Rattle.theory.proofs.Powers.{pow_times, enough}

-- yes preferred: what is marked stays marked
pub yes_first_yes : (x y : Bool) → yes_first x y ≡ true → y ≡ true → x ≡ true
yes_first_yes true y e f = refl
yes_first_yes false true e f = e
yes_first_yes false false e f = f

-- the runs with a property and those without it weigh what all do
pub weigh_split : (p : List ℕ → Bool) (rs : List Run) → weigh p rs + weigh (λ ss. not (p ss)) rs ≡ weigh (λ ss. true) rs
weigh_split p [] = refl
weigh_split p (r ∷ rs) = let i = weigh_split p rs in elim (cases_Bool (p r.states)) [ inl e ↦ rw e (omega arith) | inr e ↦ rw e (omega arith) ]

-- one more and one less
suc_one : (b : ℕ) → suc b - 1 ≡ b
suc_one b = omega arith

-- a part that stays missing contradicts being sure
too_many : (c x t u : ℕ) → 1 ≤ x → t + u ≡ x → x ≤ u * c → (suc c - 1) * x ≤ suc c * t → ⊥
too_many c x t u h e f g =
    let w : c * (t + u) ≤ suc c * t = rw (suc_one c, ← e) at g in
    let z : u ≡ 0 = omega arith in
    let y : x ≤ 0 * c = rw z at f in
    omega arith

-- the weight of the paths that do not meet it
pub miss : (ℕ → Bool) → (ℕ → Bool) → ℕ → Mdp → Adversary → List ℕ → ℕ → ℕ
miss left right k m σ h s = weigh (λ ss. not (meets left right ss)) (runs k m σ h s)

module _ (left right : ℕ → Bool) (m : Mdp) (l : Lawful m) (σ : Adversary) (a : Allowed m σ) where
  -- tally and miss are all of D ^ k
  pub miss_rest : (k : ℕ) (h : List ℕ) (s : ℕ) → s < m.states → tally_after left right k m σ h s + miss left right k m σ h s ≡ m.denominator ^ k
  unfolding miss
  miss_rest k h s p = weigh_split (meets left right) (runs k m σ h s) ∙ weigh_all m l σ a k h s p

  -- in right nothing misses
  pub miss_right : (k : ℕ) (h : List ℕ) (s : ℕ) → right s ≡ true → miss left right k m σ h s ≡ 0
  unfolding miss
  miss_right k h s r = runs_of (λ ss. not (meets left right ss)) false k m σ h s (λ ss. rw r) ∙ weigh_none (runs k m σ h s)

  -- elsewhere, without a step, the one run misses
  pub miss_none : (h : List ℕ) (s : ℕ) → right s ≡ false → miss left right 0 m σ h s ≡ 1
  unfolding miss
  miss_none h s r = rw (r, and-false (left s))

  -- in left only: the sum over the row taken
  pub miss_on : (k : ℕ) (h : List ℕ) (s : ℕ) → right s ≡ false → left s ≡ true →
      miss left right (suc k) m σ h s ≡ spread (miss left right k m σ (s ∷ h)) (chosen m σ h s)
  unfolding miss
  miss_on k h s r f = weigh_suc (λ ss. not (meets left right ss)) k m σ h s
      ∙ ap (λ q. spread (λ t. weigh q (runs k m σ (s ∷ h) t)) (chosen m σ h s)) (fun_ext (λ ss. rw (r, f)))

module _ (left right : ℕ → Bool) (m : Mdp) (l : Lawful m) (k : ℕ) (settled : Settled m (all_marks left right m right) k) where
  -- a row all of whose targets are unmarked has one
  all_some : (n d : ℕ) (f v : ℕ → Bool) (r : Row) → 1 ≤ total r → Within n r → mix_marks d (valued f r) ≡ false →
      ((t : ℕ) → t < n → f t ≡ false → v t ≡ true) → mix_marks d (valued v r) ≡ true
  all_some n d f v [] h w e g = absurd (omega arith)
  all_some n d f v (b ∷ bs) h w e g = rw (g b.target w.0 (or_parts (f b.target) (mix_marks d (valued f bs)) e).0)

  -- what is bad stays marked
  pub unmarked_stays : (i s : ℕ) → s < m.states → all_marks left right m right k s ≡ false → some_marks left right m (unmarked left right m k) i s ≡ true
  unmarked_stays zero s p e = rw e
  unmarked_stays (suc i) s p e =
      let c = choose no_first mix_marks marks_lesser (held left right m) (all_marks left right m right k) s in
      let q = c.1 ((held_lawful left right m l).some_choice s p) in
      let r = row_lawful (held left right m) (held_lawful left right m l) s c.0 q.0 in
      let un = l.some_unit in
      let su = r.sums in
      yes_first_yes _ _ (round_best yes_first mix_marks marks_greater (held left right m) (some_marks left right m (unmarked left right m k) i) s c.0 q.0)
      (all_some m.states m.denominator (all_marks left right m right k) (some_marks left right m (unmarked left right m k) i) (row (held left right m) s c.0) (omega arith)
      (row_within (held left right m) (held_lawful left right m l) s c.0 q.0) (q.1 ∙ settled s p ∙ e) (λ t x y. unmarked_stays i t x y))

  module _ (j : ℕ) (settled2 : Settled m (some_marks left right m (unmarked left right m k)) j) where
    -- from where nothing bad can be reached
    safe_marked : (s : ℕ) → s < m.states → some_marks left right m (unmarked left right m k) j s ≡ false → all_marks left right m right k s ≡ true
    safe_marked s p e = elim (cases_Bool (all_marks left right m right k s)) [ inl f ↦ f | inr f ↦ absurd (both_ways (some_marks left right m (unmarked left right m k) j s) e (unmarked_stays j s p f)) ]

    module _ (σ : Adversary) (a : Allowed m σ) where
      safe_on : {P : Type 0} (s : ℕ) → s < m.states → some_marks left right m (unmarked left right m k) j s ≡ false → (right s ≡ true → P) → (right s ≡ false → left s ≡ true → P) → P
      safe_on s p e f g = elim (kind left right s) [
        | reached r ↦ f r
        | lost r x ↦ absurd (both_ways (right s) r (sym (rounds_stay no_first mix_marks (stops left right) m or-false right k s p (rw (r, x))) ∙ safe_marked s p e))
        | under_way r x ↦ g r x
      ]

      miss_more : (c n : ℕ) → ((h : List ℕ) (s : ℕ) → s < m.states → some_marks left right m (unmarked left right m k) j s ≡ false → miss left right n m σ h s ≤ c) →
          (i : ℕ) (h : List ℕ) (s : ℕ) → s < m.states → some_marks left right m (unmarked left right m k) j s ≡ false → miss left right (i + n) m σ h s ≤ miss left right i m σ h s * c
      miss_more c n b zero h s p e = safe_on s p e
          (λ r. rw (miss_right left right m l σ a (0 + n) h s r) (omega arith))
          (λ r f. rw (zero-add n, miss_none left right m l σ a h s r) (omega (arith, b h s p e)))
      miss_more c n b (suc i) h s p e = safe_on s p e
          (λ r. rw (miss_right left right m l σ a (suc i + n) h s r) (omega arith))
          (λ r f. rw (
            suc-add i n,
            miss_on left right m l σ a (i + n) h s r f,
            miss_on left right m l σ a i h s r f,
            spread_mul c (miss left right i m σ (s ∷ h)) (chosen m σ h s),
          )
          (spread_where m.states m.denominator (some_marks left right m (unmarked left right m k) j) (miss left right (i + n) m σ (s ∷ h)) (λ t. miss left right i m σ (s ∷ h) t * c)
          (chosen m σ h s) (row_within m l s (σ (s ∷ h)) (a h s p)) (closed left right m l (unmarked left right m k) j settled2 σ a h s p (rw (r, f)) e)
          (λ t q x. miss_more c n b i (s ∷ h) t q x)))

      -- after k steps at most all but one path miss, and so again and again
      miss_power : (n : ℕ) (h : List ℕ) (s : ℕ) → s < m.states → some_marks left right m (unmarked left right m k) j s ≡ false →
          miss left right (n * k) m σ h s ≤ (m.denominator ^ k - 1) ^ n
      miss_power zero h s p e = rw (zero-mul k, pow-zero (m.denominator ^ k - 1))
          (omega (arith, miss_rest left right m l σ a 0 h s p, pow-zero m.denominator))
      miss_power (suc n) h s p e =
          let x = miss_more ((m.denominator ^ k - 1) ^ n) (n * k) (λ h s p e. miss_power n h s p e) k h s p e in
          let y = miss_rest left right m l σ a k h s p in
          let z = positive_after left right m l k σ a h s p (safe_marked s p e) in
          let w : miss left right k m σ h s ≤ m.denominator ^ k - 1 = omega arith in
          rw (suc-mul n k, add_comm (n * k) k, pow-succ' (m.denominator ^ k - 1) n) (le_trans x (mul-le-mul_right ((m.denominator ^ k - 1) ^ n) w))

      pub sure : (s : ℕ) → s < m.states → some_marks left right m (unmarked left right m k) j s ≡ false → Sure left right m σ s
      sure s p e zero h = absurd (omega arith)
      sure s p e (suc b) h =
          let d = m.denominator in
          let c = d ^ k - 1 in
          let n = enough c (suc b) in
          let x = miss_rest left right m l σ a (n.0 * k) [] s p in
          let y = mul-le-mul_left (suc b) (miss_power n.0 [] s p e) in
          let g : c + 1 ≡ d ^ k = omega (arith, one-le-pow k d l.some_unit) in
          let z : suc b * c ^ n.0 ≤ d ^ (n.0 * k) = rw (g, pow_times d k n.0) at n.1 in
          (n.0 * k, rw (← x, suc_one b) (omega arith))

    -- the adversary that makes for what is unmarked, and stays there
    pub avoider : Adversary
    avoider [] = 0
    avoider (s ∷ h) = cond (all_marks left right m right k s)
        (optimal yes_first mix_marks marks_greater j (held left right m) (unmarked left right m k) (s ∷ h))
        (choose no_first mix_marks marks_lesser (held left right m) (all_marks left right m right k) s).0

    -- it is allowed in the held model
    avoider_allowed : Allowed (held left right m) avoider
    unfolding avoider
    avoider_allowed h s p = elim (cases_Bool (all_marks left right m right k s)) [
      | inl e ↦ rw e (optimal_allowed yes_first mix_marks marks_greater j (held left right m) (held_lawful left right m l) (unmarked left right m k) h s p)
      | inr e ↦ rw e ((choose no_first mix_marks marks_lesser (held left right m) (all_marks left right m right k) s).1 ((held_lawful left right m l).some_choice s p)).0
    ]

    -- among the unmarked it stays
    avoider_lingers : (h : List ℕ) (s : ℕ) → s < m.states → all_marks left right m right k s ≡ false →
        mixed mix_marks (held left right m) (all_marks left right m right k) (chosen (held left right m) avoider h s) ≡ false
    unfolding avoider
    avoider_lingers h s p e = rw e (((choose no_first mix_marks marks_lesser (held left right m) (all_marks left right m right k) s).1 ((held_lawful left right m l).some_choice s p)).1 ∙ settled s p ∙ e)

    -- elsewhere it makes for them
    avoider_makes : (i : ℕ) (h : List ℕ) (s : ℕ) → suc i + length h ≡ j → s < m.states → all_marks left right m right k s ≡ true →
        mixed mix_marks (held left right m) (some_marks left right m (unmarked left right m k) i) (chosen (held left right m) avoider h s)
        ≡ some_marks left right m (unmarked left right m k) (suc i) s
    unfolding avoider
    avoider_makes i h s x p e = rw e (optimal_row yes_first mix_marks marks_greater j (held left right m) (held_lawful left right m l) (unmarked left right m k) i h s x p)

    -- it is allowed in the model
    avoider_unheld : Allowed m avoider
    avoider_unheld = unheld_allowed (stops left right) m l avoider avoider_allowed

    -- from the unmarked everything misses
    unmarked_missed : (i : ℕ) (h : List ℕ) (s : ℕ) → s < m.states → all_marks left right m right k s ≡ false →
        (n : ℕ) → m.denominator ^ n ≤ miss left right n m avoider h s * m.denominator ^ i
    unmarked_missed i h s p f n =
        let z = unmarked_none left right m l k settled avoider avoider_unheld avoider_lingers n h s p f in
        let y = miss_rest left right m l avoider avoider_unheld n h s p in
        let e : miss left right n m avoider h s ≡ m.denominator ^ n = omega arith in
        rw e (le-mul_of_pos_right (m.denominator ^ n) (one-le-pow i m.denominator l.some_unit))

    -- a marked state that is held is not under way to what is unmarked
    held_still : (i s : ℕ) → s < m.states → stops left right s ≡ true → all_marks left right m right k s ≡ true → some_marks left right m (unmarked left right m k) i s ≡ false
    held_still i s p t f = rounds_stay yes_first mix_marks (stops left right) m or-false (unmarked left right m k) i s p t ∙ ap not f

    -- on the way there at least one part in D ^ i misses for ever
    avoider_misses : (i : ℕ) (h : List ℕ) (s : ℕ) → i + length h ≡ j → s < m.states → some_marks left right m (unmarked left right m k) i s ≡ true →
        (n : ℕ) → m.denominator ^ n ≤ miss left right n m avoider h s * m.denominator ^ i
    avoider_misses zero h s x p e n = elim (cases_Bool (all_marks left right m right k s)) [
      | inl f ↦ absurd (both_ways (unmarked left right m k s) (ap not f) e)
      | inr f ↦ unmarked_missed zero h s p f n
    ]
    avoider_misses (suc i) h s x p e zero = elim (cases_Bool (all_marks left right m right k s)) [
      | inl f ↦ elim (kind left right s) [
        | reached r ↦ absurd (both_ways (some_marks left right m (unmarked left right m k) (suc i) s) (held_still (suc i) s p (rw r) f) e)
        | lost r g ↦ rw (miss_none left right m l avoider avoider_unheld h s r) (omega (arith, pow-zero m.denominator, one-le-pow (suc i) m.denominator l.some_unit))
        | under_way r g ↦ rw (miss_none left right m l avoider avoider_unheld h s r) (omega (arith, pow-zero m.denominator, one-le-pow (suc i) m.denominator l.some_unit))
      ]
      | inr f ↦ unmarked_missed (suc i) h s p f zero
    ]
    avoider_misses (suc i) h s x p e (suc n) = elim (cases_Bool (all_marks left right m right k s)) [
      | inl f ↦ elim (kind left right s) [
        | reached r ↦ absurd (both_ways (some_marks left right m (unmarked left right m k) (suc i) s) (held_still (suc i) s p (rw r) f) e)
        | lost r g ↦ absurd (both_ways (some_marks left right m (unmarked left right m k) (suc i) s) (held_still (suc i) s p (rw (r, g)) f) e)
        | under_way r g ↦
            let d = m.denominator in
            let v = some_marks left right m (unmarked left right m k) i in
            let q = spread_some m.states 0 d (d ^ n) v (λ t. miss left right n m avoider (s ∷ h) t * d ^ i) (chosen m avoider h s)
            (row_lawful m l s (avoider (s ∷ h)) (avoider_unheld h s p)).ascends
            (rw (unheld_row (stops left right) m avoider h s (rw (r, g))) at (avoider_makes i h s x p f ∙ e))
            (λ t y z. avoider_misses i (s ∷ h) t (omega arith) y z n) in
            let w = mul-le-mul_left d q in
            rw (miss_on left right m l avoider avoider_unheld n h s r g, pow-succ' d n, pow-succ' d i)
            (omega (arith, ap (λ y. d * y) (spread_mul (d ^ i) (miss left right n m avoider (s ∷ h)) (chosen m avoider h s))))
      ]
      | inr f ↦ unmarked_missed (suc i) h s p f (suc n)
    ]

    -- so it is not sure
    unsure : (s : ℕ) → s < m.states → some_marks left right m (unmarked left right m k) j s ≡ true → ¬ (Sure left right m avoider s)
    unsure s p e f =
        let d = m.denominator in
        let g = f (suc (d ^ j)) (suc-le-suc zero-le) in
        too_many (d ^ j) (d ^ g.0) (tally left right g.0 m avoider s) (miss left right g.0 m avoider [] s) (one-le-pow g.0 d l.some_unit)
        (miss_rest left right m l avoider avoider_unheld g.0 [] s p) (avoider_misses j [] s (add-zero j) p e g.0) g.1

    -- where no unmarked state can be reached, and only there, every adversary is sure
    pub certain_iff : (s : ℕ) → s < m.states → (some_marks left right m (unmarked left right m k) j s ≡ false) ↔ Certain left right m s
    certain_iff s p = (λ e σ a. sure σ a s p e, back)
      where
        back : Certain left right m s → some_marks left right m (unmarked left right m k) j s ≡ false
        back f = elim (cases_Bool (some_marks left right m (unmarked left right m k) j s)) [
          | inl e ↦ absurd (unsure s p e (f avoider avoider_unheld))
          | inr e ↦ e
        ]
