-- The recursion of the tally, from the paths.
use Rattle.std.proofs.Common.{◌≡◌, ℕ, zero, suc, ◌+◌, ◌*◌, ◌^◌, ◌<◌, ◌≤◌, Bool, true, false, List, [], ◌∷◌, ◌++◌, map, sym, refl, ap, ◌∙◌, ap₂, mul-le-mul_left, mul-zero, arith, inl, inr}
use Rattle.std.proofs.lemmas.Bool.{cases_Bool}
use mathlib.Core.Path.{fun_ext}
use mathlib.Core.Bool.{and-false}
use native.Mathlib.Nat.{pow-zero, pow-succ'}
use Rattle.model.specs.Mdp.{Mdp, Row, Lawful, total}
use Rattle.theory.specs.Adversaries.{Adversary, Allowed, chosen}
use Rattle.theory.specs.Tallies.{Run, step, gather, runs, meets, weigh, tally_after}
use Rattle.theory.specs.Rules.{valued}
use Rattle.theory.specs.Mixes.{sum_of}
use Rattle.theory.proofs.Rounds.{Within, row_lawful, row_within, valued_same}

-- the sum of weight × f target over a row
abbrev pub spread : (ℕ → ℕ) → Row → ℕ
spread f r = sum_of (valued f r)

-- weights of two lists add up
pub weigh-++ : (p : List ℕ → Bool) (xs ys : List Run) → weigh p (xs ++ ys) ≡ weigh p xs + weigh p ys
weigh-++ p [] ys = omega arith
weigh-++ p (x ∷ xs) ys = rw (weigh-++ p xs ys) (omega arith)

-- a step in front multiplies
pub weigh_step : (p : List ℕ → Bool) (s w : ℕ) (rs : List Run) → weigh p (map (step s w) rs) ≡ w * weigh (λ ss. p (s ∷ ss)) rs
weigh_step p s w [] = sym (mul-zero w)
weigh_step p s w (r ∷ rs) = rw (weigh_step p s w rs) (elim (cases_Bool (p (s ∷ r.states))) [ inl e ↦ rw e (omega arith) | inr e ↦ rw e (omega arith) ])

-- the weight of the runs over a row is the sum of those one step later
pub weigh_row : (p : List ℕ → Bool) (s : ℕ) (f : ℕ → List Run) (row : Row) →
    weigh p (gather (λ b. map (step s b.weight) (f b.target)) row) ≡ spread (λ t. weigh (λ ss. p (s ∷ ss)) (f t)) row
weigh_row p s f [] = refl
weigh_row p s f (b ∷ bs) = weigh-++ p (map (step s b.weight) (f b.target)) (gather (λ b. map (step s b.weight) (f b.target)) bs)
    ∙ ap₂ ◌+◌ (weigh_step p s b.weight (f b.target)) (weigh_row p s f bs)

-- so for runs
pub weigh_suc : (p : List ℕ → Bool) (k : ℕ) (m : Mdp) (σ : Adversary) (h : List ℕ) (s : ℕ) →
    weigh p (runs (suc k) m σ h s) ≡ spread (λ t. weigh (λ ss. p (s ∷ ss)) (runs k m σ (s ∷ h) t)) (chosen m σ h s)
weigh_suc p k m σ h s = weigh_row p s (runs k m σ (s ∷ h)) (chosen m σ h s)

-- a constant over a row
pub spread_const : (c : ℕ) (r : Row) → spread (λ t. c) r ≡ total r * c
spread_const c [] = omega arith
spread_const c (b ∷ bs) = rw (spread_const c bs) (omega arith)

-- every path counted: D ^ k
pub weigh_all : (m : Mdp) → Lawful m → (σ : Adversary) → Allowed m σ → (k : ℕ) (h : List ℕ) (s : ℕ) → s < m.states →
    weigh (λ ss. true) (runs k m σ h s) ≡ m.denominator ^ k
weigh_all m l σ a zero h s p = sym (pow-zero m.denominator)
weigh_all m l σ a (suc k) h s p = weigh_suc (λ ss. true) k m σ h s
    ∙ ap sum_of (valued_same m.states _ (λ t. m.denominator ^ k) (chosen m σ h s) (row_within m l s (σ (s ∷ h)) (a h s p)) (λ t q. weigh_all m l σ a k (s ∷ h) t q))
    ∙ spread_const (m.denominator ^ k) (chosen m σ h s)
    ∙ rw ((row_lawful m l s (σ (s ∷ h)) (a h s p)).sums, pow-succ' m.denominator k)

-- nothing weighs nothing
pub weigh_none : (rs : List Run) → weigh (λ ss. false) rs ≡ 0
weigh_none [] = refl
weigh_none (r ∷ rs) = rw (weigh_none rs)

-- runs are never empty of states
pub runs_of : (p : List ℕ → Bool) (c : Bool) (k : ℕ) (m : Mdp) (σ : Adversary) (h : List ℕ) (s : ℕ) → ((ss : List ℕ) → p (s ∷ ss) ≡ c) →
    weigh p (runs k m σ h s) ≡ weigh (λ ss. c) (runs k m σ h s)
runs_of p c zero m σ h s e = rw (e [])
runs_of p c (suc k) m σ h s e = weigh_suc p k m σ h s
    ∙ ap (λ q. spread (λ t. weigh q (runs k m σ (s ∷ h) t)) (chosen m σ h s)) (fun_ext e)
    ∙ sym (weigh_suc (λ ss. c) k m σ h s)

module _ (left right : ℕ → Bool) (m : Mdp) (l : Lawful m) (σ : Adversary) (a : Allowed m σ) where
  -- in right: every path counts
  pub tally_right : (k : ℕ) (h : List ℕ) (s : ℕ) → s < m.states → right s ≡ true → tally_after left right k m σ h s ≡ m.denominator ^ k
  tally_right k h s p r = runs_of (meets left right) true k m σ h s (λ ss. rw r) ∙ weigh_all m l σ a k h s p

  -- neither in right nor in left: none counts
  pub tally_out : (k : ℕ) (h : List ℕ) (s : ℕ) → right s ≡ false → left s ≡ false → tally_after left right k m σ h s ≡ 0
  tally_out k h s r f = runs_of (meets left right) false k m σ h s (λ ss. rw (r, f)) ∙ weigh_none (runs k m σ h s)

  -- in left only, no steps: none counts
  pub tally_none : (h : List ℕ) (s : ℕ) → right s ≡ false → tally_after left right 0 m σ h s ≡ 0
  tally_none h s r = rw (r, and-false (left s))

  -- in left only: the sum over the row of weight × tally of the rest
  pub tally_on : (k : ℕ) (h : List ℕ) (s : ℕ) → right s ≡ false → left s ≡ true →
      tally_after left right (suc k) m σ h s ≡ spread (tally_after left right k m σ (s ∷ h)) (chosen m σ h s)
  tally_on k h s r f = weigh_suc (meets left right) k m σ h s
      ∙ ap (λ q. spread (λ t. weigh q (runs k m σ (s ∷ h) t)) (chosen m σ h s)) (fun_ext (λ ss. rw (r, f)))

-- a factor may be drawn out
pub spread_mul : (c : ℕ) (f : ℕ → ℕ) (r : Row) → spread f r * c ≡ spread (λ t. f t * c) r
spread_mul c f [] = omega arith
spread_mul c f (b ∷ bs) = rw (← spread_mul c f bs) (omega arith)

-- less at the targets
pub spread_le : (n : ℕ) (f g : ℕ → ℕ) (r : Row) → Within n r → ((t : ℕ) → t < n → f t ≤ g t) → spread f r ≤ spread g r
spread_le n f g [] w e = omega arith
spread_le n f g (b ∷ bs) w e = let k = mul-le-mul_left b.weight (e b.target w.0) in let i = spread_le n f g bs w.1 e in omega arith

-- a constant more at the targets
pub spread_add : (f : ℕ → ℕ) (c : ℕ) (r : Row) → spread (λ t. f t + c) r ≡ spread f r + total r * c
spread_add f c [] = omega arith
spread_add f c (b ∷ bs) = let i = spread_add f c bs in omega arith
