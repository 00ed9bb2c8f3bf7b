-- Runs are the paths that follow the adversary, each exactly once.
use Rattle.std.proofs.Common.{◌≡◌, ℕ, zero, suc, ◌+◌, ◌*◌, ◌<◌, ◌≤◌, Bool, false, eqb, List, [], ◌∷◌, ◌++◌, map, length, sym, refl, ap, ◌∙◌, subst, ap₂, inl, inr, not-suc-le-zero, arith, eq-eqb, ne_eqb, eqb-true}
use Rattle.std.proofs.lemmas.Bool.{cases_Bool}
use mathlib.Core.Path.{fun_ext}
use Rattle.model.specs.Mdp.{Mdp, Row, Each, Lawful, Ascends}
use Rattle.model.specs.declared.branch.Branch.{Branch}
use Rattle.model.proofs.Lists.{each_append}
use Rattle.theory.specs.Adversaries.{Adversary, Allowed, chosen}
use Rattle.theory.specs.Tallies.{Run, step, gather, runs, weight_to, Follows, same_path, count, IsPath, RunsCorrect}
use Rattle.theory.proofs.Rounds.{Within, ascends_within, row_lawful}
use Rattle.theory.proofs.Tallies.{weigh_all}

-- the sum of f over the targets of a row
abbrev over_targets : (ℕ → ℕ) → Row → ℕ
over_targets f [] = 0
over_targets f (b ∷ bs) = f b.target + over_targets f bs

-- counts of two lists add up
count-++ : (p : List ℕ → Bool) (xs ys : List Run) → count p (xs ++ ys) ≡ count p xs + count p ys
count-++ p [] ys = omega arith
count-++ p (x ∷ xs) ys = rw (count-++ p xs ys) (omega arith)

-- a step in front changes no count
count_step : (p : List ℕ → Bool) (s w : ℕ) (rs : List Run) → count p (map (step s w) rs) ≡ count (λ ss. p (s ∷ ss)) rs
count_step p s w [] = refl
count_step p s w (r ∷ rs) = rw (count_step p s w rs)

-- the count of runs is the sum of the counts one step later
count_row : (p : List ℕ → Bool) (s : ℕ) (f : ℕ → List Run) (row : Row) →
    count p (gather (λ b. map (step s b.weight) (f b.target)) row) ≡ over_targets (λ t. count (λ ss. p (s ∷ ss)) (f t)) row
count_row p s f [] = refl
count_row p s f (b ∷ bs) = count-++ p (map (step s b.weight) (f b.target)) (gather (λ b. map (step s b.weight) (f b.target)) bs)
    ∙ ap₂ ◌+◌ (count_step p s b.weight (f b.target)) (count_row p s f bs)

-- nothing has no property
count_none : (rs : List Run) → count (λ ss. false) rs ≡ 0
count_none [] = refl
count_none (r ∷ rs) = rw (count_none rs)

-- nothing summed is nothing
over_none_targets : (r : Row) → over_targets (λ t. 0) r ≡ 0
over_none_targets [] = refl
over_none_targets (b ∷ bs) = rw (over_none_targets bs)

-- every run begins where it is said to
count_begins : (p : List ℕ → Bool) (k : ℕ) (m : Mdp) (σ : Adversary) (h : List ℕ) (s : ℕ) → ((ss : List ℕ) → p (s ∷ ss) ≡ false) → count p (runs k m σ h s) ≡ 0
count_begins p zero m σ h s e = rw (e [])
count_begins p (suc k) m σ h s e = count_row p s (runs k m σ (s ∷ h)) (chosen m σ h s)
    ∙ ap (λ q. over_targets (λ t. count q (runs k m σ (s ∷ h) t)) (chosen m σ h s)) (fun_ext e)
    ∙ ap (λ f. over_targets f (chosen m σ h s)) (fun_ext (λ t. count_none (runs k m σ (s ∷ h) t)))
    ∙ over_none_targets (chosen m σ h s)

-- a row has no branch to what lies before its targets
none_before : (n low t : ℕ) (f : ℕ → ℕ) (r : Row) → Ascends n low r → t < low → ((u : ℕ) → eqb u t ≡ false → f u ≡ 0) → over_targets f r ≡ 0
none_before n low t f [] a h z = refl
none_before n low t f (b ∷ bs) a h z =
    let g = a.0 in
    let i = none_before n (b.target + 1) t f bs a.3 (omega arith) z in
    let j = z b.target (ne_eqb b.target t (λ e. omega arith)) in
    omega arith

-- and one branch to a target
one_branch : (n low t : ℕ) (f : ℕ → ℕ) (r : Row) → Ascends n low r → 1 ≤ weight_to r t → f t ≡ 1 → ((u : ℕ) → eqb u t ≡ false → f u ≡ 0) → over_targets f r ≡ 1
one_branch n low t f [] a h e z = absurd (not-suc-le-zero h)
one_branch n low t f (b ∷ bs) a h e z = elim (cases_Bool (eqb b.target t)) [
  | inl q ↦
      let x = eqb-true b.target t q in
      let i = none_before n (b.target + 1) t f bs a.3 (omega arith) z in
      rw x (omega arith)
  | inr q ↦
      let i = one_branch n (b.target + 1) t f bs a.3 (rw q at h) e z in
      let j = z b.target q in
      omega arith
]

-- a target lies below n
target_within : (n : ℕ) (r : Row) (t : ℕ) → Within n r → 1 ≤ weight_to r t → t < n
target_within n [] t w h = absurd (not-suc-le-zero h)
target_within n (b ∷ bs) t w h = elim (cases_Bool (eqb b.target t)) [
  | inl q ↦ rw (eqb-true b.target t q) at w.0
  | inr q ↦ target_within n bs t w.1 (rw q at h)
]

-- each path that follows stands in the runs exactly once
once : (m : Mdp) → Lawful m → (σ : Adversary) → Allowed m σ → (rest : List ℕ) (h : List ℕ) (s : ℕ) → s < m.states → Follows m σ h s rest →
    count (same_path (s ∷ rest)) (runs (length rest) m σ h s) ≡ 1
once m l σ a [] h s p f = rw (eq-eqb s s refl)
once m l σ a (t ∷ ts) h s p f =
    let r = row_lawful m l s (σ (s ∷ h)) (a h s p) in
    count_row (same_path (s ∷ t ∷ ts)) s (runs (length ts) m σ (s ∷ h)) (chosen m σ h s)
    ∙ rw (eq-eqb s s refl) (one_branch m.states 0 t (λ u. count (same_path (t ∷ ts)) (runs (length ts) m σ (s ∷ h) u)) (chosen m σ h s) r.ascends f.0
    (once m l σ a ts (s ∷ h) t (target_within m.states (chosen m σ h s) t (ascends_within m.states 0 (chosen m σ h s) r.ascends) f.0) f.1)
    (λ u e. count_begins (same_path (t ∷ ts)) (length ts) m σ (s ∷ h) u (λ ss. rw e)))

-- what a branch of a row has: its target lies below n, and its weight is that of the row's branch to its target
pub record IsBranch (n : ℕ) (r : Row) (b : Branch) : Type 0 where
  pub within : b.target < n
  pub some : 1 ≤ b.weight
  pub weighs : weight_to r b.target ≡ b.weight

-- a later branch of a row, seen from the row with one more in front
later : (n low : ℕ) (b : Branch) (all bs : Row) → b.target < low → Ascends n low bs → Each (IsBranch n all) bs → Each (IsBranch n (b ∷ all)) bs
later n low b all [] h a e = tt
later n low b all (c ∷ cs) h a e =
    let g = a.0 in (
      record {
        within = e.0.within;
        some = e.0.some;
        weighs = rw (ne_eqb b.target c.target (λ x. omega arith)) e.0.weighs;
      },
      later n (c.target + 1) b all cs (omega arith) a.3 e.1,
    )

-- each branch of a lawful row is such
branches : (n low : ℕ) (r : Row) → Ascends n low r → Each (IsBranch n r) r
branches n low [] a = tt
branches n low (b ∷ bs) a = (
  record { within = a.1; some = a.2; weighs = rw (eq-eqb b.target b.target refl) },
  later n (b.target + 1) b bs bs (omega arith) a.3 (branches n (b.target + 1) bs a.3),
)

-- a path with one more step in front
step_path : (k : ℕ) (m : Mdp) (σ : Adversary) (h : List ℕ) (s : ℕ) (b : Branch) (r : Run) → IsBranch m.states (chosen m σ h s) b →
    IsPath k m σ (s ∷ h) b.target r → IsPath (suc k) m σ h s (step s b.weight r)
step_path k m σ h s b r i x = record {
  rest = b.target ∷ x.rest;
  passes = ap (λ ss. s ∷ ss) x.passes;
  steps = ap suc x.steps;
  follows = (rw i.weighs i.some, x.follows);
  weighs = ap₂ ◌*◌ (sym i.weighs) x.weighs;
}

-- so for a list of runs
step_paths : (k : ℕ) (m : Mdp) (σ : Adversary) (h : List ℕ) (s : ℕ) (b : Branch) (rs : List Run) → IsBranch m.states (chosen m σ h s) b →
    Each (IsPath k m σ (s ∷ h) b.target) rs → Each (IsPath (suc k) m σ h s) (map (step s b.weight) rs)
step_paths k m σ h s b [] i e = tt
step_paths k m σ h s b (r ∷ rs) i e = (step_path k m σ h s b r i e.0, step_paths k m σ h s b rs i e.1)

-- over the branches of a row
row_paths : (k : ℕ) (m : Mdp) (σ : Adversary) (h : List ℕ) (s : ℕ) (bs : Row) → Each (IsBranch m.states (chosen m σ h s)) bs →
    ((t : ℕ) → t < m.states → Each (IsPath k m σ (s ∷ h) t) (runs k m σ (s ∷ h) t)) →
    Each (IsPath (suc k) m σ h s) (gather (λ b. map (step s b.weight) (runs k m σ (s ∷ h) b.target)) bs)
row_paths k m σ h s [] e f = tt
row_paths k m σ h s (b ∷ bs) e f = each_append (IsPath (suc k) m σ h s) (map (step s b.weight) (runs k m σ (s ∷ h) b.target))
    (gather (λ b. map (step s b.weight) (runs k m σ (s ∷ h) b.target)) bs)
    (step_paths k m σ h s b (runs k m σ (s ∷ h) b.target) e.0 (f b.target e.0.within)) (row_paths k m σ h s bs e.1 f)

-- every run is a path that follows, with its weight
only : (m : Mdp) → Lawful m → (σ : Adversary) → Allowed m σ → (k : ℕ) (h : List ℕ) (s : ℕ) → s < m.states → Each (IsPath k m σ h s) (runs k m σ h s)
only m l σ a zero h s p = (record { rest = []; passes = refl; steps = refl; follows = tt; weighs = refl }, tt)
only m l σ a (suc k) h s p = row_paths k m σ h s (chosen m σ h s)
    (branches m.states 0 (chosen m σ h s) (row_lawful m l s (σ (s ∷ h)) (a h s p)).ascends) (λ t q. only m l σ a k (s ∷ h) t q)

-- the theorem of runs
pub runs_correct : RunsCorrect
runs_correct m l σ a k h s p = record {
  only_paths = only m l σ a k h s p;
  once_each = λ rest e f. subst (λ n. count (same_path (s ∷ rest)) (runs n m σ h s) ≡ 1) e (once m l σ a rest h s p f);
  weights_sum = weigh_all m l σ a k h s p;
}
