-- k rounds give the most preferred value among the adversaries.
use Rattle.std.proofs.Common.{◌≡◌, ℕ, zero, suc, ◌+◌, ◌-◌, ◌<◌, ◌≤◌, Bool, true, List, [], ◌∷◌, ◌++◌, map, length, get_or, sym, refl, ap, ◌∙◌, subst, ⊎_elim, append_assoc, suc-le-suc, le_of_suc-le-suc, not-suc-le-zero, add-zero, zero-add, arith, inl, inr}
use Rattle.std.proofs.lemmas.List.{length-map, get_or-map}
use Rattle.std.proofs.lemmas.Bool.{both_ways, cases_Bool}
use Rattle.model.specs.Mdp.{Mdp, Row, Each, Lawful, LawfulRow, Ascends, total, row}
use Rattle.model.specs.declared.branch.Branch.{Branch}
use Rattle.model.proofs.Lists.{each_at, each_append}
use Rattle.theory.specs.Adversaries.{AnAdversaryExists, Adversary, Allowed, chosen}
use Rattle.theory.specs.Rules.{LawfulMix, RuleLaws, total_weight, valued}
use Rattle.theory.specs.Rounds.{Optimum, most, most_of, mixed, value, round, rounds}

-- every target of a row lies below n
abbrev pub Within : ℕ → Row → Type 0
Within n r = Each (λ (b : Branch). b.target < n) r

-- the targets of a lawful row do
pub ascends_within : (n low : ℕ) (r : Row) → Ascends n low r → Within n r
ascends_within n low [] a = tt
ascends_within n low (b ∷ bs) a = (a.1, ascends_within n (b.target + 1) bs a.3)

-- every weight of such a row is at least 1
pub ascends_weights : (n low : ℕ) (r : Row) → Ascends n low r → Each (λ (b : Branch). 1 ≤ b.weight) r
ascends_weights n low [] a = tt
ascends_weights n low (b ∷ bs) a = (a.2, ascends_weights n (b.target + 1) bs a.3)

-- the row that an allowed adversary takes is lawful
pub row_lawful : (m : Mdp) → Lawful m → (s c : ℕ) → c < length (m.choices s) → LawfulRow m.states m.denominator (row m s c)
row_lawful m l s c h = each_at (LawfulRow m.states m.denominator) (m.choices s) c [] (l.rows s) h

-- and its targets are states
pub row_within : (m : Mdp) → Lawful m → (s c : ℕ) → c < length (m.choices s) → Within m.states (row m s c)
row_within m l s c h = ascends_within m.states 0 (row m s c) (row_lawful m l s c h).ascends

module _ {V : Type 0} where
  -- the weights of a row of values are those of the row, after what stands before it
  pub weight_after : (before : List (ℕ × V)) (v : ℕ → V) (r : Row) → total_weight (before ++ valued v r) ≡ total_weight before + total r
  weight_after [] v [] = omega arith
  weight_after [] v (b ∷ bs) = rw (weight_after [] v bs) (omega arith)
  weight_after (p ∷ ps) v r = rw (weight_after ps v r) (omega arith)

  -- what holds of the weights of a row holds of those of its row of values
  each_weight : (P : ℕ → Type 0) (v : ℕ → V) (r : Row) → Each (λ (b : Branch). P b.weight) r → Each (λ (p : ℕ × V). P p.0) (valued v r)
  each_weight P v [] e = tt
  each_weight P v (b ∷ bs) e = (e.0, each_weight P v bs e.1)

  -- such a row of values, some branches of it given already, is lawful
  pub mix_lawful : (d : ℕ) (before : List (ℕ × V)) (v : ℕ → V) (r : Row) → (1 ≤ d) × (d ≤ 1000000) → Each (λ (p : ℕ × V). 1 ≤ p.0) before →
      Each (λ (b : Branch). 1 ≤ b.weight) r → total_weight before + total r ≡ d → LawfulMix d (before ++ valued v r)
  mix_lawful d before v r u x y e = record {
    some_unit = u.0;
    few_units = u.1;
    weights = each_append (λ (p : ℕ × V). 1 ≤ p.0) before (valued v r) x (each_weight (λ w. 1 ≤ w) v r y);
    sums = weight_after before v r ∙ e;
  }

  -- rows with the same values at the states
  pub valued_same : (n : ℕ) (f g : ℕ → V) (r : Row) → Within n r → ((t : ℕ) → t < n → f t ≡ g t) → valued f r ≡ valued g r
  valued_same n f g [] w e = refl
  valued_same n f g (b ∷ bs) w e = rw (e b.target w.0, valued_same n f g bs w.1 e)

module _ {V : Type 0} (at_least_as_good : V → V → Bool) where
  -- where the most preferred stands
  pub most_at : (d x : V) (xs : List V) → (i : ℕ) × (i < suc (length xs)) × (get_or (x ∷ xs) i d ≡ most at_least_as_good x xs)
  most_at d x [] = (0, omega arith, refl)
  most_at d x (y ∷ ys) = let r = most_at d y ys in elim (cases_Bool (at_least_as_good x (most at_least_as_good y ys))) [
    | inl e ↦ (0, omega arith, rw e)
    | inr e ↦ (suc r.0, suc-le-suc r.1, rw e r.2)
  ]

  -- of a list, empty or not
  pub most_of_at : (d e : V) (xs : List V) → (i : ℕ) × (1 ≤ length xs → (i < length xs) × (get_or xs i e ≡ most_of at_least_as_good d xs))
  most_of_at d e [] = (0, λ h. absurd (not-suc-le-zero h))
  most_of_at d e (x ∷ xs) = let r = most_at e x xs in (r.0, λ h. (r.1, r.2))

module _ {V : Type 0} (at_least_as_good : V → V → Bool) (mix : ℕ → List (ℕ × V) → V) (laws : RuleLaws at_least_as_good mix) where
  -- at least as preferred as each
  pub most_best : (d x : V) (xs : List V) (i : ℕ) → i < suc (length xs) → at_least_as_good (most at_least_as_good x xs) (get_or (x ∷ xs) i d) ≡ true
  most_best d x [] zero h = laws.reflexive x
  most_best d x [] (suc i) h = absurd (not-suc-le-zero (le_of_suc-le-suc h))
  most_best d x (y ∷ ys) zero h = elim (cases_Bool (at_least_as_good x (most at_least_as_good y ys))) [
    | inl e ↦ rw e (laws.reflexive x)
    | inr e ↦ rw e (⊎_elim (λ p. absurd (both_ways (at_least_as_good x (most at_least_as_good y ys)) e p)) (λ p. p) (laws.complete x (most at_least_as_good y ys)))
  ]
  most_best d x (y ∷ ys) (suc i) h = let r = most_best d y ys i (le_of_suc-le-suc h) in elim (cases_Bool (at_least_as_good x (most at_least_as_good y ys))) [
    | inl e ↦ rw e (laws.transitive x (most at_least_as_good y ys) (get_or (y ∷ ys) i d) e r)
    | inr e ↦ rw e r
  ]

  -- of a list, empty or not
  pub most_of_best : (d e : V) (xs : List V) (i : ℕ) → i < length xs → at_least_as_good (most_of at_least_as_good d xs) (get_or xs i e) ≡ true
  most_of_best d e [] i h = absurd (not-suc-le-zero h)
  most_of_best d e (x ∷ xs) i h = most_best e x xs i h

  -- values at least as good at every target, one branch after another
  pub mix_after : (d n : ℕ) (before : List (ℕ × V)) (f g : ℕ → V) (r : Row) → (1 ≤ d) × (d ≤ 1000000) → Each (λ (p : ℕ × V). 1 ≤ p.0) before →
      Each (λ (b : Branch). 1 ≤ b.weight) r → total_weight before + total r ≡ d → Within n r →
      ((t : ℕ) → t < n → at_least_as_good (f t) (g t) ≡ true) →
      at_least_as_good (mix d (before ++ valued f r)) (mix d (before ++ valued g r)) ≡ true
  mix_after d n before f g [] u x y e w h = laws.reflexive (mix d (before ++ []))
  mix_after d n before f g (b ∷ bs) u x y e w h =
      laws.transitive _ (mix d (before ++ ((b.weight, g b.target) ∷ valued f bs))) _
      (laws.monotone d before (valued f bs) b.weight (f b.target) (g b.target) (mix_lawful d before f (b ∷ bs) u x y e) (h b.target w.0))
      (rw (append_assoc before ((b.weight, g b.target) ∷ []) (valued f bs), append_assoc before ((b.weight, g b.target) ∷ []) (valued g bs)) at
      (mix_after d n (before ++ ((b.weight, g b.target) ∷ [])) f g bs u
      (each_append (λ (p : ℕ × V). 1 ≤ p.0) before ((b.weight, g b.target) ∷ []) x (y.0, tt)) y.1 (omega (arith, weight_after before g (b ∷ []))) w.1 h))

  -- over the whole row: better values at every target never make its mix less preferred
  pub mixed_better : (m : Mdp) → Lawful m → (f g : ℕ → V) (r : Row) → LawfulRow m.states m.denominator r →
      ((t : ℕ) → t < m.states → at_least_as_good (f t) (g t) ≡ true) → at_least_as_good (mixed mix m f r) (mixed mix m g r) ≡ true
  mixed_better m u f g r l h = mix_after m.denominator m.states [] f g r (u.some_unit, u.few_units) tt (ascends_weights m.states 0 r l.ascends)
      (zero-add (total r) ∙ l.sums) (ascends_within m.states 0 r l.ascends) h

  -- a round gives what is at least as preferred as the mix of each choice
  pub round_best : (m : Mdp) (v : ℕ → V) (s c : ℕ) → c < length (m.choices s) → at_least_as_good (round at_least_as_good mix m v s) (mixed mix m v (row m s c)) ≡ true
  round_best m v s c h = rw (get_or-map (mixed mix m v) (m.choices s) c [] (v s) h) at
      (most_of_best (v s) (v s) (map (mixed mix m v) (m.choices s)) c (rw length-map h))

  -- no allowed adversary's value is preferred to what the rounds give
  pub none_better : (m : Mdp) → Lawful m → (v : ℕ → V) (σ : Adversary) → Allowed m σ → (k : ℕ) (h : List ℕ) (s : ℕ) → s < m.states →
      at_least_as_good (rounds at_least_as_good mix k m v s) (value mix k m v σ h s) ≡ true
  none_better m l v σ a zero h s p = laws.reflexive (v s)
  none_better m l v σ a (suc k) h s p =
      laws.transitive _ (mixed mix m (rounds at_least_as_good mix k m v) (chosen m σ h s)) _
      (round_best m (rounds at_least_as_good mix k m v) s (σ (s ∷ h)) (a h s p))
      (mixed_better m l (rounds at_least_as_good mix k m v) (value mix k m v σ (s ∷ h)) (chosen m σ h s) (row_lawful m l s (σ (s ∷ h)) (a h s p))
      (λ t q. none_better m l v σ a k (s ∷ h) t q))

  -- the choice with the most preferred mix
  pub choose : (m : Mdp) (v : ℕ → V) (s : ℕ) → (i : ℕ) × (1 ≤ length (m.choices s) →
      (i < length (m.choices s)) × (mixed mix m v (row m s i) ≡ round at_least_as_good mix m v s))
  choose m v s =
      let r = most_of_at at_least_as_good (v s) (v s) (map (mixed mix m v) (m.choices s)) in (
        r.0,
        λ h. let q = r.1 (rw length-map h) in
            let i : r.0 < length (m.choices s) = rw length-map at q.0 in
            (i, sym (get_or-map (mixed mix m v) (m.choices s) r.0 [] (v s) i) ∙ q.1),
      )

  -- better values make a round no worse
  pub round_better : (m : Mdp) → Lawful m → (f g : ℕ → V) → ((t : ℕ) → t < m.states → at_least_as_good (f t) (g t) ≡ true) →
      (s : ℕ) → s < m.states → at_least_as_good (round at_least_as_good mix m f s) (round at_least_as_good mix m g s) ≡ true
  round_better m l f g h s p =
      let c = choose m g s in
      let q = c.1 (l.some_choice s p) in
      rw q.1 at (laws.transitive _ _ _ (round_best m f s c.0 q.0) (mixed_better m l f g (row m s c.0) (row_lawful m l s c.0 q.0) h))

  -- a round reads the values of the states only
  pub round_same : (m : Mdp) → Lawful m → (f g : ℕ → V) → ((t : ℕ) → t < m.states → f t ≡ g t) →
      (s : ℕ) → s < m.states → round at_least_as_good mix m f s ≡ round at_least_as_good mix m g s
  round_same m l f g h s p = laws.antisymmetric _ _
      (round_better m l f g (λ t q. rw (h t q) (laws.reflexive (g t))) s p)
      (round_better m l g f (λ t q. rw (h t q) (laws.reflexive (g t))) s p)

  -- where the first round is no worse, or no better, so is each
  pub rising : (m : Mdp) → Lawful m → (v : ℕ → V) → ((s : ℕ) → s < m.states → at_least_as_good (round at_least_as_good mix m v s) (v s) ≡ true) →
      (k s : ℕ) → s < m.states → at_least_as_good (rounds at_least_as_good mix (suc k) m v s) (rounds at_least_as_good mix k m v s) ≡ true
  rising m l v b zero s p = b s p
  rising m l v b (suc k) s p = round_better m l (rounds at_least_as_good mix (suc k) m v) (rounds at_least_as_good mix k m v) (λ t q. rising m l v b k t q) s p

  -- or no better
  pub falling : (m : Mdp) → Lawful m → (v : ℕ → V) → ((s : ℕ) → s < m.states → at_least_as_good (v s) (round at_least_as_good mix m v s) ≡ true) →
      (k s : ℕ) → s < m.states → at_least_as_good (rounds at_least_as_good mix k m v s) (rounds at_least_as_good mix (suc k) m v s) ≡ true
  falling m l v b zero s p = b s p
  falling m l v b (suc k) s p = round_better m l (rounds at_least_as_good mix k m v) (rounds at_least_as_good mix (suc k) m v) (λ t q. falling m l v b k t q) s p

  -- the adversary that takes it, with k rounds in all
  pub optimal : (k : ℕ) (m : Mdp) (v : ℕ → V) → Adversary
  optimal k m v [] = 0
  optimal k m v (s ∷ h) = (choose m (rounds at_least_as_good mix (k - length (s ∷ h)) m v) s).0

  -- it is allowed
  pub optimal_allowed : (k : ℕ) (m : Mdp) → Lawful m → (v : ℕ → V) → Allowed m (optimal k m v)
  unfolding optimal
  optimal_allowed k m l v h s p = ((choose m (rounds at_least_as_good mix (k - length (s ∷ h)) m v) s).1 (l.some_choice s p)).0

  -- the mix over the row that it takes
  pub optimal_row : (k : ℕ) (m : Mdp) → Lawful m → (v : ℕ → V) (j : ℕ) (h : List ℕ) (s : ℕ) → suc j + length h ≡ k → s < m.states →
      mixed mix m (rounds at_least_as_good mix j m v) (chosen m (optimal k m v) h s) ≡ rounds at_least_as_good mix (suc j) m v s
  unfolding optimal
  optimal_row k m l v j h s e p =
      let e2 : k - length (s ∷ h) ≡ j = omega arith in
      subst (λ x. mixed mix m (rounds at_least_as_good mix j m v) (row m s (choose m (rounds at_least_as_good mix x m v) s).0) ≡ round at_least_as_good mix m (rounds at_least_as_good mix j m v) s)
      (sym e2) ((choose m (rounds at_least_as_good mix j m v) s).1 (l.some_choice s p)).1

  -- its value is what the rounds give
  pub optimal_value : (k : ℕ) (m : Mdp) → Lawful m → (v : ℕ → V) (j : ℕ) (h : List ℕ) (s : ℕ) → j + length h ≡ k → s < m.states →
      value mix j m v (optimal k m v) h s ≡ rounds at_least_as_good mix j m v s
  optimal_value k m l v zero h s e p = refl
  optimal_value k m l v (suc j) h s e p =
      ap (mix m.denominator) (valued_same m.states (value mix j m v (optimal k m v) (s ∷ h)) (rounds at_least_as_good mix j m v) (chosen m (optimal k m v) h s)
      (row_within m l s (optimal k m v (s ∷ h)) (optimal_allowed k m l v h s p))
      (λ t q. optimal_value k m l v j (s ∷ h) t (omega arith) q))
      ∙ optimal_row k m l v j h s e p

  -- rounds give the attained optimum
  pub some_adversary : (m : Mdp) → Lawful m → (v : ℕ → V) (k s : ℕ) → s < m.states →
      (σ : Adversary) × Allowed m σ × (value mix k m v σ [] s ≡ rounds at_least_as_good mix k m v s)
  some_adversary m l v k s p = (optimal k m v, optimal_allowed k m l v, optimal_value k m l v k [] s (add-zero k) p)

  -- and none is better
  pub no_adversary : (m : Mdp) → Lawful m → (v : ℕ → V) (k s : ℕ) → s < m.states → (σ : Adversary) → Allowed m σ →
      at_least_as_good (rounds at_least_as_good mix k m v s) (value mix k m v σ [] s) ≡ true
  no_adversary m l v k s p σ a = none_better m l v σ a k [] s p

  -- the two together
  pub rounds_optimal : (m : Mdp) → Lawful m → (v : ℕ → V) (k s : ℕ) → s < m.states → Optimum at_least_as_good mix m v k s (rounds at_least_as_good mix k m v s)
  rounds_optimal m l v k s p = record { attained = some_adversary m l v k s p; none_better = no_adversary m l v k s p }

-- the adversary that always names the first choice is allowed
pub first_allowed : AnAdversaryExists
first_allowed m l = (λ path. 0, λ h s p. l.some_choice s p)
