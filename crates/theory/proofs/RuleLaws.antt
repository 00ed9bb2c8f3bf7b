-- The rules keep the laws.
use Rattle.std.proofs.Common.{◌≡◌, ℕ, zero, suc, ◌+◌, ◌-◌, ◌/◌, ◌≤◌, Bool, true, false, ◌||◌, leb, ◌⊎◌, List, [], ◌∷◌, ◌++◌, sym, refl, ◌∙◌, inl, inr, le_trans, le_refl, le_antisymm, mul-le-mul_left, le-div_iff_mul-le, div-mul-le_self, arith, le-leb, leb-true}
use native.Mathlib.Nat.{div-zero}
use Rattle.std.proofs.lemmas.Bool.{cases_lt}
use Rattle.theory.specs.Rules.{RuleLaws}
use Rattle.theory.specs.Mixes.{RulesLawful, sum_of, mix_down, mix_up, mix_marks, greater, lesser, yes_first, no_first}

-- a greater value makes the sum no smaller
pub sum_better : (before after : List (ℕ × ℕ)) (w x y : ℕ) → y ≤ x → sum_of (before ++ ((w, y) ∷ after)) ≤ sum_of (before ++ ((w, x) ∷ after))
sum_better [] after w x y h = let k = mul-le-mul_left w h in omega arith
sum_better (p ∷ ps) after w x y h = let k = sum_better ps after w x y h in omega arith

-- nor the quotient
pub div_mono : (d a b : ℕ) → a ≤ b → a / d ≤ b / d
div_mono zero a b h = rw (div-zero a, div-zero b) (le_refl 0)
div_mono (suc d) a b h = (le-div_iff_mul-le {k = suc d} (omega arith)).1 (le_trans (div-mul-le_self a (suc d)) h)

-- of two numbers one is at most the other
leb_total : (x y : ℕ) → (leb x y ≡ true) ⊎ (leb y x ≡ true)
leb_total x y = elim (cases_lt x y) [ inl h ↦ inl (le-leb x y (omega arith)) | inr h ↦ inr (le-leb y x h) ]

module _ (mix : ℕ → List (ℕ × ℕ) → ℕ)
    (mono : (d : ℕ) (before after : List (ℕ × ℕ)) (w x y : ℕ) → y ≤ x → mix d (before ++ ((w, y) ∷ after)) ≤ mix d (before ++ ((w, x) ∷ after))) where
  -- a mix that grows with its values is lawful with the greater preferred
  pub greater_laws : RuleLaws greater mix
  greater_laws = record {
    reflexive = λ x. le-leb x x (le_refl x);
    transitive = λ x y z p q. le-leb z x (le_trans (leb-true z y q) (leb-true y x p));
    antisymmetric = λ x y p q. le_antisymm (leb-true x y q) (leb-true y x p);
    complete = λ x y. leb_total y x;
    monotone = λ d before after w x y e p. le-leb _ _ (mono d before after w x y (leb-true y x p));
  }

  -- and with the lesser
  pub lesser_laws : RuleLaws lesser mix
  lesser_laws = record {
    reflexive = λ x. le-leb x x (le_refl x);
    transitive = λ x y z p q. le-leb x z (le_trans (leb-true x y p) (leb-true y z q));
    antisymmetric = λ x y p q. le_antisymm (leb-true x y p) (leb-true y x q);
    complete = λ x y. leb_total x y;
    monotone = λ d before after w x y e p. le-leb _ _ (mono d before after w y x (leb-true x y p));
  }

-- parts down grow
down_mono : (d : ℕ) (before after : List (ℕ × ℕ)) (w x y : ℕ) → y ≤ x → mix_down d (before ++ ((w, y) ∷ after)) ≤ mix_down d (before ++ ((w, x) ∷ after))
down_mono d before after w x y h = div_mono d _ _ (sum_better before after w x y h)

-- parts up grow
up_mono : (d : ℕ) (before after : List (ℕ × ℕ)) (w x y : ℕ) → y ≤ x → mix_up d (before ++ ((w, y) ∷ after)) ≤ mix_up d (before ++ ((w, x) ∷ after))
up_mono d before after w x y h = let k = sum_better before after w x y h in
    div_mono d (sum_of (before ++ ((w, y) ∷ after)) + (d - 1)) (sum_of (before ++ ((w, x) ∷ after)) + (d - 1)) (omega arith)

-- parts down, the greater preferred
pub down_greater : RuleLaws greater mix_down
down_greater = greater_laws mix_down down_mono

-- parts down, the lesser preferred
pub down_lesser : RuleLaws lesser mix_down
down_lesser = lesser_laws mix_down down_mono

-- parts up, the greater preferred
pub up_greater : RuleLaws greater mix_up
up_greater = greater_laws mix_up up_mono

-- parts up, the lesser preferred
pub up_lesser : RuleLaws lesser mix_up
up_lesser = lesser_laws mix_up up_mono

-- marks grow
marks_mono : (d : ℕ) (before after : List (ℕ × Bool)) (w : ℕ) (x y : Bool) → yes_first x y ≡ true →
    yes_first (mix_marks d (before ++ ((w, x) ∷ after))) (mix_marks d (before ++ ((w, y) ∷ after))) ≡ true
marks_mono d [] after w x y h = go x y (mix_marks d after) h
  where
    go : (x y b : Bool) → yes_first x y ≡ true → yes_first (x || b) (y || b) ≡ true
    go true y b h = refl
    go false false true h = refl
    go false false false h = refl
    go false true true h = refl
    go false true false h = h
marks_mono d (p ∷ ps) after w x y h = go p.1 (mix_marks d (ps ++ ((w, x) ∷ after))) (mix_marks d (ps ++ ((w, y) ∷ after))) (marks_mono d ps after w x y h)
  where
    go : (b x y : Bool) → yes_first x y ≡ true → yes_first (b || x) (b || y) ≡ true
    go true x y h = refl
    go false x y h = h

-- the two preferences of marks are each other turned round
flip : (x y : Bool) → no_first x y ≡ yes_first y x
flip true true = refl
flip true false = refl
flip false true = refl
flip false false = refl

-- marks, yes preferred
pub marks_greater : RuleLaws yes_first mix_marks
marks_greater = record {
  reflexive = r;
  transitive = t;
  antisymmetric = a;
  complete = c;
  monotone = λ d before after w x y e p. marks_mono d before after w x y p;
}
  where
    r : (x : Bool) → yes_first x x ≡ true
    r true = refl
    r false = refl

    t : (x y z : Bool) → yes_first x y ≡ true → yes_first y z ≡ true → yes_first x z ≡ true
    t true y z p q = refl
    t false true z p q = absurd (borrow.Author.Tests.clash p)
    t false false z p q = q

    a : (x y : Bool) → yes_first x y ≡ true → yes_first y x ≡ true → x ≡ y
    a true true p q = refl
    a true false p q = absurd (borrow.Author.Tests.clash q)
    a false true p q = absurd (borrow.Author.Tests.clash p)
    a false false p q = refl

    c : (x y : Bool) → (yes_first x y ≡ true) ⊎ (yes_first y x ≡ true)
    c true y = inl refl
    c false true = inr refl
    c false false = inl refl

-- marks, no preferred
pub marks_lesser : RuleLaws no_first mix_marks
marks_lesser = record {
  reflexive = λ x. flip x x ∙ marks_greater.reflexive x;
  transitive = λ x y z p q. flip x z ∙ marks_greater.transitive z y x (sym (flip y z) ∙ q) (sym (flip x y) ∙ p);
  antisymmetric = λ x y p q. marks_greater.antisymmetric x y (sym (flip y x) ∙ q) (sym (flip x y) ∙ p);
  complete = λ x y. elim (marks_greater.complete x y) [ inl p ↦ inr (flip y x ∙ p) | inr p ↦ inl (flip x y ∙ p) ];
  monotone = λ d before after w x y e p. flip (mix_marks d (before ++ ((w, x) ∷ after))) (mix_marks d (before ++ ((w, y) ∷ after))) ∙ marks_mono d before after w y x (sym (flip x y) ∙ p);
}

-- the six together
pub rules_lawful : RulesLawful
rules_lawful = record {
  down_greater = down_greater;
  down_lesser = down_lesser;
  up_greater = up_greater;
  up_lesser = up_lesser;
  marks_yes = marks_greater;
  marks_no = marks_lesser;
}
