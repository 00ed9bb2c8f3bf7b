-- Rules carried over to other values: where a map of values agrees with preference and mix, it agrees with laws and rounds.
use Rattle.std.specs.Prelude.{◌≡◌, ℕ, zero, suc, ◌+◌, ◌<◌, ◌≤◌, Bool, true, List, [], ◌∷◌, ◌++◌, map, refl}
use Rattle.std.proofs.Common.{sym, ap, ◌∙◌, inl, inr, zero-add}
use Rattle.std.proofs.lemmas.Bool.{cases_Bool}
use Rattle.model.specs.Mdp.{Mdp, Row, Lawful, LawfulRow, Each, total}
use Rattle.theory.specs.Rules.{RuleLaws, LawfulMix, total_weight, valued}
use Rattle.theory.specs.Rounds.{mixed, most, most_of, round, rounds}
use Rattle.theory.proofs.Rounds.{mix_lawful, ascends_weights, round_same}
use Rattle.rules.specs.Values.{carried}

module _ {V : Type 0} where
  -- with another value in one place, a row of values has the same weights
  weight_same : (before after : List (ℕ × V)) (w : ℕ) (x y : V) → total_weight (before ++ ((w, x) ∷ after)) ≡ total_weight (before ++ ((w, y) ∷ after))
  weight_same [] after w x y = refl
  weight_same (p ∷ ps) after w x y = ap (λ n. p.0 + n) (weight_same ps after w x y)

  -- and each of them is as it was
  weights_same : (before after : List (ℕ × V)) (w : ℕ) (x y : V) →
      Each (λ (p : ℕ × V). 1 ≤ p.0) (before ++ ((w, x) ∷ after)) → Each (λ (p : ℕ × V). 1 ≤ p.0) (before ++ ((w, y) ∷ after))
  weights_same [] after w x y e = e
  weights_same (p ∷ ps) after w x y e = (e.0, weights_same ps after w x y e.1)

  -- so it stays lawful
  pub replaced_lawful : (d : ℕ) (before after : List (ℕ × V)) (w : ℕ) (x y : V) → LawfulMix d (before ++ ((w, x) ∷ after)) → LawfulMix d (before ++ ((w, y) ∷ after))
  replaced_lawful d before after w x y l = record {
    some_unit = l.some_unit;
    few_units = l.few_units;
    weights = weights_same before after w x y l.weights;
    sums = sym (weight_same before after w x y) ∙ l.sums;
  }

  -- the values of a row of a lawful model are a lawful row of values
  pub valued_lawful : (m : Mdp) → Lawful m → (v : ℕ → V) (r : Row) → LawfulRow m.states m.denominator r → LawfulMix m.denominator (valued v r)
  valued_lawful m l v r k = mix_lawful m.denominator [] v r (l.some_unit, l.few_units) tt (ascends_weights m.states 0 r k.ascends) (zero-add (total r) ∙ k.sums)

module _ {V W : Type 0} (f : V → W) where
  -- two rows carried over, one after the other
  carried_append : (ps qs : List (ℕ × V)) → carried f (ps ++ qs) ≡ carried f ps ++ carried f qs
  carried_append [] qs = refl
  carried_append (p ∷ ps) qs = ap (λ l. (p.0, f p.1) ∷ l) (carried_append ps qs)

  -- a row carried over has the same weights
  carried_weight : (ps : List (ℕ × V)) → total_weight (carried f ps) ≡ total_weight ps
  carried_weight [] = refl
  carried_weight (p ∷ ps) = ap (λ n. p.0 + n) (carried_weight ps)

  -- each of them
  carried_weights : (ps : List (ℕ × V)) → Each (λ (p : ℕ × V). 1 ≤ p.0) ps → Each (λ (p : ℕ × W). 1 ≤ p.0) (carried f ps)
  carried_weights [] e = tt
  carried_weights (p ∷ ps) e = (e.0, carried_weights ps e.1)

  -- so it is lawful too
  pub carried_lawful : (d : ℕ) (ps : List (ℕ × V)) → LawfulMix d ps → LawfulMix d (carried f ps)
  carried_lawful d ps l = record {
    some_unit = l.some_unit;
    few_units = l.few_units;
    weights = carried_weights ps l.weights;
    sums = carried_weight ps ∙ l.sums;
  }

  -- the values of a row, carried over
  pub carried_valued : (v : ℕ → V) (r : Row) → carried f (valued v r) ≡ valued (λ t. f (v t)) r
  carried_valued v [] = refl
  carried_valued v (b ∷ bs) = ap (λ l. (b.weight, f (v b.target)) ∷ l) (carried_valued v bs)

-- a row carried over twice
pub carried_twice : {U V W : Type 0} (f : U → V) (g : V → W) (ps : List (ℕ × U)) → carried g (carried f ps) ≡ carried (λ u. g (f u)) ps
carried_twice f g [] = refl
carried_twice f g (p ∷ ps) = ap (λ l. (p.0, g (f p.1)) ∷ l) (carried_twice f g ps)

module _ {V W : Type 0} (f : V → W) (goodV : V → V → Bool) (mixV : ℕ → List (ℕ × V) → V) (goodW : W → W → Bool) (mixW : ℕ → List (ℕ × W) → W)
    (good_same : (a b : V) → goodV a b ≡ goodW (f a) (f b))
    (mix_same : (d : ℕ) (ps : List (ℕ × V)) → LawfulMix d ps → f (mixV d ps) ≡ mixW d (carried f ps))
    (laws : RuleLaws goodW mixW) where
  -- the mix of a row with one value replaced, carried over
  replaced_same : (d : ℕ) (before after : List (ℕ × V)) (w : ℕ) (x : V) → LawfulMix d (before ++ ((w, x) ∷ after)) →
      f (mixV d (before ++ ((w, x) ∷ after))) ≡ mixW d (carried f before ++ ((w, f x) ∷ carried f after))
  replaced_same d before after w x l = mix_same d (before ++ ((w, x) ∷ after)) l ∙ ap (mixW d) (carried_append f before ((w, x) ∷ after))

  -- the mix keeps the preference
  carried_monotone : (d : ℕ) (before after : List (ℕ × V)) (w : ℕ) (x y : V) → LawfulMix d (before ++ ((w, x) ∷ after)) → goodV x y ≡ true →
      goodV (mixV d (before ++ ((w, x) ∷ after))) (mixV d (before ++ ((w, y) ∷ after))) ≡ true
  carried_monotone d before after w x y l e =
      let one = replaced_same d before after w x l in
      let other = replaced_same d before after w y (replaced_lawful d before after w x y l) in
      let lawful = rw (carried_append f before ((w, x) ∷ after)) at (carried_lawful f d (before ++ ((w, x) ∷ after)) l) in
      good_same _ _ ∙ ap (λ (a : W). goodW a (f (mixV d (before ++ ((w, y) ∷ after))))) one ∙ ap (goodW _) other
      ∙ laws.monotone d (carried f before) (carried f after) w (f x) (f y) lawful (sym (good_same x y) ∙ e)

  -- where f takes no two values to one, the laws come along
  pub carried_laws : ((a b : V) → f a ≡ f b → a ≡ b) → RuleLaws goodV mixV
  carried_laws apart = record {
    reflexive = λ x. good_same x x ∙ laws.reflexive (f x);
    transitive = λ x y z p q. good_same x z ∙ laws.transitive (f x) (f y) (f z) (sym (good_same x y) ∙ p) (sym (good_same y z) ∙ q);
    antisymmetric = λ x y p q. apart x y (laws.antisymmetric (f x) (f y) (sym (good_same x y) ∙ p) (sym (good_same y x) ∙ q));
    complete = λ x y. elim (laws.complete (f x) (f y)) [ inl p ↦ inl (good_same x y ∙ p) | inr p ↦ inr (good_same y x ∙ p) ];
    monotone = carried_monotone;
  }

  -- the most preferred of a list, carried over
  most_carried : (x : V) (xs : List V) → f (most goodV x xs) ≡ most goodW (f x) (map f xs)
  most_carried x [] = refl
  most_carried x (y ∷ ys) =
      let rest = most_carried y ys in
      elim (cases_Bool (goodV x (most goodV y ys))) [
        | inl e ↦ rw (e, sym rest, sym (good_same x (most goodV y ys)) ∙ e)
        | inr e ↦ rw (e, sym rest, sym (good_same x (most goodV y ys)) ∙ e)
      ]

  -- empty or not
  most_of_carried : (x : V) (xs : List V) → f (most_of goodV x xs) ≡ most_of goodW (f x) (map f xs)
  most_of_carried x [] = refl
  most_of_carried x (y ∷ ys) = most_carried y ys

  -- the mixes of a state's rows, carried over
  rows_carried : (m : Mdp) → Lawful m → (v : ℕ → V) (rows : List Row) → Each (LawfulRow m.states m.denominator) rows →
      map f (map (mixed mixV m v) rows) ≡ map (mixed mixW m (λ t. f (v t))) rows
  rows_carried m l v [] e = refl
  rows_carried m l v (r ∷ rs) e =
      let one : f (mixed mixV m v r) ≡ mixed mixW m (λ t. f (v t)) r = mix_same m.denominator (valued v r) (valued_lawful m l v r e.0) ∙ ap (mixW m.denominator) (carried_valued f v r) in
      rw (one, rows_carried m l v rs e.1)

  -- a round, carried over
  round_carried : (m : Mdp) → Lawful m → (v : ℕ → V) (s : ℕ) → f (round goodV mixV m v s) ≡ round goodW mixW m (λ t. f (v t)) s
  round_carried m l v s = most_of_carried (v s) (map (mixed mixV m v) (m.choices s)) ∙ ap (most_of goodW (f (v s))) (rows_carried m l v (m.choices s) (l.rows s))

  -- k rounds, carried over
  pub rounds_carried : (m : Mdp) → Lawful m → (v : ℕ → V) (k s : ℕ) → s < m.states → f (rounds goodV mixV k m v s) ≡ rounds goodW mixW k m (λ t. f (v t)) s
  rounds_carried m l v zero s p = refl
  rounds_carried m l v (suc k) s p =
      round_carried m l (rounds goodV mixV k m v) s
      ∙ round_same goodW mixW laws m l (λ t. f (rounds goodV mixV k m v t)) (rounds goodW mixW k m (λ t. f (v t))) (rounds_carried m l v k) s p
