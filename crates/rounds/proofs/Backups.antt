-- What backups give: by a value rule, its rounds; by a backup that a map of values agrees with, the same of the values mapped.
use Rattle.std.proofs.Common.{◌≡◌, ℕ, zero, suc, Bool, List, [], ◌∷◌, map, get_or, Ok, Err, Result, sym, subst, refl, ap, ◌∙◌}
use Rattle.std.specs.List.{fold}
use Rattle.std.proofs.Math.ListN.{get_or-map}
use Rattle.std.proofs.lemmas.List.{length-map}
use Rattle.std.proofs.lemmas.Simd.{map-map}
use Rattle.model.specs.Mdp.{Mdp, Row, Lawful}
use Rattle.theory.specs.Rules.{RuleLaws, valued}
use Rattle.theory.specs.Rounds.{mixed, most_of, round, Optimum}
use Rattle.theory.proofs.Bridge.{so_far, so_far_most}
use Rattle.rules.specs.Values.{told, carried}
use Rattle.rounds.specs.Backups.{better_by, best_of, backed_up, values_by, spare_by, BackupsRun, BackupsRan}
use Rattle.rounds.specs.declared.fault.RoundsFault.{RoundsFault}
use Rattle.rounds.specs.Runs.{listed, values_after, spare_after, RoundsRun, Ran}
use Rattle.rounds.proofs.Lists.{listed_same, after_more, after_optimal}

module _ {V : Type 0} (preferred : V → V → Bool) (mix : ℕ → List (ℕ × V) → V) (laws : RuleLaws preferred mix) (m : Mdp) where
  -- the better of two, one after the other, is the best so far
  fold_so_far : (x : V) (xs : List V) → fold (better_by preferred) x xs ≡ so_far preferred x xs
  fold_so_far x [] = refl
  fold_so_far x (y ∷ ys) = fold_so_far (better_by preferred x y) ys

  -- so it is the most preferred
  best_most : (d : V) (xs : List V) → best_of (better_by preferred) d xs ≡ most_of preferred d xs
  best_most d [] = refl
  best_most d (x ∷ xs) = fold_so_far x xs ∙ so_far_most preferred mix laws x xs

  -- a round of backups by the rule is a round of the rule
  pub rule_round : (d : V) (v : ℕ → V) → listed m.states (backed_up (better_by preferred) mix m v) ≡ listed m.states (round preferred mix m v)
  rule_round d v = listed_same m.states (backed_up (better_by preferred) mix m v) (round preferred mix m v) d (λ s h. best_most (v s) (map (mixed mix m v) (m.choices s)))

  module _ (lawful : Lawful m) (values spare : List V) (d : V) where
    -- so are k rounds
    rule_after : (k : ℕ) → values_by (better_by preferred) mix m d k values ≡ values_after preferred mix m values d k
    rule_after zero = refl
    rule_after (suc k) =
        ap (λ (old : List V). listed m.states (backed_up (better_by preferred) mix m (told old d))) (rule_after k)
        ∙ rule_round d (told (values_after preferred mix m values d k) d)
        ∙ after_more preferred mix laws m lawful values d k

    -- and the second list is the rule's
    rule_before : (k : ℕ) → spare_by (better_by preferred) mix m d k values spare ≡ spare_after preferred mix m values spare d k
    rule_before zero = refl
    rule_before (suc k) = rule_after k

  -- what k rounds of backups by the rule leave is what rounds of the rule leave
  pub rule_run : Lawful m → (k : ℕ) (values spare values' spare' : List V) → BackupsRun (better_by preferred) mix m k values spare values' spare' → RoundsRun preferred mix m k values spare values' spare'
  rule_run lawful k values spare values' spare' made =
      let first = λ (d : V). made.first d ∙ rule_after lawful values spare d k in
      record {
        asked = made.asked;
        first = first;
        second = λ d. made.second d ∙ rule_before lawful values spare d k;
        optimal = λ d s h. subst (λ (l : List V). Optimum preferred mix m (told values d) k s (get_or l s d)) (sym (first d)) (after_optimal preferred mix laws m lawful values d k s h);
      }

  -- refused or not
  pub rule_ran : Lawful m → (k : ℕ) (values spare values' spare' : List V) (r : Result (Unit {0}) RoundsFault) → BackupsRan (better_by preferred) mix m k values spare values' spare' r → Ran preferred mix m k values spare values' spare' r
  rule_ran lawful k values spare values' spare' (Ok _) made = rule_run lawful k values spare values' spare' made
  rule_ran lawful k values spare values' spare' (Err e) refused = refused

module _ {V W : Type 0} (f : V → W) (betterV : V → V → V) (mixV : ℕ → List (ℕ × V) → V) (betterW : W → W → W) (mixW : ℕ → List (ℕ × W) → W)
    (better_same : (x y : V) → f (betterV x y) ≡ betterW (f x) (f y))
    (mix_same : (d : ℕ) (ps : List (ℕ × V)) → f (mixV d ps) ≡ mixW d (carried f ps)) (m : Mdp) where
  -- the best of a list, mapped
  fold_mapped : (x : V) (xs : List V) → f (fold betterV x xs) ≡ fold betterW (f x) (map f xs)
  fold_mapped x [] = refl
  fold_mapped x (y ∷ ys) = fold_mapped (betterV x y) ys ∙ ap (λ (w : W). fold betterW w (map f ys)) (better_same x y)

  -- empty or not
  best_mapped : (d : V) (xs : List V) → f (best_of betterV d xs) ≡ best_of betterW (f d) (map f xs)
  best_mapped d [] = refl
  best_mapped d (x ∷ xs) = fold_mapped x xs

  module _ (v : ℕ → V) (w : ℕ → W) (same : (t : ℕ) → f (v t) ≡ w t) where
    -- the values of a row, mapped
    row_mapped : (r : Row) → carried f (valued v r) ≡ valued w r
    row_mapped [] = refl
    row_mapped (b ∷ bs) = rw (same b.target, row_mapped bs)

    -- the mixes of rows, mapped
    rows_mapped : (rows : List Row) → map f (map (mixed mixV m v) rows) ≡ map (mixed mixW m w) rows
    rows_mapped [] = refl
    rows_mapped (r ∷ rs) =
        let one : f (mixed mixV m v r) ≡ mixed mixW m w r = mix_same m.denominator (valued v r) ∙ ap (mixW m.denominator) (row_mapped r) in
        rw (one, rows_mapped rs)

    -- a round, mapped
    round_mapped : (s : ℕ) → f (backed_up betterV mixV m v s) ≡ backed_up betterW mixW m w s
    round_mapped s =
        best_mapped (v s) (map (mixed mixV m v) (m.choices s))
        ∙ ap (λ (d : W). best_of betterW d (map f (map (mixed mixV m v) (m.choices s)))) (same s)
        ∙ ap (best_of betterW (w s)) (rows_mapped (m.choices s))

  -- the list after k rounds, mapped
  after_mapped : (d : V) (k : ℕ) (values : List V) → map f (values_by betterV mixV m d k values) ≡ values_by betterW mixW m (f d) k (map f values)
  after_mapped d zero values = refl
  after_mapped d (suc k) values =
      let old = values_by betterV mixV m d k values in
      let new = values_by betterW mixW m (f d) k (map f values) in
      let same : (t : ℕ) → f (told old d t) ≡ told new (f d) t = λ t. sym (get_or-map f old t d) ∙ ap (λ (l : List W). told l (f d) t) (after_mapped d k values) in
      map-map _ _ _
      ∙ listed_same m.states (λ s. f (backed_up betterV mixV m (told old d) s)) (backed_up betterW mixW m (told new (f d))) (f d) (λ s h. round_mapped (told old d) (told new (f d)) same s)

  -- the second list after k rounds, mapped
  before_mapped : (d : V) (k : ℕ) (values spare : List V) → map f (spare_by betterV mixV m d k values spare) ≡ spare_by betterW mixW m (f d) k (map f values) (map f spare)
  before_mapped d zero values spare = refl
  before_mapped d (suc k) values spare = after_mapped d k values

  -- what k rounds leave, mapped; every value of W is that of some value of V
  run_mapped : (g : W → V) → ((d : W) → f (g d) ≡ d) → (k : ℕ) (values spare values' spare' : List V) → BackupsRun betterV mixV m k values spare values' spare' → BackupsRun betterW mixW m k (map f values) (map f spare) (map f values') (map f spare')
  run_mapped g back k values spare values' spare' made = record {
    asked = rw (length-map values f, length-map spare f) made.asked;
    first = λ d. ap (map f) (made.first (g d)) ∙ after_mapped (g d) k values ∙ ap (λ e. values_by betterW mixW m e k (map f values)) (back d);
    second = λ d. ap (map f) (made.second (g d)) ∙ before_mapped (g d) k values spare ∙ ap (λ e. spare_by betterW mixW m e k (map f values) (map f spare)) (back d);
  }

  -- refused or not
  pub ran_mapped : (g : W → V) → ((d : W) → f (g d) ≡ d) → (k : ℕ) (values spare values' spare' : List V) (r : Result (Unit {0}) RoundsFault) →
      BackupsRan betterV mixV m k values spare values' spare' r → BackupsRan betterW mixW m k (map f values) (map f spare) (map f values') (map f spare') r
  ran_mapped g back k values spare values' spare' (Ok _) made = run_mapped g back k values spare values' spare' made
  ran_mapped g back k values spare values' spare' (Err e) refused = record {
    asked = rw (length-map values f, length-map spare f) refused.asked;
    first = ap (map f) refused.first;
    second = ap (map f) refused.second;
  }
