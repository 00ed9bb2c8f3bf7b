-- Flags that are set one after another: the first i are as they should be, and no later one is set. The marks that decide them are taken from their lists one after another too.
use Rattle.std.proofs.Common.{◌≡◌, ℕ, ◌+◌, ◌<◌, ◌≤◌, Bool, true, false, ◌≢◌, List, length, get_or, set, replicate, sym, ap, ◌∙◌, arith, ◌∷◌, drop, add-zero, length-set, get_or-set_other, get_or-set_same, below_more}
use Rattle.std.proofs.lemmas.List.{length-drop, drop-drop, get_or-drop}
use lib.ListN.{length-replicate}
use Rattle.layers.proofs.Flags.{none_set}

-- the flags below i are those of the set, and no flag from i on is set
pub record Partly (stop : ℕ → Bool) (i : ℕ) (flags : List Bool) : Type 0 where
  pub long : length flags ≡ 512
  pub below : (s : ℕ) → s < i → get_or flags s false ≡ stop s
  pub above : (s : ℕ) → i ≤ s → get_or flags s false ≡ false

-- no flag is set
pub partly_none : (stop : ℕ → Bool) → Partly stop 0 (replicate 512 false)
partly_none stop = record {
  long = length-replicate 512 false;
  below = λ s h. absurd (omega arith);
  above = λ s h. none_set 512 s;
}

module _ (stop : ℕ → Bool) (i : ℕ) (flags : List Bool) (part : Partly stop i flags) where
  -- the next flag is set
  pub partly_set : i < 512 → stop i ≡ true → Partly stop (i + 1) (set flags i true)
  partly_set h e =
      let long = part.long in
      let lt : i < length flags = omega arith in
      record {
        long = length-set flags i true ∙ long;
        below = below_more _ _ (λ s k. let ne : s ≢ i = omega arith in rw get_or-set_other (part.below s k)) (rw get_or-set_same (sym e));
        above = λ s k. let ne : s ≢ i = omega arith in rw get_or-set_other (part.above s (omega arith));
      }

-- where x and the rest come after the first i of a list, x stands at i, and the rest comes after the first i + 1
pub next_at : (xs : List ℕ) (i : ℕ) {x : ℕ} {now rest : List ℕ} → now ≡ drop i xs → now ≡ x ∷ rest → (i < length xs) × (get_or xs i 0 ≡ x) × (rest ≡ drop (i + 1) xs)
next_at xs i from next =
    let e = sym from ∙ next in
    (omega (arith, ap length e, length-drop i xs), sym (get_or-drop i xs 0 0 ∙ ap (λ n. get_or xs n 0) (add-zero i)) ∙ ap (λ l. get_or l 0 0) e, sym (ap (drop 1) e) ∙ drop-drop 1 i xs)
