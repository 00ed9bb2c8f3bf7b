-- Which beginning of a field is a lawful set of labels, and which set it writes.
use Rattle.std.proofs.Common.{◌≡◌, ℕ, None, Some, Option, Bor, zero, suc, ◌+◌, ◌-◌, ◌<◌, ◌≤◌, Bool, map, true, false, eqb, List, [], ◌∷◌, length, get_or, take, sym, refl, ap, ltb, ◌∙◌, inr, ⊎_elim, add-one, arith}
use Rattle.std.proofs.lemmas.List.{length-take-le, length-append, nil_from_length, get_or-take}
use Rattle.std.proofs.lemmas.Bool.{and_parts, and_from, or_from, ltb-true, ltb-false, cases_Bool, ne_eqb, cases_lt}
use Rattle.std.specs.Fn.{Called, ComputesOnPairs}
use Rattle.std.specs.Array.{IsFromFnResult}
use Rattle.std.specs.List.{range_with_len, IsChunkByPrefix, prefix_len, starts_with}
use Rattle.std.proofs.lemmas.List.FromFn.{fill_by_all}
use Rattle.std.proofs.lemmas.List.Sums.{prefix_len-le-length, prefix_len_passes, prefix_len_stops}
use Rattle.std.proofs.lemmas.Bool.Decides.{nat_tests}
use Rattle.std.proofs.Math.Seq.{take-append_seam}
use Rattle.std.specs.Option.{unwrap_or}
use Rattle.std.specs.Slice.Iter.{chunk_by_steps, chunk_by_rest, chunk_by_callee}
use Rattle.std.specs.declared.slice.ChunkBy.{ChunkBy}
use denote.Param.Members.{Mut}
use Rattle.text.specs.Fields.{between, ascending, lawful_labels, longest}
use Rattle.text.proofs.Calls.{called_at}
use Rattle.text.proofs.Longest.{longest_is}
use Rattle.text.proofs.Ranges.{between_true, between_from}

-- after `-` nothing more is read
pub length_dash : (xs : List ℕ) → starts_with eqb xs (45 ∷ []) ≡ true → longest lawful_labels xs ≡ 1
length_dash [] t = absurd (cc)
length_dash (x ∷ xs) t =
    longest_is lawful_labels (x ∷ xs) 1 (omega arith) (inr (ap (λ z. lawful_labels (z ∷ [])) e)) longer
  where
    e : x ≡ 45
    e = grind (arith, nat_tests)

    longer : (k : ℕ) → 1 < k → k ≤ length (x ∷ xs) → lawful_labels (take k (x ∷ xs)) ≡ false
    longer zero a b = absurd (omega (arith, a))
    longer (suc k) a b =
        ap (λ z. lawful_labels (z ∷ take k xs)) e
        ∙ or_from (eqb (length (take k xs)) 0) false (ne_eqb (length (take k xs)) 0 (λ z. omega (arith, z, a, length-take-le k xs (omega (arith, b))))) refl

-- the first of ascending letters is at least `low`, and at most p; the others ascend from there
ascending_parts : (low c : ℕ) (cs : List ℕ) → ascending low (c ∷ cs) ≡ true → (low ≤ c) × (c ≤ 112) × (ascending (c + 1) cs ≡ true)
ascending_parts low c cs t =
    let p = and_parts (between low 112 c) (ascending (c + 1) cs) t in
    let b = between_true low 112 c p.0 in
    (b.0, b.1, p.1)

-- so is each of them
ascending_at : (low : ℕ) (xs : List ℕ) (i : ℕ) → ascending low xs ≡ true → i < length xs → (low ≤ get_or xs i 0) × (get_or xs i 0 ≤ 112)
ascending_at low [] i t l = absurd (omega (arith, l))
ascending_at low (c ∷ cs) zero t l = let p = ascending_parts low c cs t in (p.0, p.1)
ascending_at low (c ∷ cs) (suc i) t l =
    let p = ascending_parts low c cs t in
    let h = ascending_at (c + 1) cs i p.2 (omega (arith, l)) in
    (omega (arith, h.0, p.0), h.1)

-- of ascending letters each is below the next
ascending_step : (low : ℕ) (xs : List ℕ) (i : ℕ) → ascending low xs ≡ true → suc i < length xs → get_or xs i 0 < get_or xs (suc i) 0
ascending_step low [] i t l = absurd (omega arith)
ascending_step low (c ∷ cs) zero t l = omega (arith, (ascending_at (c + 1) cs 0 (ascending_parts low c cs t).2 (omega arith)).0)
ascending_step low (c ∷ cs) (suc i) t l = ascending_step (c + 1) cs i (ascending_parts low c cs t).2 (omega arith)

-- and letters up to p of which each is below the next ascend, from the first on
ascends : (low : ℕ) (xs : List ℕ) → (0 < length xs → low ≤ get_or xs 0 0) → ((k : ℕ) → k < length xs → get_or xs k 0 ≤ 112) → ((k : ℕ) → suc k < length xs → get_or xs k 0 < get_or xs (suc k) 0) → ascending low xs ≡ true
ascends low [] first small step = refl
ascends low (c ∷ cs) first small step =
    and_from (between low 112 c) _ (between_from low 112 c (first (omega arith)) (small 0 (omega arith)))
    (ascends (c + 1) cs (λ l. omega (arith, step 0 (omega arith))) (λ k l. small (suc k) (omega arith)) (λ k l. step (suc k) (omega arith)))

-- is it a letter from a to p?
abbrev pub letter : ℕ → Bool
letter c = between 97 112 c

-- the first n bytes ascend, and no more do
module _ (xs : List ℕ) (n : ℕ) (some : 0 < n) (within : n ≤ length xs) (run : IsChunkByPrefix ltb xs n) where
  -- how many of them are letters, up to the first that is none
  abbrev pub letters : ℕ
  letters = prefix_len letter (take n xs)

  short : length (take n xs) ≡ n
  short = length-take-le n xs within

  few : letters ≤ n
  few = omega (arith, prefix_len-le-length letter (take n xs), short)

  is_letter : (k : ℕ) → k < letters → (97 ≤ get_or xs k 0) × (get_or xs k 0 ≤ 112)
  is_letter k l =
      let t = between_true 97 112 (get_or (take n xs) k 0) (prefix_len_passes letter (take n xs) k 0 l) in
      let e = get_or-take n xs k 0 (omega (arith, l, few)) in
      (omega (arith, t.0, e), omega (arith, t.1, e))

  -- those letters ascend
  front : ascending 97 (take letters xs) ≡ true
  front =
      let long = length-take-le letters xs (omega (arith, few, within)) in
      let at = λ (k : ℕ) (l : k < letters). get_or-take letters xs k 0 l in
      ascends 97 (take letters xs)
      (λ l. omega (arith, at 0 (omega (arith, l, long)), (is_letter 0 (omega (arith, l, long))).0))
      (λ k l. omega (arith, at k (omega (arith, l, long)), (is_letter k (omega (arith, l, long))).1))
      (λ k l. omega (arith, at k (omega (arith, l, long)), at (suc k) (omega (arith, l, long)), ap (λ z. get_or xs z 0) (add-one k), ltb-true _ _ (run.0 k 0 (omega (arith, l, long, few)))))

  -- no longer beginning does: the byte after them is no letter, or not above the one before
  longer : (k : ℕ) → letters < k → k ≤ length xs → ascending 97 (take k xs) ≡ true → ⊥
  longer k a b t =
      let long = length-take-le k xs b in
      let e = get_or-take k xs letters 0 a in
      let here = ascending_at 97 (take k xs) letters t (omega (arith, a, long)) in
      ⊎_elim
      (λ h. no_letter (get_or (take n xs) letters 0) (prefix_len_stops letter (take n xs) 0 (omega (arith, h, short))) (omega (arith, here.0, e, get_or-take n xs letters 0 h)) (omega (arith, here.1, e, get_or-take n xs letters 0 h)))
      (λ h.
      let last : suc (n - 1) ≡ n = omega arith in
      let up = ascending_step 97 (take k xs) (n - 1) t (omega (arith, long, h, few, a)) in
      let down = ltb-false _ _ (run.1 (omega (arith, h, few, a, b)) 0) in
      omega (arith, up, down, ap (λ z. get_or (take k xs) z 0) last, get_or-take k xs (n - 1) 0 (omega (arith, h, a)), get_or-take k xs n 0 (omega (arith, h, few, a))))
      (cases_lt letters n)
    where
      no_letter : (c : ℕ) → letter c ≡ false → 97 ≤ c → c ≤ 112 → ⊥
      no_letter c f lo hi = grind (arith, nat_tests)

  -- so they are the longest beginning that does
  pub longest_letters : longest (ascending 97) xs ≡ letters
  longest_letters =
      longest_is (ascending 97) xs letters (omega (arith, few, within)) (inr front)
      (λ k a b. ⊎_elim (λ t. absurd (longer k a b t)) (λ f. f) (cases_Bool (ascending 97 (take k xs))))

-- the first run that `chunk_by` gives is of ascending bytes, so its letters are the longest beginning that ascends
pub run_letters : {F : Type 0} (g : Mut F (Bor ℕ × (Bor ℕ × Unit {0})) Bool) (s t : ChunkBy ℕ F) (r : Option (Bor (List ℕ))) (d : Bor (List ℕ)) → chunk_by_steps g s r t → ComputesOnPairs g ltb (chunk_by_callee s) → d.now ≡ [] → longest (ascending 97) (chunk_by_rest s) ≡ prefix_len letter (unwrap_or r d).now
run_letters g s t None d h by e = ap (longest (ascending 97)) (nil_from_length (chunk_by_rest s) h.0) ∙ ap (prefix_len letter) (sym e)
run_letters g s t (Some x) d h by e =
    longest_letters (chunk_by_rest s) (length x.now) h.1 (omega (arith, ap length h.0, length-append x.now (chunk_by_rest t))) (h.2 ltb by).1
    ∙ ap (prefix_len letter) (ap (take (length x.now)) h.0 ∙ take-append_seam x.now (chunk_by_rest t))

-- where each call of `array::from_fn` gives h of its number and leaves the closure as it is, the calls gave the list of h
pub from_calls : {F : Type 0} (g : Mut F (ℕ × Unit {0}) Bool) (f : F) (h : ℕ → Bool) → ((i : ℕ) (y : Bool) (q : F) → Called g f (i, tt) y q → (q ≡ f) × (y ≡ h i)) → (ys : List Bool) (n : ℕ) → IsFromFnResult g f ys n → ys ≡ map h (range_with_len 0 n)
from_calls g f h call ys n r = fill_by_all h ys n false r.long (λ k l. called_at g f (λ i y. y ≡ h i) call ys false 0 n r.each k (omega arith) (omega arith))
