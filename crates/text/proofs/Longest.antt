-- The longest beginning of a list that passes a test.
use Rattle.std.proofs.Common.{◌≡◌, ℕ, zero, suc, ◌<◌, ◌≤◌, Bool, true, false, ◌⊎◌, List, length, take, sym, refl, ap, ◌∙◌, inl, inr, ⊎_elim, arith}
use Rattle.std.proofs.lemmas.List.{take_all, length-take-le}
use Rattle.std.proofs.lemmas.Bool.{cond-true, cond-false, cond_both, cases_lt}
use Rattle.text.specs.Fields.{longest_within, longest}

module _ (test : List ℕ → Bool) (xs : List ℕ) where
  -- among the beginnings of at most m elements, that of n is the longest that passes, if it passes and no longer one does
  within_is : (n m : ℕ) → n ≤ m → (n ≡ 0) ⊎ (test (take n xs) ≡ true) → ((k : ℕ) → n < k → k ≤ m → test (take k xs) ≡ false) → longest_within test xs m ≡ n
  within_is n zero l passes fails = let e : 0 ≡ n = omega arith in e
  within_is n (suc m) l passes fails =
      ⊎_elim
      (λ h. cond-false (test (take (suc m) xs)) _ _ (fails (suc m) h (omega arith)) ∙ within_is n m (omega (arith, h)) passes (λ k a b. fails k a (omega (arith, b))))
      (λ h.
      let e : n ≡ suc m = omega (arith, h) in
      cond-true (test (take (suc m) xs)) _ _ (⊎_elim (λ z. absurd (omega (arith, z, e))) (λ t. ap (λ z. test (take z xs)) (sym e) ∙ t) passes) ∙ sym e)
      (cases_lt n (suc m))

  -- the longest beginning that passes has n elements, if that one passes and no longer one does
  pub longest_is : (n : ℕ) → n ≤ length xs → (n ≡ 0) ⊎ (test (take n xs) ≡ true) → ((k : ℕ) → n < k → k ≤ length xs → test (take k xs) ≡ false) → longest test xs ≡ n
  longest_is n l passes fails = within_is n (length xs) l passes fails

  -- none of at most m elements that passes is longer
  within_most : (k m : ℕ) → k ≤ m → test (take k xs) ≡ true → k ≤ longest_within test xs m
  within_most k zero l t = l
  within_most k (suc m) l t =
      cond_both (test (take (suc m) xs)) _ _ (λ z. k ≤ z) (λ _. l)
      (λ f. within_most k m (⊎_elim (λ h. omega (arith, h)) (λ h. let e : k ≡ suc m = omega (arith, h) in let p = ap (λ z. test (take z xs)) e in absurd (cc)) (cases_lt k (suc m))) t)

  -- none that passes is longer
  pub longest_most : (k : ℕ) → k ≤ length xs → test (take k xs) ≡ true → k ≤ longest test xs
  longest_most k l t = within_most k (length xs) l t

  -- the longest beginning of at most m elements that passes does pass, or there is none
  within_passes : (m : ℕ) → (longest_within test xs m ≡ 0) ⊎ (test (take (longest_within test xs m) xs) ≡ true)
  within_passes zero = inl refl
  within_passes (suc m) = cond_both (test (take (suc m) xs)) _ _ (λ z. (z ≡ 0) ⊎ (test (take z xs) ≡ true)) (λ t. inr t) (λ _. within_passes m)

  -- the longest beginning that passes does pass, or there is none
  pub longest_passes : (longest test xs ≡ 0) ⊎ (test (take (longest test xs) xs) ≡ true)
  longest_passes = within_passes (length xs)

  -- it has no more elements than so many
  within_few : (m : ℕ) → longest_within test xs m ≤ m
  within_few zero = omega arith
  within_few (suc m) = cond_both (test (take (suc m) xs)) _ _ (λ z. z ≤ suc m) (λ _. omega arith) (λ _. omega (arith, within_few m))

  -- it is within the list
  pub longest_within_list : longest test xs ≤ length xs
  longest_within_list = within_few (length xs)

  -- the whole passes, if the longest beginning that does is all of it
  pub whole_passes : 0 < longest test xs → length xs ≤ longest test xs → test xs ≡ true
  whole_passes some all =
      ⊎_elim (λ z. absurd (omega (arith, z))) (λ t. ap test (sym (take_all (longest test xs) xs all)) ∙ t) longest_passes

  -- it passes, unless it is empty
  pub longest_front : (n : ℕ) → n ≡ longest test xs → 0 < length (take n xs) → test (take n xs) ≡ true
  longest_front n e some =
      ⊎_elim (λ z. absurd (omega (arith, z, e, some, length-take-le n xs (omega (arith, e, longest_within_list))))) (λ t. ap (λ k. test (take k xs)) e ∙ t) longest_passes
