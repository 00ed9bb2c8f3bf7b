-- A list laid out as text, element by element.
use Rattle.std.proofs.Common.{◌≡◌, ℕ, ◌+◌, ◌<◌, ◌≤◌, List, ◌++◌, map, length, get_or, drop, sym, ap, ◌∙◌, append_assoc, append-nil, arith}
use Rattle.std.specs.List.{range_with_len}
use Rattle.std.proofs.lemmas.List.{at_drop_more, at_drop_all}
use Rattle.std.proofs.lemmas.List.FromFn.{get_or-map-range_with_len, length-map-range_with_len}
use Rattle.printing.specs.Layouts.{laid}

module _ {A : Type 0} (text : ℕ → A → List ℕ) (start : List ℕ) where
  -- `out` and what is left from number i on are `start` and all of the list
  abbrev pub Left : List A → List ℕ → ℕ → Type 0
  Left xs out i = out ++ laid text i (drop i xs) ≡ start ++ laid text 0 xs

  -- one element more is laid out
  pub left_more : (xs : List A) (out new : List ℕ) (i : ℕ) (d : A) → i < length xs → new ≡ out ++ text i (get_or xs i d) → Left xs out i → Left xs new (i + 1)
  left_more xs out new i d h e left =
      let rest = laid text (i + 1) (drop (i + 1) xs) in
      ap (λ t. t ++ rest) e ∙ append_assoc out (text i (get_or xs i d)) rest ∙ sym (ap (λ t. out ++ t) (at_drop_more (laid text i) xs i d h)) ∙ left

  -- the same of a list that a function of the number makes
  pub left_made : (f : ℕ → A) (n : ℕ) (out new : List ℕ) (i : ℕ) → i < n → new ≡ out ++ text i (f i) → Left (map f (range_with_len 0 n)) out i → Left (map f (range_with_len 0 n)) new (i + 1)
  left_made f n out new i h e left =
      let at = get_or-map-range_with_len f 0 n i i (f i) h (omega arith) in
      let long = length-map-range_with_len f 0 n in
      left_more (map f (range_with_len 0 n)) out new i (f i) (omega arith) (e ∙ ap (λ x. out ++ text i x) (sym at)) left

  -- nothing is left at the end
  pub left_none : (xs : List A) (out : List ℕ) (i : ℕ) → length xs ≤ i → Left xs out i → out ≡ start ++ laid text 0 xs
  left_none xs out i h left = sym (ap (λ t. out ++ t) (at_drop_all (laid text i) xs i h) ∙ append-nil out) ∙ left
