-- A list that is copied over the front of another, element by element or as a whole.
use Rattle.std.proofs.Common.{◌≡◌, ℕ, ◌+◌, ◌<◌, ◌≤◌, List, ◌++◌, length, min, get_or, take, drop, set, ap, ◌∙◌, zero-add, arith}
use Rattle.std.proofs.Math.Seq.{take-append_seam, drop-append_seam}
use Rattle.std.proofs.lemmas.List.{take_all, length-take}
use Rattle.std.proofs.lemmas.List.Edits.{paste_more}
use Rattle.model.specs.Mdp.{over}

-- one element more is copied
pub copy_more : {X : Type 0} (xs new ys : List X) (i : ℕ) (d v : X) → i < length new → i < length xs → ys ≡ take i new ++ drop i xs → v ≡ get_or new i d → set ys i v ≡ take (i + 1) new ++ drop (i + 1) xs
copy_more xs new ys i d v h k e f = rw (e, f) (simp zero-add at (paste_more xs 0 new i d (omega arith) h))

-- a list that fits over the front of another
module _ {A : Type 0} (xs under : List A) (fits : length xs ≤ length under) where
  -- stands there whole, and the rest behind it
  pub over_front : over xs under ≡ xs ++ drop (length xs) under
  over_front = ap (λ ys. ys ++ drop (length xs) under) (take_all (length under) xs fits)

  -- is taken from there again
  pub take_over : (n : ℕ) → n ≡ length xs → take n (over xs under) ≡ xs
  take_over n e = rw e (ap (take (length xs)) over_front ∙ take-append_seam xs (drop (length xs) under))

  -- and has the rest behind it
  pub drop_over : (n : ℕ) → n ≡ length xs → drop n (over xs under) ≡ drop n under
  drop_over n e = rw e (ap (drop (length xs)) over_front ∙ drop-append_seam xs (drop (length xs) under))

-- as much of a list as another has room for stands at its front
pub front_over : {X : Type 0} (new xs : List X) (n : ℕ) → n ≡ min (length new) (length xs) → take n (over new xs) ≡ take (length xs) new
front_over new xs n e =
    let all : n ≡ length (take (length xs) new) = simp length-take (omega arith) in
    ap (λ k. take k (over new xs)) all ∙ take-append_seam (take (length xs) new) (drop (length new) xs)
