-- What the calls of `array::from_fn` gave.
use Rattle.std.proofs.Common.{◌≡◌, ℕ, ◌+◌, ◌<◌, ◌≤◌, zero, suc, List, get_or, sym, subst, ⊎_elim, arith}
use Rattle.std.proofs.lemmas.Bool.{cases_eq}
use Rattle.std.specs.Fn.{Called}
use Rattle.std.specs.Array.{IsFromFnResultFrom}
use denote.Param.Members.{Mut}

-- where each call leaves the closure as it is, and R holds of its number and what it gave, R holds of each value that calls from i on gave
pub called_at : {F B : Type 0} (g : Mut F (ℕ × Unit {0}) B) (f : F) (R : ℕ → B → Type 0) → ((i : ℕ) (y : B) (q : F) → Called g f (i, tt) y q → (q ≡ f) × R i y) →
    (ys : List B) (d : B) (i n : ℕ) → IsFromFnResultFrom g f ys i n → (k : ℕ) → i ≤ k → k < i + n → R k (get_or ys k d)
called_at g f R call ys d i zero r k lo hi = absurd (omega arith)
called_at g f R call ys d i (suc n) (q, y, at, now, later) k lo hi =
    let same = call i y q now in
    ⊎_elim
    (λ e. subst (λ j. R j (get_or ys j d)) e (subst (R i) (sym (at.1 d)) same.1))
    (λ e. called_at g f R call ys d (i + 1) n (subst (λ z. IsFromFnResultFrom g z ys (i + 1) n) same.0 later) k (omega (arith, e, lo)) (omega (arith, hi)))
    (cases_eq i k)
