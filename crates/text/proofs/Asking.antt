-- What a question and a check leave.
use Rattle.std.proofs.Common.{◌≡◌, Bool, true, false, cond, None, Ok, Err, Result, refl}
use Rattle.text.specs.Refusals.{ask}

-- a question that gives no fault is answered by yes
pub ask_none : {F : Type 0} (answer : Bool) (fault : F) → ask answer fault ≡ None → answer ≡ true
ask_none true fault e = refl
ask_none false fault e = absurd cc

-- what a check lets through has passed it, and is what the check gives
pub checked : {A E : Type 0} (passes : Bool) (x y : A) (r : Result A E) (e : E) → r ≡ cond passes (Ok y) (Err e) → r ≡ Ok x → (passes ≡ true) × (x ≡ y)
checked true x y r e is ok = (refl, cc)
checked false x y r e is ok = absurd cc
