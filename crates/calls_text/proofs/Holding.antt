-- The states of a list are held one after another.
use Rattle.std.proofs.Common.{◌≡◌, ℕ, ◌+◌, ◌<◌, ltb, cond, Bool, List, [], ◌∷◌, ◌++◌, length, get_or, take, Ok, Err, Result, sym, refl, ap, ◌∙◌, arith}
use Rattle.std.proofs.lemmas.Bool.{cond-true, cond-false, lt-ltb, le-ltb}
use Rattle.std.proofs.lemmas.List.{take_more}
use Rattle.model.specs.Mdp.{Mdp}
use Rattle.layers.specs.declared.fault.HoldFault.{HoldFault}
use Rattle.layers.specs.Holds.{held, held_model}
use Rattle.layers.specs.HoldAnswers.{Ran}
use Rattle.calls_text.specs.Holdings.{all_held, HoldsFront}

-- the states of two lists in a row are held one list after the other
all_held-append : (xs ys : List ℕ) (m : Mdp) → all_held (xs ++ ys) m ≡ all_held ys (all_held xs m)
all_held-append [] ys m = refl
all_held-append (x ∷ xs) ys m = all_held-append xs ys (cond (ltb x m.states) (held x m) m)

-- a layer that has answered holds the state, if there is such a state
one_held : (m : Mdp) (s : ℕ) (before after : List Bool) (r : Result (Unit {0}) HoldFault) → Ran m s before after r → held_model m after ≡ all_held (s ∷ []) (held_model m before)
one_held m s before after (Ok u) ran = ran.model ∙ sym (cond-true (ltb s m.states) (held s (held_model m before)) (held_model m before) (lt-ltb s m.states ran.there))
one_held m s before after (Err e) ran = ap (held_model m) ran.flags ∙ sym (cond-false (ltb s m.states) (held s (held_model m before)) (held_model m before) (le-ltb s m.states ran.past))

module _ (m first : Mdp) (states : List ℕ) (i : ℕ) (there : i < length states) (before after : List Bool) (r : Result (Unit {0}) HoldFault) where
  -- a layer that holds the first i states of a list, and has answered at the next, holds those and that
  pub one_more_held : held_model m before ≡ all_held (take i states) first → Ran m (get_or states i 0) before after r → held_model m after ≡ all_held (take (i + 1) states) first
  one_more_held held_so_far ran =
      one_held m (get_or states i 0) before after r ran
      ∙ ap (all_held (get_or states i 0 ∷ [])) held_so_far
      ∙ sym (all_held-append (take i states) (get_or states i 0 ∷ []) first)
      ∙ ap (λ xs. all_held xs first) (sym (take_more states i 0 there))

  -- so it holds the states of a beginning of the list
  pub front_held : held_model m before ≡ all_held (take i states) first → Ran m (get_or states i 0) before after r → HoldsFront first (held_model m after) states
  front_held held_so_far ran = record { number = i + 1; within = omega arith; model = one_more_held held_so_far ran }
