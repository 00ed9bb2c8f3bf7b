-- A list whose elements are asked one after another, while what is made of those that passed is kept.
use Rattle.std.proofs.Common.{◌≡◌, ℕ, ◌<◌, Bool, true, false, cond, List, map, length, get_or, Some, None, Option, sym, ap, ◌∙◌}
use Rattle.std.proofs.lemmas.Bool.{cond-true, cond-false}
use Rattle.std.proofs.lemmas.List.Folds.{list_all_at}
use Rattle.std.specs.List.{list_all}

-- what does not pass makes nothing
none_made : {B : Type 0} (passes : Bool) (y : B) → None ≡ cond passes (Some y) None → passes ≡ false
none_made true y e = absurd (cc)
none_made false y e = λ i. false

module _ {A B : Type 0} (test : A → Bool) (make : A → B) where
  -- all of these have passed, and `made` is made of them
  pub record Passed (xs : List A) (made : List B) : Type 0 where
    pub lawful : list_all test xs ≡ true
    pub same : made ≡ map make xs

  -- one element does not pass: nothing is made of the list
  pub stopped : (all : List A) (i : ℕ) (x : A) → i < length all → x ≡ get_or all i x → None ≡ cond (test x) (Some (make x)) None → None ≡ cond (list_all test all) (Some (map make all)) None
  stopped all i x h e none = sym (cond-false (list_all test all) _ _ (list_all_at test all i x h (ap test (sym e) ∙ none_made (test x) (make x) none)))

  -- all have passed
  pub finished : (all xs : List A) (made : List B) → xs ≡ all → Passed xs made → Some made ≡ cond (list_all test all) (Some (map make all)) None
  finished all xs made e p = ap Some (p.same ∙ ap (map make) e) ∙ sym (cond-true (list_all test all) _ _ (sym (ap (list_all test) e) ∙ p.lawful))
