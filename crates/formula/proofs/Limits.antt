-- Just the formulas within the limits have no fault.
use Rattle.std.proofs.Common.{◌≡◌, ◌↔◌, ℕ, ◌+◌, Bool, true, false, ◌&&◌, leb, [], ◌∷◌, length, is_some, Some, None, Option, refl, ap}
use Rattle.std.proofs.lemmas.Bool.{and_parts, and_from, leb-true, le-leb}
use Rattle.std.specs.Option.{option_or}
use Rattle.text.specs.Refusals.{ask, first}
use Rattle.text.proofs.Asking.{ask_none}
use Rattle.theory.specs.Mixes.{whole}
use Rattle.theory.specs.Formulas.{Comparison, at_most, Formula, PathFormula, truth, label, negation, conjunction, probability, next, until_within, until, extremal, most_steps, LawfulFormula, LawfulPath}
use Rattle.grammar.specs.Spelling.{print_bound, print, Spelled, SpelledPath}
use Rattle.records.specs.declared.fault.FormulaFault.TheVariants as fault
use Rattle.formula.specs.Records.{size}
use Rattle.formula.specs.Questions.{first_large, path_first_large, unbounded, first_unbounded, path_first_unbounded, depth, placed, formula_fault}
use Rattle.formula.specs.Answers.{Within}

-- there is no first place just if there is none of two
or_none : (a b : Option ℕ) → option_or a b ≡ None → (a ≡ None) × (b ≡ None)
or_none None b e = (refl, e)
or_none (Some x) b e = absurd cc

-- there is none of two, if there is neither
none_or : (a b : Option ℕ) → a ≡ None → b ≡ None → option_or a b ≡ None
none_or a b p q = rw p q

-- a yes leaves no fault
none_ask : (b : Bool) (x : ℕ) → b ≡ true → ask b x ≡ None
none_ask b x e = ap (λ z. ask z x) e

-- what is some is some value
some_value : {X : Type 0} (x : Option X) → is_some x ≡ true → (o : X) × (x ≡ Some o)
some_value None e = absurd cc
some_value (Some o) e = (o, refl)

-- a formula that can be spelled is lawful, if no number of it is large and no until is unbounded
mutual
  lawful_from : (f : Formula) (at : ℕ) → Spelled f → first_large at f ≡ None → first_unbounded at f ≡ None → LawfulFormula f
  lawful_from truth at l p q = tt
  lawful_from (label i) at l p q = l
  lawful_from (negation f) at l p q = lawful_from f (at + 1) l p q
  lawful_from (conjunction f g) at l p q =
      let (p₁, p₂) = or_none _ _ p in
      let (q₁, q₂) = or_none _ _ q in
      (lawful_from f (at + 1) l.0 p₁ q₁, lawful_from g (at + 1 + length (print f) + 1) l.1 p₂ q₂)
  lawful_from (probability c b r) at l p q =
      let (p₁, p₂) = or_none _ _ p in
      let (q₁, q₂) = or_none _ _ q in
      (leb-true b whole (ask_none (leb b whole) _ p₁), lawful_path_from c b r at (at + 1 + length (print_bound c b) + 1) l.1 p₂ q₁ q₂)

  -- so is a path formula
  lawful_path_from : (c : Comparison) (b : ℕ) (r : PathFormula) (at from : ℕ) → SpelledPath r → path_first_large from r ≡ None → unbounded c b r at ≡ None → path_first_unbounded from r ≡ None → LawfulPath c b r
  lawful_path_from c b (next f) at from l p u q = lawful_from f (from + 1) l p q
  lawful_path_from c b (until_within k f g) at from l p u q =
      let (p₁, p₂) = or_none (first_large from f) _ p in
      let (p₃, p₄) = or_none (ask (leb k most_steps) _) _ p₂ in
      let (q₁, q₂) = or_none (first_unbounded from f) _ q in
      (leb-true k most_steps (ask_none (leb k most_steps) _ p₃), lawful_from f from l.1 p₁ q₁, lawful_from g (from + length (print f) + 1 + length (print_bound at_most k)) l.2 p₄ q₂)
  lawful_path_from c b (until f g) at from l p u q =
      let (p₁, p₂) = or_none (first_large from f) _ p in
      let (q₁, q₂) = or_none (first_unbounded from f) _ q in
      (some_value (extremal c b) (ask_none (is_some (extremal c b)) at u), lawful_from f from l.0 p₁ q₁, lawful_from g (from + length (print f) + 1) l.1 p₂ q₂)

-- no number of a lawful formula is large
mutual
  none_large : (f : Formula) (at : ℕ) → LawfulFormula f → first_large at f ≡ None
  none_large truth at l = refl
  none_large (label i) at l = refl
  none_large (negation f) at l = none_large f (at + 1) l
  none_large (conjunction f g) at l = none_or _ _ (none_large f (at + 1) l.0) (none_large g (at + 1 + length (print f) + 1) l.1)
  none_large (probability c b r) at l = none_or _ _ (none_ask (leb b whole) _ (le-leb b whole l.0)) (none_large_path c b r (at + 1 + length (print_bound c b) + 1) l.1)

  -- nor is one of a path formula
  none_large_path : (c : Comparison) (b : ℕ) (r : PathFormula) (at : ℕ) → LawfulPath c b r → path_first_large at r ≡ None
  none_large_path c b (next f) at l = none_large f (at + 1) l
  none_large_path c b (until_within k f g) at l = none_or _ _ (none_large f at l.1) (none_or _ _ (none_ask (leb k most_steps) _ (le-leb k most_steps l.0)) (none_large g (at + length (print f) + 1 + length (print_bound at_most k)) l.2))
  none_large_path c b (until f g) at l = none_or _ _ (none_large f at l.1) (none_large g (at + length (print f) + 1) l.2)

-- and no until is unbounded
mutual
  none_unbounded : (f : Formula) (at : ℕ) → LawfulFormula f → first_unbounded at f ≡ None
  none_unbounded truth at l = refl
  none_unbounded (label i) at l = refl
  none_unbounded (negation f) at l = none_unbounded f (at + 1) l
  none_unbounded (conjunction f g) at l = none_or _ _ (none_unbounded f (at + 1) l.0) (none_unbounded g (at + 1 + length (print f) + 1) l.1)
  none_unbounded (probability c b r) at l = let (p, q) = none_unbounded_path c b r at (at + 1 + length (print_bound c b) + 1) l.1 in none_or _ _ p q

  -- nor is one of a path formula
  none_unbounded_path : (c : Comparison) (b : ℕ) (r : PathFormula) (at from : ℕ) → LawfulPath c b r → (unbounded c b r at ≡ None) × (path_first_unbounded from r ≡ None)
  none_unbounded_path c b (next f) at from l = (refl, none_unbounded f (from + 1) l)
  none_unbounded_path c b (until_within k f g) at from l = (refl, none_or _ _ (none_unbounded f from l.1) (none_unbounded g (from + length (print f) + 1 + length (print_bound at_most k)) l.2))
  none_unbounded_path c b (until f g) at from l =
      (none_ask (is_some (extremal c b)) at (ap is_some l.0.1), none_or _ _ (none_unbounded f from l.1) (none_unbounded g (from + length (print f) + 1) l.2))

-- each question is answered yes
record Clear (large : Option ℕ) (deep room : Bool) (unbounded : Option ℕ) : Type 0 where
  small : large ≡ None
  shallow : deep ≡ true
  enough : room ≡ true
  bounded : unbounded ≡ None

-- where there is no fault, each answer is yes
clear : (large : Option ℕ) (deep room : Bool) (unb : Option ℕ) → first (placed fault.Number large ∷ ask deep fault.Depth ∷ ask room fault.Records ∷ placed fault.Until unb ∷ []) ≡ None → Clear large deep room unb
clear None true true None e = record { small = refl; shallow = refl; enough = refl; bounded = refl }
clear None true true (Some p) e = absurd cc
clear None true false u e = absurd cc
clear None false b u e = absurd cc
clear (Some p) a b u e = absurd cc

-- where each answer is yes, there is no fault
cleared : (large : Option ℕ) (deep room : Bool) (unb : Option ℕ) → Clear large deep room unb → first (placed fault.Number large ∷ ask deep fault.Depth ∷ ask room fault.Records ∷ placed fault.Until unb ∷ []) ≡ None
cleared large deep room unb c = rw (c.small, c.shallow, c.enough, c.bounded) refl

-- just the formulas within the limits have no fault
pub limits : (lent : ℕ) (f : Formula) → Spelled f → (formula_fault lent f ≡ None) ↔ Within lent f
limits lent f l = (into, from)
  where
    into : formula_fault lent f ≡ None → Within lent f
    into e =
        let c = clear (first_large 0 f) (leb (depth f) 32) (leb (size f) 64 && leb (size f) lent) (first_unbounded 0 f) e in
        let r = and_parts (leb (size f) 64) (leb (size f) lent) c.enough in
        record { lawful = lawful_from f 0 l c.small c.bounded; shallow = leb-true (depth f) 32 c.shallow; few = leb-true (size f) 64 r.0; room = leb-true (size f) lent r.1 }

    from : Within lent f → formula_fault lent f ≡ None
    from w = cleared (first_large 0 f) (leb (depth f) 32) (leb (size f) 64 && leb (size f) lent) (first_unbounded 0 f) (record {
      small = none_large f 0 w.lawful;
      shallow = le-leb (depth f) 32 w.shallow;
      enough = and_from (leb (size f) 64) (leb (size f) lent) (le-leb (size f) 64 w.few) (le-leb (size f) lent w.room);
      bounded = none_unbounded f 0 w.lawful;
    })
