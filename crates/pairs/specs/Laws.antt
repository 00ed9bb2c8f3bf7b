-- Pairs keep the laws of a rule.
use Rattle.std.specs.Prelude.{◌≡◌, ℕ, true, ◌⊎◌, List, [], ◌∷◌, ◌++◌}
use Rattle.std.proofs.Common.{inl, inr, arith}
use Rattle.std.proofs.lemmas.Bool.{cond-true, cond-false, cases_Bool, both_ways}
use Rattle.theory.specs.Rules.{RuleLaws}
use Rattle.pairs.specs.Pairs.{at_least, lesser_of, greatest, least_from, least}

-- a pair is at least itself
reflexive : (a : ℕ × ℕ) → at_least a a ≡ true
reflexive a = grind arith

-- of two pairs one is at least the other
complete : (a b : ℕ × ℕ) → (at_least a b ≡ true) ⊎ (at_least b a ≡ true)
complete a b = grind arith

-- at least is transitive
transitive : (a b c : ℕ × ℕ) → at_least a b ≡ true → at_least b c ≡ true → at_least a c ≡ true
transitive a b c p q = grind arith

-- pairs that are at least each other are the same
antisymmetric : (a b : ℕ × ℕ) → at_least a b ≡ true → at_least b a ≡ true → a ≡ b
antisymmetric a b p q = grind arith

-- of two pairs that are at least two others, the lesser is at least the lesser of those
lesser_keeps : (a b c d : ℕ × ℕ) → at_least a b ≡ true → at_least c d ≡ true → at_least (lesser_of a c) (lesser_of b d) ≡ true
lesser_keeps a b c d p q = elim (cases_Bool (at_least a c)) [
  | inl e ↦ rw (cond-true (at_least a c) c a e) (elim (cases_Bool (at_least b d)) [
    | inl f ↦ rw (cond-true (at_least b d) d b f) q
    | inr f ↦ rw (cond-false (at_least b d) d b f) (elim (complete b d) [ inl h ↦ absurd (both_ways (at_least b d) f h) | inr h ↦ transitive c d b q h ])
  ])
  | inr e ↦ rw (cond-false (at_least a c) c a e) (elim (cases_Bool (at_least b d)) [
    | inl f ↦ rw (cond-true (at_least b d) d b f) (transitive a b d p f)
    | inr f ↦ rw (cond-false (at_least b d) d b f) p
  ])
]

-- a greater start makes the least of a row no lesser
from_keeps : (x y : ℕ × ℕ) (ps : List (ℕ × (ℕ × ℕ))) → at_least x y ≡ true → at_least (least_from x ps) (least_from y ps) ≡ true
from_keeps x y [] e = e
from_keeps x y (p ∷ ps) e = from_keeps (lesser_of x p.1) (lesser_of y p.1) ps (lesser_keeps x y p.1 p.1 e (reflexive p.1))

-- nor does a greater pair in one place
least_keeps : (s : ℕ × ℕ) (before after : List (ℕ × (ℕ × ℕ))) (w : ℕ) (x y : ℕ × ℕ) → at_least x y ≡ true →
    at_least (least_from s (before ++ ((w, x) ∷ after))) (least_from s (before ++ ((w, y) ∷ after))) ≡ true
least_keeps s [] after w x y e = from_keeps (lesser_of s x) (lesser_of s y) after (lesser_keeps s s x y (reflexive s) e)
least_keeps s (p ∷ ps) after w x y e = least_keeps (lesser_of s p.1) ps after w x y e

-- pairs with the least of a row are a rule
pub pairs_lawful : RuleLaws at_least least
pairs_lawful = record {
  reflexive = reflexive;
  transitive = transitive;
  antisymmetric = antisymmetric;
  complete = complete;
  monotone = λ d before after w x y l e. least_keeps greatest before after w x y e;
}
