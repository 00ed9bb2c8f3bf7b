-- Parts: a part is given by its units, and a mix of parts by the mix of their units.
use Rattle.std.specs.Prelude.{◌≡◌, ℕ, ◌+◌, ◌-◌, ◌*◌, ◌/◌, ◌<◌, ◌≤◌, List, [], ◌∷◌, refl}
use Rattle.std.proofs.Common.{ap, subst, mul-le-mul_left, mul-add, arith}
use Rattle.std.proofs.Math.Bridge.{le_prop}
use Rattle.std.proofs.lemmas.Nat.{div_below}
use Rattle.model.specs.Mdp.{Mdp, Lawful}
use Rattle.theory.specs.Rules.{RuleLaws, LawfulMix, total_weight}
use Rattle.theory.specs.Rounds.{rounds}
use Rattle.theory.specs.Mixes.{whole, sum_of}
use Rattle.theory.proofs.RuleLaws.{down_greater, down_lesser, up_greater, up_lesser}
use Rattle.rules.specs.declared.part.Part.{Part}
use Rattle.rules.specs.declared.rounding.Rounding.{Rounding}
use Rattle.rules.specs.declared.rounding.Rounding.TheVariants.{Down, Up}
use Rattle.rules.specs.declared.preference.Preference.{Preference}
use Rattle.rules.specs.declared.preference.Preference.TheVariants.{Greater, Lesser}
use Rattle.rules.specs.Values.{carried}
use Rattle.rules.specs.Parts.{units_of, prefers_number, prefers_part, mix_rounded, in_parts}
use Rattle.rules.specs.Carried.{carried_laws, rounds_carried}

-- a part of n units, with the proof that n is at most the whole
make : (n : ℕ) → n ≤ whole → Part
make n h = record { units = n; within = h }

-- two such parts of the same number of units are the same
make_same : (m n : ℕ) (h : m ≤ whole) (k : n ≤ whole) → m ≡ n → make m h ≡ make n k
make_same m n h k e = subst (λ (j : ℕ). (l : j ≤ whole) → make m h ≡ make j l) e (λ l. ap (make m) (le_prop h l)) k

-- parts with the same units are the same part
pub part_same : (a b : Part) → units_of a ≡ units_of b → a ≡ b
unfolding make
part_same a b e = make_same a.units b.units a.within b.within e

-- no weighted sum of the parts that values have is above the weights times the whole
pub sum_bound : {V : Type 0} (f : V → Part) (ps : List (ℕ × V)) → sum_of (carried (λ v. units_of (f v)) ps) ≤ whole * total_weight ps
sum_bound f [] = omega arith
sum_bound f (p ∷ ps) =
    let rest = sum_bound f ps in
    let one = mul-le-mul_left p.0 (f p.1).within in
    omega (arith, mul-add whole p.0 (total_weight ps))

-- a quotient of a sum that is small enough is at most the whole
pub quotient_bound : (d n : ℕ) → 1 ≤ d → n < (whole + 1) * d → n / d ≤ whole
quotient_bound d n h k = omega (arith, div_below n d (whole + 1) h (omega arith))

-- a mix of numbers that stays within the whole for parts
abbrev Bounded : (ℕ → List (ℕ × ℕ) → ℕ) → Type 0
Bounded mix = (d : ℕ) (ps : List (ℕ × Part)) → LawfulMix d ps → mix d (carried units_of ps) ≤ whole

-- rounded down or up it does
rounded_bounded : (r : Rounding) → Bounded (mix_rounded r)
rounded_bounded Down d ps l =
    let some = l.some_unit in
    quotient_bound d (sum_of (carried units_of ps)) some (omega (arith, sum_bound (λ p. p) ps, ap (λ n. whole * n) l.sums))
rounded_bounded Up d ps l =
    let some = l.some_unit in
    quotient_bound d (sum_of (carried units_of ps) + (d - 1)) some (omega (arith, sum_bound (λ p. p) ps, ap (λ n. whole * n) l.sums))

module _ (mix : ℕ → List (ℕ × ℕ) → ℕ) (bounded : Bounded mix) (laws : (p : Preference) → RuleLaws (prefers_number p) mix) (p : Preference) where
  -- the units of a mix of parts are the mix of their units
  units_mixed : (d : ℕ) (ps : List (ℕ × Part)) → LawfulMix d ps → units_of (in_parts mix d ps) ≡ mix d (carried units_of ps)
  units_mixed d ps l = omega (arith, bounded d ps l)

  -- a rule of numbers that stays within the whole is a rule of parts
  parts_laws : RuleLaws (prefers_part p) (in_parts mix)
  parts_laws = carried_laws units_of (prefers_part p) (in_parts mix) (prefers_number p) mix (λ a b. refl) units_mixed (laws p) part_same

  -- and rounds of parts are rounds of their units
  bounded_rounds : (m : Mdp) → Lawful m → (v : ℕ → Part) (k s : ℕ) → s < m.states →
      units_of (rounds (prefers_part p) (in_parts mix) k m v s) ≡ rounds (prefers_number p) mix k m (λ t. units_of (v t)) s
  bounded_rounds = rounds_carried units_of (prefers_part p) (in_parts mix) (prefers_number p) mix (λ a b. refl) units_mixed (laws p)

-- numbers are a rule with either rounding and either preference
pub numbers_lawful : (r : Rounding) (p : Preference) → RuleLaws (prefers_number p) (mix_rounded r)
numbers_lawful Down Greater = down_greater
numbers_lawful Down Lesser = down_lesser
numbers_lawful Up Greater = up_greater
numbers_lawful Up Lesser = up_lesser

-- parts keep the laws
pub parts_lawful : (r : Rounding) (p : Preference) → RuleLaws (prefers_part p) (in_parts (mix_rounded r))
parts_lawful r = parts_laws (mix_rounded r) (rounded_bounded r) (numbers_lawful r)

-- rounds of parts are the theory's rounds of their units
pub parts_rounds : (r : Rounding) (p : Preference) (m : Mdp) → Lawful m → (v : ℕ → Part) (k s : ℕ) → s < m.states →
    units_of (rounds (prefers_part p) (in_parts (mix_rounded r)) k m v s) ≡ rounds (prefers_number p) (mix_rounded r) k m (λ t. units_of (v t)) s
parts_rounds r = bounded_rounds (mix_rounded r) (rounded_bounded r) (numbers_lawful r)
