-- The ends that are told of a state, in units.
use Rattle.std.proofs.Common.{◌≡◌, ℕ, ◌<◌, ltb, Some, None, Option, ap, ◌∙◌, arith}
use Rattle.std.proofs.lemmas.Bool.{cond-true, lt-ltb}
use Rattle.std.specs.Option.{option_map}
use Rattle.std.specs.Prelude.{slice_index_or}
use Rattle.rules.specs.declared.part.Part.{Part}
use Rattle.rules.specs.Parts.{part_of, units_of}
use Rattle.trial.specs.declared.two_ends.Ends.{Ends}
use Rattle.theory.specs.Found.{TwoEnds}
use Rattle.trial.specs.PathEnds.{EndsAre, Told, ends_at}
use Rattle.limits_text.specs.Tables.{units_at}

-- both ends in units
abbrev pub both : Option (Part × Part) → Option (ℕ × ℕ)
both found = option_map (λ p. (units_of p.0, units_of p.1)) found

-- the ends that are found at a state are those that are told there
pub units_found : (n : ℕ) (two : Option TwoEnds) (e : Ends) (s : ℕ) (found : Option (Part × Part)) → Told n two (Some e) → s < n → ((k : ℕ) (lo hi : ℕ → ℕ) → EndsAre k lo hi e → found ≡ ends_at k lo hi s) → both found ≡ units_at two s
units_found n None e s found told h at = absurd told
units_found n (Some x) e s found told h at =
    let low : units_of (slice_index_or e.lower.values s (part_of 0)) ≡ x.0 s = told.lower (part_of 0) s h in
    let high : units_of (slice_index_or e.upper.values s (part_of 0)) ≡ x.1 s = told.upper (part_of 0) s h in
    let low_part = (slice_index_or e.lower.values s (part_of 0)).within in
    let high_part = (slice_index_or e.upper.values s (part_of 0)).within in
    let first : units_of (part_of (x.0 s)) ≡ x.0 s = omega arith in
    let second : units_of (part_of (x.1 s)) ≡ x.1 s = omega arith in
    ap both (at n x.0 x.1 told ∙ cond-true (ltb s n) _ None (lt-ltb s n h)) ∙ ap (λ k. Some (k, units_of (part_of (x.1 s)))) first ∙ ap (λ k. Some (x.0 s, k)) second
