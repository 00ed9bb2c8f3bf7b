use Rattle.std.proofs.Common.{◌≡◌, ℕ, List, Bool, cond, map, get_or, ap, ◌∙◌, inl, inr, refl}
use Rattle.std.proofs.Math.ListN.{get_or-map}
use Rattle.std.proofs.lemmas.Bool.{cases_Bool}
use Rattle.theory.specs.Mixes.{whole}
use Rattle.rules.specs.declared.part.Part.{Part}
use Rattle.rules.specs.Parts.{part_of}
use Rattle.rounds.specs.declared.interval.Interval.{Interval}
use Rattle.rounds.specs.Ends.{lower_of, upper_of, point}
use Rattle.trial.specs.Queries.{marked}
use Rattle.trial.specs.Rows.{start_part}
use Rattle.trial.proofs.ends.start_ends.Goals as goal

-- where a value is the whole twice in a set and nothing twice elsewhere, each of its ends has the parts of the start
started : (f : Interval → Part) → ((d : Part) → f (point d) ≡ d) → (set : ℕ → Bool) (s : ℕ) (all none : Part) → all ≡ part_of whole → none ≡ part_of 0 → (values : List Interval) (d : Part) →
    get_or values s (point d) ≡ cond (set s) (point all) (point none) → get_or (map f values) s d ≡ start_part set s
started f alike set s all none a n values d e =
    let mapped = rw (alike d) at (get_or-map f values s (point d)) in
    mapped ∙ ap f e ∙ elim (cases_Bool (set s)) [ inl t ↦ rw t (alike all ∙ a) | inr t ↦ rw t (alike none ∙ n) ]

pub returns-clause-lower : goal.returns-clause-lower
returns-clause-lower c d s h = started lower_of (λ x. refl) (marked c.args.right.now) s _ _ c.part-whole.ensures c.part-nothing.ensures c.start_values.result.values d (c.start_values.ensures (point d) s h)

pub returns-clause-upper : goal.returns-clause-upper
returns-clause-upper c d s h = started upper_of (λ x. refl) (marked c.args.right.now) s _ _ c.part-whole.ensures c.part-nothing.ensures c.start_values.result.values d (c.start_values.ensures (point d) s h)
