use Rattle.std.proofs.Common.{◌≡◌, ℕ, ◌+◌, ◌*◌, ◌<◌, ◌≤◌, List, length, get_or, drop, sym, ap, ◌∙◌, arith, rules}
use Rattle.std.proofs.lemmas.List.{at_drop_all, get_or_default}
use Rattle.model.specs.Mdp.{Row, LawfulRow, no_branch}
use Rattle.theory.specs.Mixes.{whole}
use Rattle.rules.specs.declared.part.Part.{Part}
use Rattle.rules.specs.Parts.{units_of, part_of}
use Rattle.rules.proofs.Rows.{row_target}
use Rattle.rules.proofs.Sums.{summed, summed_bound, summed_more}
use Rattle.rounds.specs.declared.interval.Interval.{Interval}
use Rattle.rounds.specs.Ends.{lower_of, upper_of, point}
use Rattle.rounds.proofs.ends.weighted_sums.Goals as goal

module _ (f : Interval → Part) (vs : List Interval) (x : Interval) (u : ℕ) (r : Row) (i sum w n : ℕ) (l : LawfulRow (length vs) u r) (h : i < length r)
    (is : x ≡ get_or vs (get_or r i no_branch).target x) (weight : w ≡ (get_or r i no_branch).weight) (units : n ≡ units_of (f x)) where
  -- a branch more leaves the whole sum as it was
  next_sum : (d : Interval) → sum + summed f vs d (drop i r) ≡ summed f vs d r → sum + w * n + summed f vs d (drop (i + 1) r) ≡ summed f vs d r
  next_sum d e =
      let b = get_or r i no_branch in
      let at = get_or_default vs b.target d x (row_target (length vs) u r i l h) in
      omega (arith, e, summed_more f vs d r i h, ap (λ (y : Interval). b.weight * units_of (f y)) (is ∙ sym at), ap (λ k. k * n) weight, ap (λ k. b.weight * k) units)

  -- so it stays in bounds
  next_bound : sum + summed f vs x (drop i r) ≡ summed f vs x r → sum + w * n ≤ whole * u
  next_bound e = omega (arith, next_sum x e, summed_bound f vs x (length vs) u r l)

pub offset_bounds-values-branch : goal.offset_bounds-values-branch
offset_bounds-values-branch c = search (rules, row_target)

pub bounds-values-branch : goal.bounds-values-branch
bounds-values-branch c = search (rules, row_target)

pub overflow_add-lower : goal.overflow_add-lower
overflow_add-lower c =
    let x = c.index-values-branch.result in
    let most = next_bound lower_of c.args.values.now x c.args.denominator.now.value c.args.row.now c.loop-branch.branch-index c.loop-branch.lower _ _ c.requires.lawful c.loop-branch-test.true c.index-values-branch.is c.from-weight.ensures (c.from.ensures ∙ c.units.ensures) (c.loop-branch.invariant.lower x) in
    omega arith

pub overflow_add-upper : goal.overflow_add-upper
overflow_add-upper c =
    let x = c.index-values-branch.result in
    let most = next_bound upper_of c.args.values.now x c.args.denominator.now.value c.args.row.now c.loop-branch.branch-index c.loop-branch.upper _ _ c.requires.lawful c.loop-branch-test.true c.index-values-branch.is c.from-weight.ensures (c.from-in-loop-branch.ensures ∙ c.units-in-loop-branch.ensures) (c.loop-branch.invariant.upper x) in
    omega arith

pub loop-branch-preserved : goal.loop-branch-preserved
loop-branch-preserved c =
    let vs = c.args.values.now in
    let x = c.index-values-branch.result in
    let u = c.args.denominator.now.value in
    let r = c.args.row.now in
    let i = c.loop-branch.branch-index in
    record {
      lower = λ d. next_sum lower_of vs x u r i c.loop-branch.lower _ _ c.requires.lawful c.loop-branch-test.true c.index-values-branch.is c.from-weight.ensures (c.from.ensures ∙ c.units.ensures) d (c.loop-branch.invariant.lower d);
      upper = λ d. next_sum upper_of vs x u r i c.loop-branch.upper _ _ c.requires.lawful c.loop-branch-test.true c.index-values-branch.is c.from-weight.ensures (c.from-in-loop-branch.ensures ∙ c.units-in-loop-branch.ensures) d (c.loop-branch.invariant.upper d);
    }

-- past the last branch the sum is the whole one
all_summed : (f : Interval → Part) (vs : List Interval) (d : Interval) (r : Row) (i sum : ℕ) → length r ≤ i → sum + summed f vs d (drop i r) ≡ summed f vs d r → sum ≡ summed f vs d r
all_summed f vs d r i sum h e = omega (arith, at_drop_all (summed f vs d) r i h)

pub returns-clause-lower : goal.returns-clause-lower
returns-clause-lower c d = all_summed lower_of c.args.values.now d c.args.row.now c.loop-branch.branch-index c.loop-branch.lower (omega arith) (c.loop-branch.invariant.lower d)

pub returns-clause-upper : goal.returns-clause-upper
returns-clause-upper c d = all_summed upper_of c.args.values.now d c.args.row.now c.loop-branch.branch-index c.loop-branch.upper (omega arith) (c.loop-branch.invariant.upper d)

pub returns-clause-bound : goal.returns-clause-bound
returns-clause-bound c =
    let vs = c.args.values.now in
    let zero = point (part_of 0) in
    omega (arith, returns-clause-upper c zero, summed_bound upper_of vs zero (length vs) c.args.denominator.now.value c.args.row.now c.requires.lawful)
