use Rattle.std.proofs.Common.{◌≡◌, ◌/◌, sym, ap, ◌∙◌, arith}
use Rattle.theory.specs.Rules.{valued}
use Rattle.theory.specs.Mixes.{sum_of}
use Rattle.rules.specs.declared.part.Part.{Part}
use Rattle.rules.specs.Parts.{units_of, part_of}
use Rattle.rules.specs.Values.{told}
use Rattle.rules.specs.Carried.{carried_twice}
use Rattle.rounds.specs.declared.interval.Interval.{Interval}
use Rattle.rounds.specs.Ends.{lower_of, upper_of, mixed_ends}
use Rattle.rounds.proofs.ends.BothEndsBackup.mix.Goals as goal

-- the interval between two ends
abbrev interval : Part → Part → Interval
interval x y = record { lower = x; upper = y }

pub returns : goal.returns
returns c d =
    let u = c.args.denominator.now.value in
    let ps = valued (told c.args.values.now d) c.args.row.now in
    let lower : c.part.result ≡ (mixed_ends u ps).lower = c.part.ensures ∙ ap (λ n. part_of (n / u)) (c.weighted_sums-lower.ensures.lower d ∙ ap sum_of (sym (carried_twice lower_of units_of ps))) in
    let upper : c.part-2.result ≡ (mixed_ends u ps).upper = c.part-2.ensures ∙ ap (λ n. part_of (n / u)) (omega (arith, c.from-last.ensures, c.weighted_sums-lower.ensures.upper d ∙ ap sum_of (sym (carried_twice upper_of units_of ps)))) in
    ap (λ (x : Part). interval x c.part-2.result) lower ∙ ap (interval (mixed_ends u ps).lower) upper
