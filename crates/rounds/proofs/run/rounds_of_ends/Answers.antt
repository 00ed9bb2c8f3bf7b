use Rattle.std.proofs.Common.{◌≡◌, ℕ, List, Result, map, refl}
use Rattle.model.specs.Mdp.{Mdp, Lawful}
use Rattle.rules.specs.declared.part.Part.{Part}
use Rattle.rules.specs.declared.preference.Preference.{Preference}
use Rattle.rules.specs.declared.rounding.Rounding.{Rounding}
use Rattle.rules.specs.declared.rounding.Rounding.TheVariants.{Down, Up}
use Rattle.rules.specs.Parts.{prefers_part, mix_rounded, in_parts}
use Rattle.rules.specs.PartsLemmas.{parts_lawful}
use Rattle.rules.specs.Values.{carried}
use Rattle.rounds.specs.declared.fault.RoundsFault.{RoundsFault}
use Rattle.rounds.specs.declared.interval.Interval.{Interval}
use Rattle.rounds.specs.Backups.{better_by, BackupsRan}
use Rattle.rounds.specs.Ends.{lower_of, upper_of, point, better_ends, mixed_ends}
use Rattle.rounds.specs.Runs.{Ran}
use Rattle.rounds.proofs.Backups.{rule_ran, ran_mapped}
use Rattle.rounds.proofs.run.rounds_of_ends.Goals as goal

-- of one end, with a rounding, rounds of both leave what rounds of that end leave
end_ran : (f : Interval → Part) (r : Rounding) (p : Preference) → ((d : Part) → f (point d) ≡ d) → ((x y : Interval) → f (better_ends p x y) ≡ better_by (prefers_part p) (f x) (f y)) →
    ((d : ℕ) (ps : List (ℕ × Interval)) → f (mixed_ends d ps) ≡ in_parts (mix_rounded r) d (carried f ps)) →
    (m : Mdp) → Lawful m → (k : ℕ) (ends spare ends' spare' : List Interval) (o : Result (Unit {0}) RoundsFault) → BackupsRan (better_ends p) mixed_ends m k ends spare ends' spare' o →
    Ran (prefers_part p) (in_parts (mix_rounded r)) m k (map f ends) (map f spare) (map f ends') (map f spare') o
end_ran f r p alike better_same mix_same m l k ends spare ends' spare' o ran =
    rule_ran (prefers_part p) (in_parts (mix_rounded r)) (parts_lawful r p) m l k (map f ends) (map f spare) (map f ends') (map f spare') o
    (ran_mapped f (better_ends p) mixed_ends (better_by (prefers_part p)) (in_parts (mix_rounded r)) better_same mix_same m point alike k ends spare ends' spare' o ran)

pub returns : goal.returns
returns g c =
    let m = g.S.Source.model c.args.source.now in
    let l = g.S.Source.lawful c.args.source.now in
    let k = c.args.count in
    let ends = c.args.ends.now in
    let spare = c.args.spare.now in
    record {
      lower = end_ran lower_of Down c.args.preference (λ d. refl) (λ x y. refl) (λ d ps. refl) m l k ends spare c.run.new.values c.run.new.spare c.run.result c.run.ensures;
      upper = end_ran upper_of Up c.args.preference (λ d. refl) (λ x y. refl) (λ d ps. refl) m l k ends spare c.run.new.values c.run.new.spare c.run.result c.run.ensures;
    }
