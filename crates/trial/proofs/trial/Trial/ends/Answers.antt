use Rattle.std.proofs.Common.{◌≡◌, ◌<◌, Some, sym, ap, ◌∙◌, arith, rules}
use Rattle.std.proofs.Math.ListN.{get_or-map}
use Rattle.rules.specs.Parts.{part_of, units_of}
use Rattle.rounds.specs.Ends.{lower_of, upper_of, lower_units, upper_units, point}
use Rattle.trial.specs.Keeping.{query_in, standing}
use Rattle.trial.proofs.Queries.{ends_answered}
use Rattle.trial.proofs.Meanings.{ends_mean}
use Rattle.trial.proofs.trial.Trial.ends.Goals as goal

pub returns : goal.returns
returns g c =
    let trial = c.args.self.now in
    let x = trial.layer.below.now in
    let m = g.S.Source.model x in
    let t = c.in_ok-query.query.now in
    let q = query_in m.states t in
    let kept : trial.query ≡ Some t = search rules in
    let keeps = trial.kept t kept in
    let stands = ap (standing m.states) kept in
    let states = c.states.ensures in
    let under = c.if-state-states.false in
    let there : c.args.state < m.states = omega arith in
    let d = part_of 0 in
    let lower = ap lower_units (c.at.ensures (point d)) ∙ ap units_of (sym (get_or-map lower_of t.ends.values c.args.state (point d))) ∙ keeps.lower d c.args.state there in
    let upper = ap upper_units (c.at.ensures (point d)) ∙ ap units_of (sym (get_or-map upper_of t.ends.values c.args.state (point d))) ∙ keeps.upper d c.args.state there in
    record {
      answer = ends_answered m (standing m.states trial.query) q stands c.args.state there c.at.result.lower c.at.result.upper lower upper;
      meaning = ends_mean m (g.S.Source.lawful x) c.args.state there (standing m.states trial.query) q stands c.at.result.lower c.at.result.upper lower upper;
    }
