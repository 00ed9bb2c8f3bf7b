use Rattle.std.proofs.Common.{◌≡◌, Some, map, sym, rules}
use Rattle.model.specs.HoldLaws.{hold_lawful}
use Rattle.layers.specs.Holds.{held_model}
use Rattle.theory.specs.Ends.{held, stops, start}
use Rattle.rules.specs.declared.rounding.Rounding.TheVariants.{Down, Up}
use Rattle.rounds.specs.Ends.{lower_of, upper_of}
use Rattle.trial.specs.Aims.{preference_of}
use Rattle.trial.specs.Queries.{marked}
use Rattle.trial.specs.Keeping.{query_in}
use Rattle.trial.proofs.Queries.{end_more, query_kept}
use Rattle.trial.proofs.Trials.{trial_same}
use Rattle.trial.proofs.trial.Trial.advance.Goals as goal

pub returns-in_err-query-clause-refused : goal.returns-in_err-query-clause-refused
returns-in_err-query-clause-refused g c = λ e h. trial_same _ _ c.args.self.now.layer _ _ _ _ cc

pub returns-then-count-query-clause-refused : goal.returns-then-count-query-clause-refused
returns-then-count-query-clause-refused g c =
    let stands : c.args.self.now.query ≡ Some c.in_ok-query.query.now = search rules in
    λ e h. trial_same _ _ c.args.self.now.layer _ _ _ _ (sym stands)

pub invariant_of-self-2 : goal.invariant_of-self-2
invariant_of-self-2 g c =
    let trial = c.args.self.now in
    let x = trial.layer.below.now in
    let m = g.S.Source.model x in
    let flags = trial.layer.held in
    let t = c.in_ok-query.query.now in
    let stands : trial.query ≡ Some t = search rules in
    let keeps = trial.kept t stands in
    let q = query_in m.states t in
    let left = marked q.left in
    let right = marked q.right in
    let lawful = hold_lawful (stops left right) m (g.S.Source.lawful x) in
    let p = preference_of t.aim in
    let k = c.args.count in
    record {
      -- both ends have k rounds more over the held layer
      kept = query_kept m flags _ (record {
        layer = keeps.layer;
        lower = λ d. end_more Down p _ c.from-preference.ensures (held left right m) (held_model m flags) lawful keeps.layer (start right) t.rounds k (map lower_of t.ends.values) _ d (keeps.lower d) (c.advanced_ends-query.ensures.lower d d);
        upper = λ d. end_more Up p _ c.from-preference.ensures (held left right m) (held_model m flags) lawful keeps.layer (start right) t.rounds k (map upper_of t.ends.values) _ d (keeps.upper d) (c.advanced_ends-query.ensures.upper d d);
      });
    }
