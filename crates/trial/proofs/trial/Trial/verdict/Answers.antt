use Rattle.std.proofs.Common.{◌≡◌, Some, Ok, sym, ap, ◌∙◌, subst, arith, rules}
use Rattle.trial.specs.Aims.{aim_for}
use Rattle.trial.specs.declared.verdict.Verdict.{Verdict}
use Rattle.trial.specs.Keeping.{query_in, standing}
use Rattle.trial.specs.Meanings.{VerdictMeans}
use Rattle.trial.proofs.Queries.{verdict_answered, kept_answered, same_aims}
use Rattle.trial.proofs.Meanings.{verdict_means}
use Rattle.trial.proofs.trial.Trial.verdict.Goals as goal

pub returns : goal.returns
returns g c =
    let trial = c.args.self.now in
    let x = trial.layer.below.now in
    let m = g.S.Source.model x in
    let s = c.args.state in
    let o = standing m.states trial.query in
    let t = c.in_ok-query.query.now in
    let q = query_in m.states t in
    let kept : trial.query ≡ Some t = search rules in
    let stands : o ≡ Some q = ap (standing m.states) kept in
    let read = kept_answered m trial.layer.held t q (trial.kept t kept) o stands s c.in_ok-lower.lower c.in_ok-lower.upper c.in_ok-lower.field-0-2 c.ends.result c.ends.ensures.answer c.in_ok-lower.was in
    let agree : aim_for c.args.comparison ≡ t.aim = grind arith in
    let same = same_aims (aim_for c.args.comparison) q.aim agree in
    record {
      answer = ap (λ (v : Verdict). Ok v) c.read_off.ensures
          ∙ verdict_answered m s c.args.comparison c.args.bound o q stands read.there (rw c.from.ensures at c.if-bound-from.false) same _ _ read.lower read.upper;
      meaning = subst (VerdictMeans m o s c.args.comparison c.args.bound) (sym c.read_off.ensures)
          (verdict_means m (g.S.Source.lawful x) s read.there o q stands c.args.comparison c.args.bound same _ _ read.lower read.upper);
    }
