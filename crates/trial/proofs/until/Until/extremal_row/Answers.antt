use Rattle.std.proofs.Common.{ℕ, false, take, ap, ◌∙◌, arith}
use Rattle.theory.proofs.Alike.{marked_alike}
use Rattle.formula.specs.Extremals.{bound_meant}
use Rattle.trial.specs.Queries.{marked}
use Rattle.trial.specs.Rows.{sets, bytes, bound_sets, extremal_verdicts}
use Rattle.trial.proofs.Bytes.{bytes_same}
use Rattle.trial.proofs.PathRows.{marked_front}
use Rattle.trial.proofs.SettledMarks.{bound_same}
use Rattle.trial.proofs.until.Until.extremal_row.Goals as goal

pub returns : goal.returns
returns g c =
    let until = c.args.self.now in
    let x = until.source.now in
    let m = g.S.Source.model x in
    let v = sets until.left.now in
    let w = sets until.right.now in
    let o = bound_meant c.args.bound in
    let lefts = c.possible_marks-left.result.values in
    let rights = c.possible_marks-right.result.values in
    let left_long = until.left_long in
    let right_long = until.right_long in
    let of_fronts = c.of_fronts-possible.ensures in
    let found = rw (of_fronts.source, of_fronts.left, of_fronts.right) at c.settled_marks-on_possible.ensures in
    let on_sure = c.settled_marks-on_sure.result.values in
    let on_possible = c.settled_marks-on_possible.result.values in
    c.bound_row.ensures
    ∙ ap (λ (k : ℕ). bytes k (bound_sets o on_sure on_possible)) c.requires
    -- marks that are those of the sets give the verdicts on the sets
    ∙ bytes_same m (bound_sets o on_sure on_possible) (extremal_verdicts o m v w) (bound_same o m v w on_sure on_possible (c.settled_marks-on_sure.ensures false)
    (λ s h. found false s h
    ∙ marked_alike m (g.S.Source.lawful x) s h o (marked (take m.states lefts)) v.possible (marked (take m.states rights)) w.possible
    (λ t q. marked_front m.states lefts v.possible (λ u r. c.possible_marks-left.ensures u (omega arith)) t q)
    (λ t q. marked_front m.states rights w.possible (λ u r. c.possible_marks-right.ensures u (omega arith)) t q)))
