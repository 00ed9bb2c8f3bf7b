use Rattle.std.proofs.Common.{refl}
use Rattle.std.proofs.lemmas.Result.{err_from_is_err_and}
use Rattle.formula.proofs.Whole.{accepted, faulty}
use Rattle.formula.proofs.reader.formula_count.Goals as goal

pub returns-in_err-reading : goal.returns-in_err-reading
returns-in_err-reading c = λ lent l.
    let p = err_from_is_err_and c.from_residual.result c.from_residual.ensures.1 in
    let (n, e, none) = c.in_err-reading.ensures in
    (lent, rw (p.1, p.2, e) (none, refl))

pub returns-in_err-check : goal.returns-in_err-check
returns-in_err-check c = λ lent l.
    let p = err_from_is_err_and c.from_residual-in_err-check.result c.from_residual-in_err-check.ensures.1 in
    (lent, rw (p.1, p.2) (faulty c.args.lent c.in_ok-reading.ensures _ c.in_err-check.ensures lent l))

pub returns : goal.returns
returns c = λ lent l. (_, accepted c.args.lent c.in_ok-reading.ensures c.in_ok-check.ensures lent l)
