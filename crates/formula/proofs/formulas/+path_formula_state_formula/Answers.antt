-- What was read from a place that `from` goes to is told of the cursor there: `same` and `place` tell it of the text itself.
use Rattle.std.proofs.Common.{is_some, rules, sym, ap, ◌∙◌, arith}
use Rattle.std.proofs.lemmas.Bool.{ltb-false}
use Rattle.std.proofs.lemmas.Result.{err_from_is_err_and}
use Rattle.grammar.proofs.Formulas.{negation_refused, left_refused, and_refused, right_refused, close_refused, bound_refused, opening_refused, path_refused, closing_refused, next_refused, first_part_refused, until_refused, steps_refused, second_part_refused, atom_refused, none_refused}
use Rattle.formula.specs.Readings.{entire}
use Rattle.formula.proofs.Signs.{has_true, has_false}
use Rattle.formula.proofs.Forms.{read_negation, read_conjunction, read_probability, read_next, read_until, state_word, path_word, known, path_known, atom_reads}
use Rattle.formula.proofs.formulas.+path_formula_state_formula.Goals as goal

-- `next_refused`: what refuses a part refuses the whole, here `f` in `Xf`
pub path_formula-returns-in_err-part : goal.path_formula-returns-in_err-part
path_formula-returns-in_err-part t c = search (rules, next_refused, has_true)

-- `read_next`: what is known of `Xf`
pub path_formula-returns-then-stands : goal.path_formula-returns-then-stands
path_formula-returns-then-stands t c =
    let here = has_true c.args.from.text.now c.args.from.at 88 (sym c.if-stands.ensures) in
    path_known c.next.ensures (read_next here.0 here.1 (rw (c.to.ensures.same, c.to.ensures.place) at c.in_ok-part.ensures))

-- `first_part_refused`: `f` in `fUg`
pub path_formula-returns-in_err-left : goal.path_formula-returns-in_err-left
path_formula-returns-in_err-left t c = search (rules, first_part_refused, has_false)

-- `until_refused`: its `U`
pub path_formula-returns-in_err-until : goal.path_formula-returns-in_err-until
path_formula-returns-in_err-until t c = search (rules, until_refused, has_false, state_word c.in_ok-left.ensures)

-- `steps_refused`: its steps
pub path_formula-returns-in_err-steps : goal.path_formula-returns-in_err-steps
path_formula-returns-in_err-steps t c =
    let p = err_from_is_err_and c.from_residual-in_err-steps.result c.from_residual-in_err-steps.ensures.1 in
    rw (p.1, p.2) (steps_refused _ _ (has_false _ _ _ (sym c.if-stands.ensures)) (state_word c.in_ok-left.ensures) (rw (c.to-2.ensures.same, c.to-2.ensures.place) at c.in_ok-until.ensures) (rw (c.to-3.ensures.same, c.to-3.ensures.place) at c.in_err-steps.ensures))

-- `second_part_refused`: its `g`
pub path_formula-returns-in_err-right : goal.path_formula-returns-in_err-right
path_formula-returns-in_err-right t c =
    let p = err_from_is_err_and c.from_residual-in_err-right.result c.from_residual-in_err-right.ensures.1 in
    rw (p.1, p.2) (second_part_refused _ _ (has_false _ _ _ (sym c.if-stands.ensures)) (state_word c.in_ok-left.ensures) (rw (c.to-2.ensures.same, c.to-2.ensures.place) at c.in_ok-until.ensures) (rw (c.to-3.ensures.same, c.to-3.ensures.place) at c.in_ok-steps.ensures).read (rw (c.to-4.ensures.same, c.to-4.ensures.place) at c.in_err-right.ensures))

-- `read_until`: what is known of `fUg`
pub path_formula-returns : goal.path_formula-returns
path_formula-returns t c = path_known c.until.ensures (read_until c.in_ok-left.ensures (rw (c.to-2.ensures.same, c.to-2.ensures.place) at c.in_ok-until.ensures) _ _ (rw (c.to-3.ensures.same, c.to-3.ensures.place) at c.in_ok-steps.ensures) (rw (c.to-4.ensures.same, c.to-4.ensures.place) at c.in_ok-right.ensures))

-- `none_refused`: no formula begins at the end
pub state_formula-returns-in_default : goal.state_formula-returns-in_default
state_formula-returns-in_default t c =
    let past = ltb-false _ _ (sym c.get.ensures.lookup.0 ∙ ap is_some c.in_default.is) in
    atom_refused _ _ (λ l _. omega (arith, l, past)) (λ l _. omega (arith, l, past)) (λ l _. omega (arith, l, past))
    (none_refused _ _ (omega arith) (λ l _. omega (arith, l, past)) (λ l _ _. omega (arith, l, past)))

-- `negation_refused`: `f` in `!f`
pub state_formula-returns-in_err-part-in-33 : goal.state_formula-returns-in_err-part-in-33
state_formula-returns-in_err-part-in-33 t c = search (rules, negation_refused)

-- `left_refused`: `f` in `(f&g)`
pub state_formula-returns-in_err-left-in-40 : goal.state_formula-returns-in_err-left-in-40
state_formula-returns-in_err-left-in-40 t c = search (rules, left_refused)

-- `and_refused`: its `&`
pub state_formula-returns-in_err-middle-in-40 : goal.state_formula-returns-in_err-middle-in-40
state_formula-returns-in_err-middle-in-40 t c = search (rules, and_refused, state_word c.in_ok-left-in-40.ensures)

-- `right_refused`: its `g`
pub state_formula-returns-in_err-right-in-40 : goal.state_formula-returns-in_err-right-in-40
state_formula-returns-in_err-right-in-40 t c =
    let p = err_from_is_err_and c.from_residual-in_err-right-in-40.result c.from_residual-in_err-right-in-40.ensures.1 in
    rw (p.1, p.2) (right_refused _ _ c.in-Some.ensures.lookup.3.0 (omega (arith, c.in-Some.ensures.lookup.4 (omega arith) 0)) (state_word (rw (c.to-in-40.ensures.same, c.to-in-40.ensures.place) at c.in_ok-left-in-40.ensures)) (rw (c.to-in-40-2.ensures.same, c.to-in-40-2.ensures.place) at c.in_ok-middle-in-40.ensures) (rw (c.to-in-40-3.ensures.same, c.to-in-40-3.ensures.place) at c.in_err-right-in-40.ensures))

-- `close_refused`: its `)`
pub state_formula-returns-in_err-end-in-40 : goal.state_formula-returns-in_err-end-in-40
state_formula-returns-in_err-end-in-40 t c =
    let p = err_from_is_err_and c.from_residual-in_err-end-in-40.result c.from_residual-in_err-end-in-40.ensures.1 in
    rw (p.1, p.2) (close_refused _ _ c.in-Some.ensures.lookup.3.0 (omega (arith, c.in-Some.ensures.lookup.4 (omega arith) 0)) (state_word (rw (c.to-in-40.ensures.same, c.to-in-40.ensures.place) at c.in_ok-left-in-40.ensures)) (rw (c.to-in-40-2.ensures.same, c.to-in-40-2.ensures.place) at c.in_ok-middle-in-40.ensures) (state_word (rw (c.to-in-40-3.ensures.same, c.to-in-40-3.ensures.place) at c.in_ok-right-in-40.ensures)) (rw (c.to-in-40-4.ensures.same, c.to-in-40-4.ensures.place) at c.in_err-end-in-40.ensures))

-- `bound_refused`: the bound of `P>=5[p]`
pub state_formula-returns-in_err-bound-in-80 : goal.state_formula-returns-in_err-bound-in-80
state_formula-returns-in_err-bound-in-80 t c = search (rules, bound_refused)

-- `opening_refused`: its `[`
pub state_formula-returns-in_err-opening-in-80 : goal.state_formula-returns-in_err-opening-in-80
state_formula-returns-in_err-opening-in-80 t c = search (rules, opening_refused)

-- `path_refused`: its path
pub state_formula-returns-in_err-path-in-80 : goal.state_formula-returns-in_err-path-in-80
state_formula-returns-in_err-path-in-80 t c =
    let p = err_from_is_err_and c.from_residual-in_err-path-in-80.result c.from_residual-in_err-path-in-80.ensures.1 in
    rw (p.1, p.2) (path_refused _ _ c.in-Some.ensures.lookup.3.0 (omega (arith, c.in-Some.ensures.lookup.4 (omega arith) 0)) (rw (c.to-in-80.ensures.same, c.to-in-80.ensures.place) at c.in_ok-bound-in-80.ensures).read (rw (c.to-in-80-2.ensures.same, c.to-in-80-2.ensures.place) at c.in_ok-opening-in-80.ensures) (rw (c.to-in-80-3.ensures.same, c.to-in-80-3.ensures.place) at c.in_err-path-in-80.ensures))

-- `closing_refused`: its `]`
pub state_formula-returns-in_err-end-in-80 : goal.state_formula-returns-in_err-end-in-80
state_formula-returns-in_err-end-in-80 t c =
    let p = err_from_is_err_and c.from_residual-in_err-end-in-80.result c.from_residual-in_err-end-in-80.ensures.1 in
    rw (p.1, p.2) (closing_refused _ _ c.in-Some.ensures.lookup.3.0 (omega (arith, c.in-Some.ensures.lookup.4 (omega arith) 0)) (rw (c.to-in-80.ensures.same, c.to-in-80.ensures.place) at c.in_ok-bound-in-80.ensures).read (rw (c.to-in-80-2.ensures.same, c.to-in-80-2.ensures.place) at c.in_ok-opening-in-80.ensures) (path_word (rw (c.to-in-80-3.ensures.same, c.to-in-80-3.ensures.place) at c.in_ok-path-in-80.ensures)) (rw (c.to-in-80-4.ensures.same, c.to-in-80-4.ensures.place) at c.in_err-end-in-80.ensures))

-- `read_negation`: what is known of `!f`
pub state_formula-returns-in_ok-part-in-33 : goal.state_formula-returns-in_ok-part-in-33
state_formula-returns-in_ok-part-in-33 t c = known c.entire.ensures (read_negation c.in-Some.ensures.lookup.3.0 (omega (arith, c.in-Some.ensures.lookup.4 (omega arith) 0)) (rw (c.to.ensures.same, c.to.ensures.place) at c.in_ok-part-in-33.ensures) c.compound-line.ensures c.put.ensures)

-- `read_conjunction`: what is known of `(f&g)`
pub state_formula-returns-in_ok-end-in-40 : goal.state_formula-returns-in_ok-end-in-40
state_formula-returns-in_ok-end-in-40 t c =
    known (c.entire-in-40.ensures ∙ ap (λ z. entire z c.in_ok-end-in-40.end) c.joined.ensures)
    (read_conjunction c.in-Some.ensures.lookup.3.0 (omega (arith, c.in-Some.ensures.lookup.4 (omega arith) 0)) (rw (c.to-in-40.ensures.same, c.to-in-40.ensures.place) at c.in_ok-left-in-40.ensures) (rw (c.to-in-40-2.ensures.same, c.to-in-40-2.ensures.place) at c.in_ok-middle-in-40.ensures) (rw (c.to-in-40-3.ensures.same, c.to-in-40-3.ensures.place) at c.in_ok-right-in-40.ensures) (rw (c.to-in-40-4.ensures.same, c.to-in-40-4.ensures.place) at c.in_ok-end-in-40.ensures) c.compound-line-in-40.ensures c.put-in-40.ensures)

-- `read_probability`: what is known of `P>=5[p]`
pub state_formula-returns-in_ok-end-in-80 : goal.state_formula-returns-in_ok-end-in-80
state_formula-returns-in_ok-end-in-80 t c =
    known c.probability.ensures
    (read_probability c.in-Some.ensures.lookup.3.0 (omega (arith, c.in-Some.ensures.lookup.4 (omega arith) 0)) (rw (c.to-in-80.ensures.same, c.to-in-80.ensures.place) at c.in_ok-bound-in-80.ensures) (rw (c.to-in-80-2.ensures.same, c.to-in-80-2.ensures.place) at c.in_ok-opening-in-80.ensures) (rw (c.to-in-80-3.ensures.same, c.to-in-80-3.ensures.place) at c.in_ok-path-in-80.ensures) (rw (c.to-in-80-4.ensures.same, c.to-in-80-4.ensures.place) at c.in_ok-end-in-80.ensures) c.line.ensures c.put-in-80.ensures)

-- `atom_reads`: what any other byte begins is read as a formula without parts
pub state_formula-returns-in_default-first : goal.state_formula-returns-in_default-first
state_formula-returns-in_default-first t c =
    let here = c.in-Some.ensures.lookup.4 (omega arith) 0 in
    atom_reads _ _ _ _ _ c.atomic_formula.result (λ _ e. omega (arith, e, here)) (λ _ e. omega (arith, e, here)) (λ _ e. omega (arith, e, here)) c.atomic_formula.ensures
