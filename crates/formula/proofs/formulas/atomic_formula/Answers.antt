use Rattle.std.proofs.Common.{◌≡◌, ◌<◌, length, get_or, rules, arith}
use Rattle.grammar.proofs.Formulas.{true_refused, none_refused}
use Rattle.formula.proofs.Signs.{rest_of}
use Rattle.formula.proofs.Forms.{read_truth, read_label, known}
use Rattle.formula.proofs.formulas.atomic_formula.Goals as goal

-- `true_refused`: behind a `t`, what refuses `true` refuses the formula
pub returns-in_err-end-in-116 : goal.returns-in_err-end-in-116
returns-in_err-end-in-116 c =
    let (long, first) = rest_of c.args.from.text.now c.args.from.at in
    let inside : c.args.from.at < length c.args.from.text.now = omega (arith, c.in-116.len_at_least, long) in
    let here : get_or c.args.from.text.now c.args.from.at 0 ≡ 116 = omega (arith, first) in
    search (rules, true_refused)

-- `read_truth`: what is known of `true`
pub returns-in_ok-end-in-116 : goal.returns-in_ok-end-in-116
returns-in_ok-end-in-116 c = known c.atom.ensures (read_truth (omega arith) c.in_ok-end-in-116.ensures c.atomic.ensures c.put.ensures)

-- `read_label`: what is known of a letter
pub returns-in-97-to-112 : goal.returns-in-97-to-112
returns-in-97-to-112 c =
    let (long, first) = rest_of c.args.from.text.now c.args.from.at in
    known c.atom-in-97-to-112.ensures
    (read_label (omega arith) (omega (arith, c.in-97-to-112.len_at_least, long)) (omega (arith, first)) (omega (arith, first)) (rw first at rw c.from.ensures at c.atomic-in-97-to-112.ensures) c.put-in-97-to-112.ensures)

-- `none_refused`: neither `true` nor a letter begins where the text ends
pub returns-in_default : goal.returns-in_default
returns-in_default c =
    let (long, first) = rest_of c.args.from.text.now c.args.from.at in
    none_refused _ _ c.args.from.inside (λ l _. omega (arith, l, c.in_default.len_below, long)) (λ l _ _. omega (arith, l, c.in_default.len_below, long))

-- nor with any other byte, below the letters
pub returns-in_default-2 : goal.returns-in_default-2
returns-in_default-2 c =
    let (long, first) = rest_of c.args.from.text.now c.args.from.at in
    none_refused _ _ c.args.from.inside (λ _ e. omega (arith, e, first)) (λ _ lo hi. omega (arith, lo, hi, first))

-- or above them
pub returns-in_default-3 : goal.returns-in_default-3
returns-in_default-3 c =
    let (long, first) = rest_of c.args.from.text.now c.args.from.at in
    none_refused _ _ c.args.from.inside (λ _ e. omega (arith, e, first)) (λ _ lo hi. omega (arith, lo, hi, first))
