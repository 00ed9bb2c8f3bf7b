use Rattle.std.proofs.Common.{arith}
use Rattle.formula.proofs.Signs.{rest_of, no_sign}
use Rattle.formula.proofs.cursor.Cursor.read_comparison.Goals as goal

-- `no_sign`: no comparison begins where the text ends
pub returns-in_default : goal.returns-in_default
returns-in_default c =
    let (long, first) = rest_of c.args.self.text.now c.args.self.at in
    no_sign _ _ c.args.self.inside (λ l _. omega (arith, l, c.in_default.len_below, long)) (λ l _. omega (arith, l, c.in_default.len_below, long))

-- nor with a last byte that is neither `<` nor `>`
pub returns-in_default-2 : goal.returns-in_default-2
returns-in_default-2 c =
    let (long, first) = rest_of c.args.self.text.now c.args.self.at in
    no_sign _ _ c.args.self.inside (λ _ e. omega (arith, e, first)) (λ _ e. omega (arith, e, first))

-- nor with such a byte before others
pub returns-in_default-3 : goal.returns-in_default-3
returns-in_default-3 c =
    let (long, first) = rest_of c.args.self.text.now c.args.self.at in
    no_sign _ _ c.args.self.inside (λ _ e. omega (arith, e, first)) (λ _ e. omega (arith, e, first))
