use Rattle.std.proofs.Common.{◌*◌, ◌/◌, ◌-◌, ◌≤◌, ℕ, ◌+◌, ◌<◌, ap, arith}
use Rattle.std.proofs.Math.Nat.{div-mul-le_self, lt-div-mul-add, lt-mul-div-succ, mul-add, mul-div-le}
use Rattle.rules.proofs.Reciprocals.{near_below, near_above, quotient_same, quotient_more}
use Rattle.rules.specs.declared.denominator.Denominator.{Denominator}
use Rattle.rules.proofs.denominator.Denominator.quotient.Goals as goal

-- what the reciprocal is a part of
abbrev room : ℕ
room = 18446744073709551616

-- the product with the reciprocal, without its lower half
abbrev near : Denominator → ℕ → ℕ
near x n = n * x.reciprocal / room

-- it is not above the quotient
under : (x : Denominator) (n : ℕ) → near x n * x.value ≤ n
under x n =
    let some : 0 < room = omega arith in
    let whole : x.value * x.reciprocal ≤ room = omega (arith, ap (λ r. x.value * r) x.exact, mul-div-le (room - 1) x.value) in
    near_below room x.value n x.reciprocal (near x n) some (div-mul-le_self (n * x.reciprocal) room) whole

-- and less than two below it
over : (x : Denominator) (n : ℕ) → n < room → n < near x n * x.value + (x.value + x.value)
over x n small =
    let some : 0 < room = omega arith in
    let whole : room ≤ x.value * x.reciprocal + x.value = omega (arith, ap (λ r. x.value * r) x.exact, lt-mul-div-succ (room - 1) {b = x.value} x.some_unit, mul-add x.value ((room - 1) / x.value) 1) in
    near_above room x.value n x.reciprocal (near x n) x.some_unit small (lt-div-mul-add {a = n * x.reciprocal} {b = room} some) whole

pub overflow_sub-number : goal.overflow_sub-number
overflow_sub-number c = rw (c.from-value.ensures, c.from.ensures, c.from-2.ensures) (under c.args.self.now c.args.number)

pub returns-then-number-near : goal.returns-then-number-near
returns-then-number-near c =
    let x = c.args.self.now in
    let n = c.args.number in
    let rest = rw (c.from-value.ensures, c.from.ensures, c.from-2.ensures) at c.if-number-near.true in
    rw (c.from.ensures, c.from-2.ensures) (quotient_same x.value n (near x n) x.some_unit (under x n) rest)

pub returns-else-number-near : goal.returns-else-number-near
returns-else-number-near c =
    let x = c.args.self.now in
    let n = c.args.number in
    let rest = rw (c.from-value.ensures, c.from.ensures, c.from-2.ensures) at c.if-number-near.false in
    rw (c.from.ensures, c.from-2.ensures) (quotient_more x.value n (near x n) x.some_unit (under x n) rest (over x n c.ranges.number.fits))
