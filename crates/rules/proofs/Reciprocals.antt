-- A quotient by way of a reciprocal: n is divided by d, m is the reciprocal of d as a part of b, and q is n times m divided by b.
use Rattle.std.proofs.Common.{◌≡◌, ℕ, ◌+◌, ◌-◌, ◌*◌, ◌/◌, ◌<◌, ◌≤◌, ap, arith}
use Rattle.std.proofs.Math.Nat.{le-div_iff_mul-le, le_of_mul-le-mul_left, lt_of_mul-lt-mul_left, mul-add, mul-le-mul_left, mul_comm, mul_left_comm}
use Rattle.std.proofs.lemmas.Nat.{div_below}

-- q is not above the quotient
pub near_below : (b d n m q : ℕ) → 0 < b → q * b ≤ n * m → d * m ≤ b → q * d ≤ n
near_below b d n m q some from below =
    let one = mul-le-mul_left d from in
    let other = mul-le-mul_left n below in
    le_of_mul-le-mul_left {m = q * d} {n = n} {k = b} (omega (arith, one, other, mul_left_comm d n m, mul_left_comm d q b, mul_left_comm b q d, ap (λ x. q * x) (mul_comm d b), mul_comm n b)) some

-- and less than two below it
pub near_above : (b d n m q : ℕ) → 1 ≤ d → n < b → n * m < q * b + b → b ≤ d * m + d → n < q * d + (d + d)
near_above b d n m q some small from above =
    let next : n * m + 1 ≤ q * b + b = omega arith in
    let most : n ≤ b = omega arith in
    let one = mul-le-mul_left d next in
    let other = mul-le-mul_left n above in
    let third = mul-le-mul_left d most in
    lt_of_mul-lt-mul_left b {m = n} {n = q * d + (d + d)} (omega (arith, one, other, third, mul-add d (n * m) 1, mul-add d (q * b) b, mul-add n (d * m) d, mul-add b (q * d) (d + d), mul-add b d d, mul_left_comm d n m, mul_left_comm d q b, mul_left_comm b q d, ap (λ x. q * x) (mul_comm d b), mul_comm n b, mul_comm d n, mul_comm d b))

-- the quotient is q where n lies from q times d up to the next multiple
pub quotient_same : (d n q : ℕ) → 1 ≤ d → q * d ≤ n → n - q * d < d → q ≡ n / d
quotient_same d n q some from rest =
    let next : n < (q + 1) * d = omega (arith, mul_comm (q + 1) d, mul-add d q 1, mul_comm d q) in
    let low = (le-div_iff_mul-le {k = d} {x = q} {y = n} some).1 from in
    omega (arith, div_below n d (q + 1) some next, low)

-- and one more where n lies up to the multiple after that
pub quotient_more : (d n q : ℕ) → 1 ≤ d → q * d ≤ n → d ≤ n - q * d → n < q * d + (d + d) → q + 1 ≡ n / d
quotient_more d n q some from rest below =
    let more : (q + 1) * d ≡ q * d + d = omega (arith, mul_comm (q + 1) d, mul-add d q 1, mul_comm d q) in
    quotient_same d n (q + 1) some (omega (arith, more)) (omega (arith, more))
