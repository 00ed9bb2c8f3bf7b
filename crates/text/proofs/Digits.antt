-- Which beginning of a field is a number of at most so many digits.
use Rattle.std.proofs.Common.{◌≡◌, ℕ, zero, suc, ◌+◌, ◌-◌, ◌*◌, ◌^◌, ◌<◌, ◌≤◌, min, true, false, eqb, List, [], ◌∷◌, length, get_or, take, decimal, sym, refl, ap, ◌∙◌, inl, inr, ⊎_elim, arith}
use Rattle.std.specs.Str.Parse.{digits_value, AllDigits}
use Rattle.std.specs.Int.{IsInRange}
use Rattle.std.specs.Char.{is_ascii_digit, digit_value}
use Rattle.std.specs.List.{prefix_len, starts_with}
use Rattle.std.specs.Str.{all_ascii_digits}
use Rattle.std.proofs.lemmas.Fmt.{decimal-digits_value, digits_decimal, decimal_nonempty, decimal_digit, length-decimal-le, first_decimal}
use Rattle.std.proofs.lemmas.Int.Digits.{digits_value_more}
use Rattle.std.proofs.lemmas.Str.{digit_value_digit}
use Rattle.std.proofs.lemmas.List.{length-take, length-take-le, get_or-take, take-take}
use Rattle.std.proofs.lemmas.List.Sums.{prefix_len-le-length, prefix_len_stops}
use Rattle.std.proofs.lemmas.Str.Parse.{IsNumeralModel, numerals_by_value, tells_all_ascii_digits, digit_at, digits_value_short}
use Rattle.std.proofs.lemmas.Bool.{and_parts, and_from, cases_Bool, cases_lt, cond_both}
use Rattle.std.proofs.lemmas.Bool.Decides.{nat_tests}
use Rattle.text.specs.Fields.{numeral, amount, longest}
use Rattle.text.proofs.Longest.{longest_is}

-- the test for digits and the library's word for them say the same
pub decimals : IsNumeralModel (λ ds. all_ascii_digits ds ≡ true) (digits_value 10)
decimals = numerals_by_value _ tells_all_ascii_digits

-- what a number of at most so many digits is
pub record Number (most : ℕ) (w : List ℕ) : Type 0 where
  pub digits : AllDigits 10 w
  pub some : 1 ≤ length w
  pub few : length w ≤ most
  pub lead : get_or w 0 0 ≡ 48 → length w ≡ 1

-- what passes the test is a number
pub number_from : (most : ℕ) (w : List ℕ) → numeral most w ≡ true → Number most w
number_from most w e = record {
  digits = decimals.to w (and_parts (all_ascii_digits w) _ e).0;
  some = grind (arith, nat_tests);
  few = grind (arith, nat_tests);
  lead = λ z. grind (arith, nat_tests);
}

-- a number passes the test
pub number_to : (most : ℕ) (w : List ℕ) → Number most w → numeral most w ≡ true
number_to most w n = let d = decimals.from w n.digits in grind (arith, nat_tests)

-- what is not a number fails the test
number_none : (most : ℕ) (w : List ℕ) → (Number most w → ⊥) → numeral most w ≡ false
number_none most w no_number = ⊎_elim (λ t. absurd (no_number (number_from most w t))) (λ f. f) (cases_Bool (numeral most w))

-- after a 0 nothing more is read
pub length_zero : (most : ℕ) (xs : List ℕ) → 1 ≤ most → starts_with eqb xs (48 ∷ []) ≡ true → longest (numeral most) xs ≡ 1
length_zero most [] m t = absurd (cc)
length_zero most (x ∷ xs) m t =
    let e : x ≡ 48 = grind (arith, nat_tests) in
    let zero : numeral most (48 ∷ []) ≡ true = grind (arith, nat_tests) in
    longest_is (numeral most) (x ∷ xs) 1 (omega arith) (inr (ap (λ z. numeral most (z ∷ [])) e ∙ zero))
    (λ k a b. number_none most (take k (x ∷ xs)) (λ n. omega (arith, n.lead (get_or-take k (x ∷ xs) 0 0 (omega (arith, a)) ∙ e), length-take-le k (x ∷ xs) b, a)))

-- the digits at the front are digits
front_digits : (xs : List ℕ) → all_ascii_digits (take (prefix_len is_ascii_digit xs) xs) ≡ true
front_digits [] = refl
front_digits (x ∷ xs) =
    cond_both (is_ascii_digit x) _ _ (λ n. all_ascii_digits (take n (x ∷ xs)) ≡ true)
    (λ d. let e : 1 + prefix_len is_ascii_digit xs ≡ suc (prefix_len is_ascii_digit xs) = omega arith in
    ap (λ n. all_ascii_digits (take n (x ∷ xs))) e ∙ and_from (is_ascii_digit x) _ d (front_digits xs))
    (λ _. refl)

-- where no 0 leads, the digits at the front, so many at the most, are the longest number
pub length_digits : (most : ℕ) (xs : List ℕ) → starts_with eqb xs (48 ∷ []) ≡ false → longest (numeral most) xs ≡ prefix_len is_ascii_digit (take most xs)
length_digits most xs other =
    longest_is (numeral most) xs n within
    (⊎_elim
    (λ h. inr (number_to most (take n xs) (record {
      digits = decimals.to (take n xs) (ap all_ascii_digits (sym (take-take n most xs few)) ∙ front_digits (take most xs));
      some = omega (arith, h, short);
      few = omega (arith, short, few);
      lead = λ e. absurd (lead xs other (omega (arith, h, within)) (sym (get_or-take n xs 0 0 h) ∙ e));
    })))
    (λ h. inl (omega (arith, h)))
    (cases_lt 0 n))
    (λ k a b. number_none most (take k xs) (λ m.
    let long = length-take-le k xs b in
    let small : n < most = omega (arith, long, m.few, a) in
    let stops = prefix_len_stops is_ascii_digit (take most xs) 0 (omega (arith, taken, small, a, b)) in
    let here = get_or-take most xs n 0 small in
    let there = get_or-take k xs n 0 a in
    let d = digit_at (take k xs) n m.digits (omega (arith, long, a)) in
    no_digit (get_or (take most xs) n 0) stops (omega (arith, here, there, d.0), omega (arith, here, there, d.1))))
  where
    n : ℕ
    n = prefix_len is_ascii_digit (take most xs)

    taken : length (take most xs) ≡ min most (length xs)
    taken = length-take most xs

    few : n ≤ most
    few = omega (arith, prefix_len-le-length is_ascii_digit (take most xs), taken)

    within : n ≤ length xs
    within = omega (arith, prefix_len-le-length is_ascii_digit (take most xs), taken)

    short : length (take n xs) ≡ n
    short = length-take-le n xs within

    lead : (ys : List ℕ) → starts_with eqb ys (48 ∷ []) ≡ false → 0 < length ys → get_or ys 0 0 ≡ 48 → ⊥
    lead [] f l e = omega arith
    lead (y ∷ ys) f l e = grind (arith, nat_tests)

    no_digit : (c : ℕ) → is_ascii_digit c ≡ false → IsInRange 48 57 c → ⊥
    no_digit c f r = grind (arith, nat_tests)

-- a beginning of digits is digits
digits_front : (k : ℕ) (w : List ℕ) → AllDigits 10 w → AllDigits 10 (take k w)
digits_front zero w d = tt
digits_front (suc k) [] d = tt
digits_front (suc k) (c ∷ w) d = (d.0, digits_front k w d.1)

-- what is read with the digit at i of a number of at most ten digits
pub record Next (xs : List ℕ) (i : ℕ) : Type 0 where
  pub digit : 48 ≤ get_or xs i 0
  pub small : get_or xs i 0 ≤ 57
  pub before : amount (take i xs) < 10 ^ 9
  pub after : amount (take (i + 1) xs) ≡ amount (take i xs) * 10 + (get_or xs i 0 - 48)

-- each digit of a number can be read
pub next_digit : (xs : List ℕ) (i : ℕ) → Number 10 xs → i < length xs → Next xs i
next_digit xs i n l =
    let d = digit_at xs i n.digits l in
    record {
      digit = d.0;
      small = d.1;
      before = digits_value_short decimals (take i xs) 9 (decimals.from (take i xs) (digits_front i xs n.digits)) (omega (arith, length-take-le i xs (omega (arith, l)), n.few, l));
      after = digits_value_more 10 xs i l ∙ ap (λ z. amount (take i xs) * 10 + z) (let e : digit_value (get_or xs i 0) ≡ get_or xs i 0 - 48 = omega (arith, digit_value_digit (get_or xs i 0) d) in e);
    }

-- a beginning of a number is a number
pub numeral_front : (most k : ℕ) (w : List ℕ) → 0 < k → k ≤ length w → numeral most w ≡ true → numeral most (take k w) ≡ true
numeral_front most k w some l t =
    let n = number_from most w t in
    let long = length-take-le k w l in
    number_to most (take k w) (record {
      digits = digits_front k w n.digits;
      some = omega (arith, long);
      few = omega (arith, long, n.few);
      lead = λ z. let one = n.lead (sym (get_or-take k w 0 0 some) ∙ z) in omega (arith, long, one);
    })

-- a number of at most so many digits is one of at most more
pub numeral_more : (few most : ℕ) (w : List ℕ) → few ≤ most → numeral few w ≡ true → numeral most w ≡ true
numeral_more few most w l t =
    let n = number_from few w t in
    number_to most w (record { digits = n.digits; some = n.some; few = omega (arith, l, n.few); lead = n.lead })

-- a number is small
pub numeral_small : (most : ℕ) (w : List ℕ) → numeral most w ≡ true → amount w < 10 ^ most
numeral_small most w t = let n = number_from most w t in digits_value_short decimals w most (decimals.from w n.digits) n.few

-- a number that fits in a word is what is written of its amount
pub decimal_amount : (most : ℕ) (w : List ℕ) → 10 ^ most ≤ 2 ^ 64 → numeral most w ≡ true → decimal (amount w) ≡ w
decimal_amount most w fits t =
    let n = number_from most w t in
    decimal-digits_value decimals w (decimals.from w n.digits) n.some n.lead (omega (arith, fits, numeral_small most w t))

-- what is written of an amount that fits is a number
pub numeral_decimal : (most n : ℕ) → 0 < most → 10 ^ most ≤ 2 ^ 64 → n < 10 ^ most → numeral most (decimal n) ≡ true
numeral_decimal most n some fits h =
    let big : n < 2 ^ 64 = omega (arith, fits, h) in
    number_to most (decimal n) (record {
      digits = decimals.to (decimal n) (digits_decimal decimals n big);
      some = decimal_nonempty n big;
      few = length-decimal-le most n some h big;
      lead = λ z. ⊎_elim (λ one. ap length (decimal_digit n one)) (λ more. let first : 48 < get_or (decimal n) 0 0 = first_decimal n (omega (arith, more)) big in omega (arith, z, first)) (cases_lt n 10);
    })
