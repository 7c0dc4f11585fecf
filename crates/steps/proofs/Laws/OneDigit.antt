-- Steps 10 to 15, and again 16 to 21, 22 to 27, 28 and 29: a digit and the remainder after it, of any remainder, zero too.
use mathlib.Core.Path.{◌≡◌, refl, sym, ap, ◌∙◌}
use mathlib.Core.Bool.{Bool, false}
use Prim.Native.Nat.{ℕ, ◌+◌, ◌-◌, ◌≤◌, ◌<◌}
use native.Mathlib.Omega.{arith}
use lib.Dec.{lit≤}
use lib.IntN.{nat_abs, zero-*ℤ}
use Rattle.numbers.specs.Biased.{origin}
use Rattle.numbers.specs.Fraction.{value, difference, product, quotient, is_negative, IsScaled}
use Rattle.numbers.specs.Rounding.{by_mode, claim}
use Rattle.numbers.specs.declared.number.Number.{Number}
use Rattle.numbers.specs.declared.number.Number.TheVariants.{Zero, Finite}
use Rattle.numbers.specs.declared.task.Mode.{Mode}
use Rattle.numbers.specs.declared.task.Mode.TheVariants.{Trunc, Away}
use Rattle.numbers.proofs.Laws.Fits.{zero_working}
use Rattle.numbers.proofs.Laws.Fractions.{product_fraction, quotient_zero}
use Rattle.numbers.proofs.Laws.Signs.{abs_zero}
use Rattle.numbers.proofs.Laws.Value.{rounded_zero}
use Rattle.numbers.proofs.Laws.Scaled.{finite_scaled, zero_value, zero_scaled, value_fraction}
use Rattle.division.proofs.Laws.Quotients.{quotient_short}
use Rattle.division.proofs.Laws.Range.{InRange, IsBounded}
use Rattle.steps.proofs.Laws.Estimate.{HasQuotient, has_quotient, in_units, has_digit, has_last}
use Rattle.steps.proofs.Laws.Next.{after_digit, has_next}
use Rattle.steps.proofs.Laws.Terms.{IsPrepared, Under, HasDigit, HasNext, IsLast, lowest_after}

-- ---- zero

zero_product : (y : Number) → nat_abs (product (value Zero) (value y)).numerator ≡ 0
unfolding product value
zero_product y = ap nat_abs (zero-*ℤ (value y).numerator)

zero_difference : nat_abs (difference (value Zero) (value Zero)).numerator ≡ 0
unfolding difference value
zero_difference = refl

zeros : {s : Bool} {i o : ℕ} → IsScaled (value Zero) s 0 i o
zeros = zero_scaled (value_fraction Zero) zero_value

zero_digit : (mode : Mode) (b D g u : ℕ) (d r : Number) → u + 23 ≤ g → HasDigit mode b D g d r Zero
zero_digit mode b D g u d r h = record {
  upper = Zero;
  digit = Zero;
  unit = u;
  finer = h;
  first_step = rounded_zero (by_mode Trunc 32) (value Zero) zero_value;
  second_step = rounded_zero (by_mode mode 24) (product (value Zero) (value r)) (zero_product r);
  is_digit = record { sign = false; whole = 0; bits = lit≤ tt; fit = zero_working; amount = zeros };
  reaches = λ (z : 0 < nat_abs (value Zero).numerator). absurd (omega (arith, z, zero_value));
}

module _ {s : Bool} {b D : ℕ} (d : Number) (D0 : 0 < D) (divisor : IsScaled (value d) s D b origin) where
  zero_next : (u c : ℕ) (h l : Number) → HasNext b D u c d h l Zero Zero
  zero_next u c h l =
      let none = rounded_zero (claim 64) (difference (value Zero) (value Zero)) zero_difference in
      after_digit {t = false} {i = u} d Zero Zero Zero D0 divisor D0 zeros
      (zero_scaled (product_fraction (value Zero) (value d) (value_fraction Zero) (value_fraction d)) (zero_product d)) zeros c h l Zero Zero Zero
      (rounded_zero (claim 64) (product (value Zero) (value h)) (zero_product h)) (rounded_zero (claim 64) (product (value Zero) (value l)) (zero_product l)) none none tt

  zero_last : IsLast d Zero Zero
  zero_last = record {
    sign = ap is_negative (abs_zero (value Zero).numerator zero_value ∙ sym (abs_zero (quotient (value Zero) (value d)).numerator (quotient_zero (value Zero) (value d) zero_value)));
    short = quotient_short D0 divisor (zeros {s = false} {i = 0}) 0 (omega arith) (zeros {s = false});
    zero_only = λ (z : nat_abs (value Zero).numerator ≡ 0). z;
  }

-- ---- any remainder

module _ (s : Bool) (b D : ℕ) (d h l r : Number) (is : IsPrepared s b D d h l r)
    (c g : ℕ) (low : lowest_after 3 ≤ c) (grid : c + 24 ≤ g) (x : Number) (remainder : IsBounded c x) (under : Under D g x) where
  some : 0 < D
  some = omega (arith, is.range.top)

  wider : {a R : ℕ} → InRange c a R → InRange (lowest_after 3) a R
  wider range = record { lowest = omega arith; highest = range.highest; top = range.top; word = range.word }

  quotient_of_is : (mode : Mode) {t : Bool} {a R : ℕ} (y : Number) → InRange c a R → IsScaled (value y) t R a origin → HasQuotient mode s t b D a R r y
  quotient_of_is mode {t} {a} {R} y range amount = has_quotient s t b D a R r y is.range is.reciprocal (wider range) amount mode

  -- one of the first three
  pub digit_away : (a : HasDigit Away b D g d r x) × (c ≤ a.unit) × HasNext b D a.unit (c - 88) d h l x a.digit
  unfolding zero_digit has_digit
  digit_away = go x remainder under
    where
      go : (x : Number) → IsBounded c x → Under D g x → (a : HasDigit Away b D g d r x) × (c ≤ a.unit) × HasNext b D a.unit (c - 88) d h l x a.digit
      go Zero remainder under = (zero_digit Away b D g (g - 24) d r (omega arith), omega arith, zero_next d some is.amount (g - 24) (c - 88) h l)
      go (Finite t e R) (a, k, range) under =
          let amount = finite_scaled t a R k in
          let q = quotient_of_is Away (Finite t e R) range amount in (
            has_digit q amount d g some is.amount under,
            omega arith,
            has_next s t b D a R d h l (Finite t e R) q.digit is.range is.amount is.halves (wider range)
                q.dropped q.left q.whole q.word q.least q.most q.bits (in_units q amount) q.amount (q.near refl) (c - 88) (omega (arith, q.least)),
          )

  -- the fourth
  pub digit_trunc : (a : HasDigit Trunc b D g d r x) × (c ≤ a.unit) × IsLast d x a.digit
  unfolding zero_digit has_digit
  digit_trunc = go x remainder under
    where
      go : (x : Number) → IsBounded c x → Under D g x → (a : HasDigit Trunc b D g d r x) × (c ≤ a.unit) × IsLast d x a.digit
      go Zero remainder under = (zero_digit Trunc b D g (g - 24) d r (omega arith), omega arith, zero_last d some is.amount)
      go (Finite t e R) (a, k, range) under =
          let amount = finite_scaled t a R k in
          let q = quotient_of_is Trunc (Finite t e R) range amount in
          (has_digit q amount d g some is.amount under, omega arith, has_last q amount d refl some (omega arith) is.amount)
