-- A working number taken apart has the number's value; and the value of a product of two.
use Rattle.std.proofs.Common.{◌≡◌, ℕ, ◌+◌, ◌*◌, ◌^◌, ◌<◌, ◌≤◌, Bool, true, false, ℤ, refl, arith, pow_pos}
use lib.Ieee.{unlike, minus}
use Rattle.numbers.specs.Biased.{bias, highest_biased}
use Rattle.numbers.specs.Fraction.{IsFraction, Equal, value, product, scaled, IsScaled}
use Rattle.numbers.specs.Number.{is_working}
use Rattle.numbers.specs.declared.number.Number.{Number}
use Rattle.numbers.specs.declared.number.Number.TheVariants.{Zero, Finite}
use Rattle.numbers.proofs.Laws.Exact.{product_scaled}
use Rattle.numbers.proofs.Laws.Scaled.{scaled_own, zero_value, zero_scaled, origin_is, finite_scaled, moved, value_fraction}
use Rattle.numbers.proofs.Laws.Working.{working_parts}
use Rattle.arithmetic.specs.Private.{last_bit, operand_value}
use Rattle.arithmetic.specs.declared.operand.Operand.{Operand}

last_bit_is : last_bit ≡ 131196
unfolding last_bit
last_bit_is = refl

pub zero_operand : (x : Number) → x ≡ Zero → Equal (value x) (scaled false 0 (0 + 65598) last_bit)
zero_operand x e = rw e (zero_scaled {i = 0 + 65598} {o = last_bit} (value_fraction Zero) zero_value).amount

pub finite_operand : (x : Number) (s : Bool) (e : ℤ) (S E : ℕ) → x ≡ Finite s e S → is_working x ≡ true → e ≡ minus E bias → E ≤ highest_biased
    → Equal (value x) (scaled s S (E + 65598) last_bit) × (E ≤ highest_biased) × (S < 2 ^ 64) × (0 < S + E → 2 ^ 63 ≤ S)
finite_operand x s e S E k working b range =
    let w = working_parts x s e S working k in
    (rw k (moved (finite_scaled s E S b) {j = E + 65598} {p = last_bit} (omega (arith, last_bit_is, origin_is))).amount, range, w.word, λ (z : 0 < S + E). w.top)

-- ---- the value of an operand, and of a product of two

pub operand_fraction : (a : Operand) → IsFraction (operand_value a)
unfolding operand_value
operand_fraction a = pow_pos last_bit

operand_scaled : (a : Operand) → IsScaled (operand_value a) a.negative a.significand (a.exponent + 65598) last_bit
unfolding operand_value
operand_scaled a = scaled_own a.negative a.significand (a.exponent + 65598) last_bit

pub product_value : (a b : Operand) → Equal (product (operand_value a) (operand_value b)) (scaled (unlike a.negative b.negative) (a.significand * b.significand) (a.exponent + b.exponent) last_bit)
product_value a b = (moved (product_scaled (operand_scaled a) (operand_scaled b)) {j = a.exponent + b.exponent} {p = last_bit} (omega (arith, last_bit_is))).amount
