-- A fraction that is a whole number of n bits times a power of two has at most n significant bits, and a claim of it holds.
use mathlib.Core.Path.{◌≡◌, ap, ◌∙◌}
use mathlib.Core.Bool.{true, false}
use Prim.Native.Nat.{ℕ, zero, suc, ◌+◌, ◌-◌, ◌*◌, ◌%◌, ◌^◌, ◌≤◌, ◌<◌}
use native.Mathlib.Nat.{lt_of_le_of_lt, lt_of_lt_of_le, mul-le-mul, mul-lt-mul_of_pos_right, mul-mod_left}
use native.Mathlib.Omega.{arith}
use borrow.Author.Tests.{eq-eqb, ne_eqb}
use lib.IntN.{nat_abs}
use lib.Pow.{pow-add, pow_pos}
use Rattle.numbers.specs.Number.{is_working_exponent}
use Rattle.numbers.specs.Fraction.{Fraction}
use Rattle.numbers.specs.Rounding.{exponent_of, round, has_at_most_bits}
use Rattle.numbers.specs.Answer.{given, claimed, judged}
use Rattle.numbers.specs.Grid.{InCell}
use Rattle.numbers.specs.declared.task.Mode.TheVariants.{Trunc}
use Rattle.numbers.proofs.Laws.Cell.{bits_at}
use Rattle.numbers.proofs.Laws.Powers.{top_bit, below_top, pow_below, power_sum}

-- a / b is q × 2^i / 2^o
pub bits_of_is : (n a b q i o : ℕ) → 1 ≤ n → 0 < a → 0 < b → q < 2 ^ n → a * 2 ^ o ≡ q * (b * 2 ^ i) → has_at_most_bits n a b ≡ true
bits_of_is n a b zero i o n0 a0 b0 q1 e = absurd (omega (arith, mul-le-mul a0 (pow_pos o)))
bits_of_is n a b (suc p) i o n0 a0 b0 q1 e =
    let q = suc p in
    let F = q * 2 ^ n in
    let big : 2 ^ n ≤ F = omega arith in
    let t = top_bit F (lt_of_lt_of_le (pow_pos n) big) in
    let l : n ≤ t.0 = below_top n t.0 F big t.2 in
    let short : t.0 < n + n = pow_below t.0 (n + n) (rw (pow-add 2 n n) (lt_of_le_of_lt t.1 (mul-lt-mul_of_pos_right q1 (pow_pos n)))) in
    bits_at false a b i (o + n) F t.0 n b0 n0 l t.1 t.2 finer
    ∙ eq-eqb ((2 * F + 0) % (2 * (2 * 2 ^ (t.0 - n)))) 0
    (ap (λ (m : ℕ). m % (2 * (2 * 2 ^ (t.0 - n)))) (whole q n t.0 l short) ∙ mul-mod_left (q * 2 ^ (n + n - (t.0 + 1))) (2 * (2 * 2 ^ (t.0 - n))))
  where
    finer : InCell false (a * 2 ^ (o + n)) (suc p * 2 ^ n) (b * 2 ^ i)
    finer = ap (λ (m : ℕ). a * m) (pow-add 2 o n) ∙ omega (arith, ap (λ (m : ℕ). m * 2 ^ n) e)

    whole : (q n t : ℕ) → n ≤ t → t < n + n → 2 * (q * 2 ^ n) + 0 ≡ q * 2 ^ (n + n - (t + 1)) * (2 * (2 * 2 ^ (t - n)))
    whole q n t l s =
        omega (arith, ap (λ (m : ℕ). q * m) (power_sum n (n + n - (t + 1)) (1 + (t - n)) (omega arith) ∙ ap (λ (m : ℕ). 2 ^ (n + n - (t + 1)) * m) (pow-add 2 1 (t - n))))

-- a claim that holds gives the value, which trunc keeps (Bounds, `kept`)
pub claim_holds : (n : ℕ) (x : Fraction) → 0 < nat_abs x.numerator → is_working_exponent (exponent_of (nat_abs x.numerator) x.denominator) ≡ true
    → has_at_most_bits n (nat_abs x.numerator) x.denominator ≡ true → claimed n x ≡ given (round Trunc n x)
unfolding claimed judged
claim_holds n x x0 w h = rw (ne_eqb (nat_abs x.numerator) 0 (λ (z : nat_abs x.numerator ≡ 0). omega arith), w, h)
