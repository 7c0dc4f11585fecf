-- How far a few roundings to 64 bits take an amount: each moves it by at most one part in 2^63.
use mathlib.Core.Path.{◌≡◌, refl, ap, ◌∙◌}
use Prim.Native.Nat.{ℕ, zero, suc, ◌+◌, ◌*◌, ◌-◌, ◌^◌, ◌≤◌, ◌<◌}
use native.Mathlib.Decide.{dec_le}
use native.Mathlib.Nat.{mul-le-mul_left, mul-le-mul_right, mul-pos, le_of_lt, le_trans, le_of_mul-le-mul_right, lt_of_not-le}
use native.Mathlib.Omega.{arith}
use lib.Dec.{lit≤, ltb→lt, lit<}
use lib.IntN.{ℤ}
use Rattle.numbers.specs.Fraction.{Fraction, Below, signed, value, sum, quotient, magnitude, times, is_negative}
use Rattle.numbers.specs.Rounding.{round}
use Rattle.numbers.specs.declared.task.Mode.{Mode}
use Rattle.numbers.specs.declared.task.Mode.TheVariants.{Up, Down}
use Rattle.numbers.specs.declared.number.Number.{Number}
use Rattle.numbers.proofs.Laws.Scaled.{value_fraction}
use Rattle.numbers.proofs.Laws.Bounds.{down_below, up_above, close_above, close_below}
use Rattle.numbers.proofs.Laws.Fits.{round_zero}
use Rattle.numbers.proofs.Laws.Rounded.{round_units}
use Rattle.depot.specs.Figures.{whole}
use Rattle.depot.proofs.Laws.Amounts.{numerator_of, IsAmount, at_most, sum_numerator, part_numerator, part_denominator}

-- the parts of an amount of which a rounding takes or adds at most one
unfoldable pub parts : ℕ
parts = 2 ^ 63

pub parts_some : 0 < parts
unfolding parts
parts_some = lit< tt

-- x is at most y, and n roundings lead from one to the other: y × (1 − n / 2^63) is at most x
pub record IsClose (n : ℕ) (x y : Fraction) : Type 0 where
  pub below : numerator_of x * y.denominator ≤ numerator_of y * x.denominator
  pub near : numerator_of y * (parts - n) * x.denominator ≤ numerator_of x * parts * y.denominator

-- ---- in whole numbers

-- m roundings and n more
two_parts : (w m n : ℕ) → (w - (m + n)) * w ≤ (w - m) * (w - n)
two_parts w m n = go (dec_le (m + n) w)
  where
    go : Dec (m + n ≤ w) → (w - (m + n)) * w ≤ (w - m) * (w - n)
    go (yes h) =
        let k = w - (m + n) in
        let ew : w ≡ k + (m + n) = omega arith in
        let em : w - m ≡ k + n = omega arith in
        let en : w - n ≡ k + m = omega arith in
        rw (em, en) (let l : k * w ≤ (k + n) * (k + m) = omega (arith, ap (λ (v : ℕ). k * v) ew) in l)
    go (no h) = let none : w - (m + n) ≡ 0 = omega (arith, lt_of_not-le h) in rw none (omega arith)

-- what is a little above is a little below the other way: (w + 1) (w − 1) ≤ w w
turned : (w a b c d : ℕ) → 0 < w → a * w * d ≤ c * (w + 1) * b → a * (w - 1) * d ≤ c * w * b
turned w a b c d w0 h =
    let m = w - 1 in
    let e : w ≡ m + 1 = omega arith in
    le_of_mul-le-mul_right {k = w} (omega (arith, mul-le-mul_right m h, ap (λ (n : ℕ). c * b * n * w) e, ap (λ (n : ℕ). c * b * n) e)) w0

-- ---- amounts

pub close_same : (x : Fraction) → IsClose 0 x x
close_same x = record { below = omega arith; near = let all : parts - 0 ≡ parts = omega arith in rw all (omega arith) }

pub close_more : (m n : ℕ) (x y : Fraction) → m ≤ n → IsClose m x y → IsClose n x y
close_more m n x y h c = record {
  below = c.below;
  near = let l : parts - n ≤ parts - m = omega arith in le_trans (mul-le-mul_right x.denominator (mul-le-mul_left (numerator_of y) l)) c.near;
}

pub close_through : (m n : ℕ) (x y z : Fraction) → IsAmount y → IsClose m x y → IsClose n y z → IsClose (m + n) x z
close_through m n x y z ay c d = record {
  below =
      le_of_mul-le-mul_right {k = y.denominator}
      (omega (arith, mul-le-mul_right z.denominator c.below, mul-le-mul_right x.denominator d.below)) ay.fraction;
  near =
      let both = mul-le-mul_left (numerator_of z * x.denominator * y.denominator) (two_parts parts m n) in
      le_of_mul-le-mul_right {k = parts * y.denominator}
      (omega (arith, both, mul-le-mul_right ((parts - m) * x.denominator) d.near, mul-le-mul_right (parts * z.denominator) c.near))
      (mul-pos parts_some ay.fraction);
}

pub close_sum : (n : ℕ) (x y u v : Fraction) → IsAmount x → IsAmount y → IsAmount u → IsAmount v → IsClose n x u → IsClose n y v → IsClose n (sum x y) (sum u v)
unfolding sum
close_sum n x y u v ax ay au av c d =
    let by = y.denominator * v.denominator in
    let bx = x.denominator * u.denominator in
    record {
      below = rw (sum_numerator x y ax ay, sum_numerator u v au av) (omega (arith, mul-le-mul_right by c.below, mul-le-mul_right bx d.below));
      near = rw (sum_numerator x y ax ay, sum_numerator u v au av) (omega (arith, mul-le-mul_right by c.near, mul-le-mul_right bx d.near));
    }

pub close_part : (n k : ℕ) (x y : Fraction) → IsAmount x → IsAmount y → IsClose n x y → IsClose n (quotient x (whole k)) (quotient y (whole k))
close_part n k x y ax ay c = record {
  below = rw (part_numerator x k ax, part_numerator y k ay, part_denominator x k, part_denominator y k) (omega (arith, mul-le-mul_right k c.below));
  near = rw (part_numerator x k ax, part_numerator y k ay, part_denominator x k, part_denominator y k) (omega (arith, mul-le-mul_right k c.near));
}

-- ---- one rounding

pub round_amount : (mode : Mode) (x : Fraction) → IsAmount x → IsAmount (value (round mode 64 x))
unfolding signed is_negative
round_amount mode x ax = record {
  plus =
      let y = value (round mode 64 x) in
      (round_units mode 64 x ax.fraction (lit≤ tt) (lit≤ tt)).sign ∙ ap (λ (z : ℤ). signed (is_negative z) (numerator_of y)) ax.plus;
  fraction = value_fraction (round mode 64 x);
}

-- down and up
pub round_down : (x : Fraction) → IsAmount x → IsClose 1 (value (round Down 64 x)) x
unfolding Below times magnitude parts
round_down x ax = record {
  below = (at_most (value y) x (round_amount Down x ax) ax).0 (down_below x 64 ax.fraction (lit≤ tt) (lit≤ tt));
  near = go (numerator_of x) refl;
}
  where
    y : Number
    y = round Down 64 x

    go : (a : ℕ) → numerator_of x ≡ a → a * (parts - 1) * (value y).denominator ≤ numerator_of (value y) * parts * x.denominator
    go zero e = omega arith
    go (suc a) e = rw (← e) (le_of_lt (ltb→lt _ _ (close_below x 64 ax.fraction (lit≤ tt) (lit≤ tt) Down (rw e (omega arith))).lt))

pub round_up : (x : Fraction) → IsAmount x → IsClose 1 x (value (round Up 64 x))
unfolding Below times magnitude parts value
round_up x ax = record {
  below = (at_most x (value y) ax (round_amount Up x ax)).0 (up_above x 64 ax.fraction (lit≤ tt) (lit≤ tt));
  near = go (numerator_of x) refl;
}
  where
    y : Number
    y = round Up 64 x

    go : (a : ℕ) → numerator_of x ≡ a → numerator_of (value y) * (parts - 1) * x.denominator ≤ a * parts * (value y).denominator
    go zero e = rw (round_zero Up 64 x e) (omega arith)
    go (suc a) e =
        rw (← e)
        (turned (2 ^ 63) (numerator_of (value y)) (value y).denominator (numerator_of x) x.denominator (lit< tt)
        (le_of_lt (ltb→lt _ _ (close_above x 64 ax.fraction (lit≤ tt) (lit≤ tt) Up (rw e (omega arith))).lt)))
