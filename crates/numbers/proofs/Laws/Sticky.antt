-- A sticky rounding and its exact value: no multiple of a grid of two units or more tells them apart.
use mathlib.Core.Path.{◌≡◌, refl}
use mathlib.Core.Bool.{Bool, true, false, cond}
use Prim.Native.Nat.{ℕ, suc, ◌+◌, ◌-◌, ◌*◌, ◌/◌, ◌%◌, ◌^◌, ◌≤◌, ◌<◌}
use native.Mathlib.Nat.{mul-le-mul_right, mul-lt-mul_of_pos_right, lt_of_mul-lt-mul_right, mod-le, pos_of_ne-zero}
use native.Mathlib.Omega.{arith}
use borrow.Author.Tests.{eqb-true, eqb-false, lt-ltb}
use lib.Dec.{eqb, lit<}
use lib.Ieee.{up, down}
use lib.Ieee.Fits.{down_pos}
use lib.IntN.{nat_abs}
use lib.Pow.{pow-add}
use Rattle.numbers.specs.Cell.{odd_of}
use Rattle.numbers.specs.Fraction.{Fraction, IsFraction, is_negative, scaled, value, IsScaled}
use Rattle.numbers.specs.Grid.{HasCell, Alike}
use Rattle.numbers.specs.Rounding.{scaled_numerator, scaled_denominator, goes_up, whole_of, round, has_at_most_bits}
use Rattle.numbers.specs.declared.number.Number.{Number}
use Rattle.numbers.specs.declared.task.Mode.TheVariants.{Sticky}
use Rattle.numbers.proofs.Laws.Alike.{own_sign, alike_equal, alike_back, alike_through, odd_alike}
use Rattle.numbers.proofs.Laws.Bounds.{kept}
use Rattle.numbers.proofs.Laws.Cell.{cell_ratio}
use Rattle.numbers.proofs.Laws.Exponent.{exponent_reaches, scaled_positive}
use Rattle.numbers.proofs.Laws.Powers.{power_product, up_power, down_power, pow_below}
use Rattle.numbers.proofs.Laws.Rounded.{exponent, numerator_at, denominator_at, round_units}
use Rattle.numbers.proofs.Laws.Scaled.{scaled_fraction, signed_scaled, value_fraction}
use Rattle.numbers.proofs.Laws.Whole.{cell_of_is}

-- the odd one of q and q + 1 is what sticky makes of q and a fraction
whole_odd : (s : Bool) (a b : ℕ) → 0 < a % b → whole_of Sticky s a b ≡ odd_of (a / b)
unfolding whole_of goes_up odd_of
whole_odd s a b h = rw (lt-ltb 0 (a % b) h) (go (eqb (a / b % 2) 0) (eqb-true (a / b % 2) 0) (eqb-false (a / b % 2) 0))
  where
    go : (t : Bool) → (t ≡ true → a / b % 2 ≡ 0) → (t ≡ false → a / b % 2 ≡ 0 → ⊥) → a / b + cond t 1 0 ≡ a / b / 2 * 2 + 1
    go true h k = let e : a / b % 2 ≡ 0 = h refl in omega arith
    go false h k = let e : a / b % 2 ≡ 1 = (let z = k refl in omega (arith, pos_of_ne-zero z)) in omega arith

-- a unit is less than a grid, where X / d is less than p grids
unit_below_grid : (X d p v u I O : ℕ) → 0 < v → d * u ≤ X * v → X * O < p * (d * I) → u * O < I * (p * v)
unit_below_grid X d p v u I O v0 least small = lt_of_mul-lt-mul_right d (omega (arith, mul-le-mul_right O least, mul-lt-mul_of_pos_right {k = v} small v0))

module _ (i o n : ℕ) (x : Fraction) (x0 : IsFraction x) (n0 : 1 ≤ n) (n1 : n ≤ 64) (small : nat_abs x.numerator * 2 ^ o < 2 ^ (n - 1) * (x.denominator * 2 ^ i)) where
  -- 2^a / 2^c is the unit
  rest_alike : 0 < numerator_at n x % denominator_at x → (a c : ℕ) → up (exponent x) ≡ 2 ^ a → 2 ^ (n - 1) * down (exponent x) ≡ 2 ^ c → Alike i o (value (round Sticky n x)) x
  unfolding scaled_numerator scaled_denominator
  rest_alike rest a c u v =
      alike_through i o (value y) odd x
      (alike_equal i o (value y) odd (value_fraction y) (scaled_fraction s (odd_of q) a c) amount.amount)
      (alike_back i o x odd (odd_alike a c i o s q x x0 (own_sign x) cell coarse))
    where
      y : Number
      y = round Sticky n x

      X : ℕ
      X = nat_abs x.numerator

      d : ℕ
      d = x.denominator

      s : Bool
      s = is_negative x.numerator

      q : ℕ
      q = numerator_at n x / denominator_at x

      odd : Fraction
      odd = scaled s (odd_of q) a c

      some : 0 < X
      some = lt_of_mul-lt-mul_right (2 ^ (n - 1) * down (exponent x)) (omega (arith, rest, mod-le (numerator_at n x) (denominator_at x)))

      amount : IsScaled (value y) s (odd_of q) a c
      amount =
          signed_scaled (value_fraction y) (round_units Sticky n x x0 n0 n1).sign
          (rw (← u, ← v, ← whole_odd s (numerator_at n x) (denominator_at x) rest) (round_units Sticky n x x0 n0 n1).ratio)

      below_grid : 2 ^ (a + o) < 2 ^ (i + c)
      below_grid =
          rw (pow-add 2 a o, pow-add 2 i c, ← u, ← v)
          (unit_below_grid X d (2 ^ (n - 1)) (down (exponent x)) (up (exponent x)) (2 ^ i) (2 ^ o) (down_pos (exponent x)) (exponent_reaches X d some x0) small)

      coarse : suc a + o ≤ i + c
      coarse = omega (arith, pow_below (a + o) (i + c) below_grid)

      cell : HasCell x a c q true
      cell =
          rw (← u, ← v) (cell_ratio true (numerator_at n x) q (denominator_at x) _ _ 1 1 (lit< tt) (lit< tt) (omega arith) (omega arith)
          (rw (lt-ltb 0 (numerator_at n x % denominator_at x) rest) at (cell_of_is (numerator_at n x) (denominator_at x) (scaled_positive (exponent x) x.denominator x0))))

  -- The sticky rounding of a fraction below 2^(n − 1) grids is alike to it.
  pub sticky_alike : Alike i o (value (round Sticky n x)) x
  unfolding has_at_most_bits
  sticky_alike = go (has_at_most_bits n (nat_abs x.numerator) x.denominator) refl
    where
      go : (b : Bool) → has_at_most_bits n (nat_abs x.numerator) x.denominator ≡ b → Alike i o (value (round Sticky n x)) x
      go true h = alike_equal i o (value (round Sticky n x)) x (value_fraction (round Sticky n x)) x0 (kept x n x0 n0 n1 Sticky h)
      go false h =
          let a = up_power (exponent x) in
          let c = power_product (2 ^ (n - 1)) (down (exponent x)) (n - 1, refl) (down_power (exponent x)) in
          rest_alike (pos_of_ne-zero (eqb-false (numerator_at n x % denominator_at x) 0 h)) a.0 c.0 a.1 c.1
