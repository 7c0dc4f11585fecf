-- The fewest decimal digits that hold a number are those of the definition.
use mathlib.Core.Path.{◌≡◌}
use Prim.Native.Nat.{ℕ, zero, suc, ◌-◌, ◌/◌, ◌^◌, ◌≤◌, ◌<◌}
use native.Mathlib.Decide.{dec_le}
use native.Mathlib.Nat.{one-le-pow, pow-le-pow_right, mod-eq_of_lt, lt_of_not-le}
use native.Mathlib.Numerals.{unary_clauses}
use native.Mathlib.Omega.{arith}
use borrow.Author.Tests.{lt-ltb, le-ltb}
use lib.Dec.{lit≤}
use Rattle.io.specs.Digits.{last_digits, IsDigitCount}
use Rattle.text.specs.Text.{decimal_by, decimal_of, sixteen_digits}

-- ---- how many digits

-- the fewest digits are no more than some that hold the number
pub few : (b least most n k : ℕ) → 0 < b → least ≤ most → n < b ^ most → IsDigitCount b least n k → k ≤ most
few b least most n k base h below f = go (dec_le k most)
  where
    go : Dec (k ≤ most) → k ≤ most
    go (yes p) = p
    go (no p) =
        let more : most < k = lt_of_not-le p in
        let power : b ^ most ≤ b ^ (k - 1) = pow-le-pow_right base (omega arith) in
        absurd (omega (arith, f.2 (omega arith)))

-- ---- in decimal

by_most : (most k n : ℕ) → k ≤ most → IsDigitCount 10 1 n k → last_digits 10 k n ≡ decimal_by most n
unfolding decimal_by
by_most most zero n h f = absurd (omega arith)
by_most zero (suc k) n h f = absurd (omega arith)
by_most (suc most) (suc zero) n h f =
    let one : n < 10 = f.1 in
    rw (mod-eq_of_lt one, lt-ltb n 10 one)
by_most (suc most) (suc (suc k)) n h f =
    let one_less : suc (suc k) - 1 ≡ suc k = omega arith in
    let least : 10 ^ suc k ≤ n = rw one_less at (f.2 (omega arith)) in
    let tenth : IsDigitCount 10 1 (n / 10) (suc k) = (omega arith, omega (arith, f.1), λ (more : 1 < suc k). simp unary_clauses (omega arith)) in
    rw (le-ltb n 10 (omega (arith, one-le-pow k 10 (lit≤ tt))), by_most most (suc k) (n / 10) (omega arith) tenth)

pub decimal : (k n : ℕ) → n < 10 ^ 20 → IsDigitCount 10 1 n k → last_digits 10 k n ≡ decimal_of n
unfolding decimal_of
decimal k n below f = by_most 20 k n (few 10 1 20 n k (lit≤ tt) (lit≤ tt) below f) f

-- ---- in hexadecimal

-- sixteen digits, where no fewer are asked for, of a word
pub sixteen : (k n : ℕ) → n < 16 ^ 16 → IsDigitCount 16 16 n k → last_digits 16 k n ≡ sixteen_digits n
unfolding sixteen_digits
sixteen k n below f = let e : k ≡ 16 = omega (arith, few 16 16 16 n k (lit≤ tt) (lit≤ tt) below f) in rw e
