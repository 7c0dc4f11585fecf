-- The most bytes of whole numbers and figures.
use mathlib.Core.Bool.{Bool, true, false, cond}
use mathlib.Core.List.{[], ◌∷◌, ◌++◌}
use mathlib.Core.Path.{◌≡◌}
use Prim.Native.Nat.{ℕ, zero, suc, ◌+◌, ◌/◌, ◌%◌, ◌≤◌}
use native.Mathlib.Omega.{arith}
use lib.Dec.{ltb, lit≤}
use lib.IntN.{ℤ, pos, negsuc}
use lib.ListN.{length, length-append}
use Rattle.numbers.specs.declared.number.Number.{Number}
use Rattle.numbers.specs.declared.number.Number.TheVariants.{Zero, Finite}
use Rattle.io.specs.Digits.{hex_digit_ascii, last_digits}
use Rattle.text.specs.Text.{ascii, decimal_by, decimal_of, sixteen_digits, integer_text, figure_text}

by_most : (most n : ℕ) → length (decimal_by most n) ≤ most
unfolding decimal_by
by_most zero n = lit≤ tt
by_most (suc most) n = go (ltb n 10) (by_most most (n / 10))
  where
    go : (t : Bool) → length (decimal_by most (n / 10)) ≤ most → length (cond t (hex_digit_ascii n ∷ []) (decimal_by most (n / 10) ++ (hex_digit_ascii (n % 10) ∷ []))) ≤ suc most
    go true h = omega arith
    go false h = rw (length-append (decimal_by most (n / 10)) (hex_digit_ascii (n % 10) ∷ [])) (omega arith)

pub decimal_length : (n : ℕ) → length (decimal_of n) ≤ 20
unfolding decimal_of
decimal_length n = by_most 20 n

digits_length : (b k n : ℕ) → length (last_digits b k n) ≡ k
digits_length b zero n = omega arith
digits_length b (suc k) n = rw (length-append (last_digits b k (n / b)) (hex_digit_ascii (n % b) ∷ [])) (omega (arith, digits_length b k (n / b)))

integer_length : (z : ℤ) → length (integer_text z) ≤ 21
unfolding integer_text ascii
integer_length (pos n) = omega (arith, decimal_length n)
integer_length (negsuc n) = omega (arith, decimal_length (n + 1))

pub figure_length : (x : Number) → length (figure_text x) ≤ 38
unfolding figure_text sixteen_digits ascii
figure_length Zero = lit≤ tt
figure_length (Finite negative e S) = rw (length-append (last_digits 16 16 S) (ascii " " ++ integer_text e), digits_length 16 16 S) (omega (arith, integer_length e))
