-- Of a value that is not negative, the rounding up is told by the rounding down: the same number where that is exact, else the next one. So one division gives
-- both.
use mathlib.Core.Path.{◌≡◌, refl, sym, ap, ◌∙◌}
use mathlib.Core.Bool.{Bool, false, cond, and-true, and-false}
use Prim.Native.Nat.{ℕ, zero, suc, ◌+◌, ◌-◌, ◌*◌, ◌/◌, ◌%◌, ◌^◌, ◌≤◌, ◌<◌}
use native.Mathlib.Nat.{pos_of_ne-zero, div-add-mod', div-lt_iff_lt-mul, mul-div_cancel, eq_of_mul-eq-mul_right}
use native.Mathlib.Omega.{arith}
use borrow.Author.Tests.{lt-ltb, eq-eqb, ne_eqb}
use lib.Dec.{ltb}
use lib.Ieee.{down}
use lib.IntN.{ℤ, nat_abs}
use lib.Pow.{pow_pos}
use Rattle.numbers.specs.Accuracy.{accuracy_of}
use Rattle.numbers.specs.Fraction.{Fraction, IsFraction, Equal, value, is_negative}
use Rattle.numbers.specs.Grid.{next_of, up_by}
use Rattle.numbers.specs.Rounding.{goes_up, whole_of, placed, rounded_at, round, has_at_most_bits}
use Rattle.numbers.specs.declared.answer.Accuracy.{Accuracy}
use Rattle.numbers.specs.declared.answer.Accuracy.TheVariants as accuracy
use Rattle.numbers.specs.declared.number.Number.{Number}
use Rattle.numbers.specs.declared.number.Number.TheVariants.{Zero, Finite}
use Rattle.numbers.specs.declared.task.Mode.{Mode}
use Rattle.numbers.specs.declared.task.Mode.TheVariants.{Up, Down}
use Rattle.numbers.proofs.Laws.Tests.{never}
use Rattle.numbers.proofs.Laws.Fractions.{equal_magnitudes}
use Rattle.numbers.proofs.Laws.Scaled.{value_fraction}
use Rattle.numbers.proofs.Laws.Exponent.{scaled_positive}
use Rattle.numbers.proofs.Laws.Rounded.{exponent, numerator_at, denominator_at, whole, round_ratio}
use Rattle.numbers.proofs.Laws.Bounds.{kept}
use Rattle.numbers.proofs.Laws.Fits.{round_zero, scaled_high}
use Rattle.numbers.proofs.Laws.Accuracy.{exact_means}

-- a / b without a sign, made a whole number
whole_down : (a b : ℕ) → whole_of Down false a b ≡ a / b
unfolding whole_of goes_up
whole_down a b = rw (and-false (ltb 0 (a % b))) (omega arith)

whole_up : (a b : ℕ) → whole_of Up false a b ≡ a / b + cond (ltb 0 (a % b)) 1 0
unfolding whole_of goes_up
whole_up a b = rw (and-true (ltb 0 (a % b)))

-- q units of n bits, without a carry, and the number next to them
plain : (s : Bool) (e : ℤ) (n q : ℕ) → q < 2 ^ n → placed s e n q ≡ Finite s e (q * 2 ^ (64 - n))
unfolding placed
plain s e n q h = rw (ne_eqb q (2 ^ n) (λ (k : q ≡ 2 ^ n). omega arith))

next_placed : (s : Bool) (e : ℤ) (n q : ℕ) → q < 2 ^ n → next_of n (placed s e n q) ≡ placed s e n (suc q)
unfolding next_of
next_placed s e n q h = rw (plain s e n q h) (ap (λ (m : ℕ). placed s e n (suc m)) (mul-div_cancel q (pow_pos (64 - n))))

module _ (n : ℕ) (x : Fraction) (x0 : IsFraction x) (n0 : 1 ≤ n) (n1 : n ≤ 64) (plus : is_negative x.numerator ≡ false) where
  abbrev low : Number
  low = round Down n x

  abbrev kept_whole : ℕ
  kept_whole = numerator_at n x / denominator_at x

  abbrev rest : ℕ
  rest = numerator_at n x % denominator_at x

  -- the two whole numbers
  down_whole : whole Down n x ≡ kept_whole
  down_whole = rw plus (whole_down (numerator_at n x) (denominator_at x))

  up_whole : whole Up n x ≡ kept_whole + cond (ltb 0 rest) 1 0
  up_whole = rw plus (whole_up (numerator_at n x) (denominator_at x))

  -- the rounding down is exact just where nothing is dropped
  exact_rest : Equal (value low) x → rest ≡ 0
  exact_rest e =
      let r = round_ratio Down n x x0 n0 n1 in
      let same : whole Down n x * denominator_at x ≡ numerator_at n x =
      eq_of_mul-eq-mul_right (value low).denominator (value_fraction low) _ _ (sym r.first ∙ ap (λ (m : ℕ). m * (2 ^ (n - 1) * down (exponent x))) (equal_magnitudes (value low) x e) ∙ r.second) in
      omega (arith, ap (λ (m : ℕ). m * denominator_at x) down_whole, div-add-mod' (numerator_at n x) (denominator_at x))

  rest_exact : rest ≡ 0 → accuracy_of (value low) x ≡ accuracy.Exact
  unfolding has_at_most_bits
  rest_exact e = (exact_means (value low) x).1 (kept x n x0 n0 n1 Down (eq-eqb rest 0 e))

  -- the numbers that they are placed as
  some_placed : (mode : Mode) → 0 < nat_abs x.numerator → round mode n x ≡ placed false (exponent x) n (whole mode n x)
  unfolding round rounded_at
  some_placed mode m0 =
      rw (ne_eqb (nat_abs x.numerator) 0 (λ (z : nat_abs x.numerator ≡ 0). omega arith)) (ap (λ (s : Bool). placed s (exponent x) n (whole mode n x)) plus)

  same_number : 0 < nat_abs x.numerator → rest ≡ 0 → round Up n x ≡ low
  same_number m0 e =
      let whole_same : whole Up n x ≡ whole Down n x = up_whole ∙ rw e (omega (arith, down_whole)) in
      some_placed Up m0 ∙ ap (placed false (exponent x) n) whole_same ∙ sym (some_placed Down m0)

  next_number : 0 < nat_abs x.numerator → 0 < rest → round Up n x ≡ next_of n low
  next_number m0 r0 =
      let one_more : whole Up n x ≡ suc kept_whole = up_whole ∙ rw (lt-ltb 0 rest r0) (omega arith) in
      let below : kept_whole < 2 ^ n = (div-lt_iff_lt-mul (scaled_positive (exponent x) x.denominator x0)).1 (scaled_high (nat_abs x.numerator) x.denominator n m0 x0 n0) in
      some_placed Up m0
      ∙ ap (placed false (exponent x) n) one_more
      ∙ sym (next_placed false (exponent x) n kept_whole below)
      ∙ ap (next_of n) (ap (placed false (exponent x) n) (sym down_whole) ∙ sym (some_placed Down m0))

  pub up_by_down : round Up n x ≡ up_by n low (accuracy_of (value low) x)
  unfolding up_by next_of
  up_by_down = go (nat_abs x.numerator) refl (accuracy_of (value low) x) refl
    where
      inexact : {a : Accuracy} → accuracy_of (value low) x ≡ a → (a ≡ accuracy.Exact → ⊥) → 0 < rest
      inexact h other = pos_of_ne-zero (λ (z : rest ≡ 0). other (sym h ∙ rest_exact z))

      zeros : (a : Accuracy) → Zero ≡ up_by n Zero a
      zeros accuracy.Exact = refl
      zeros accuracy.Below = refl
      zeros accuracy.Above = refl

      go : (m : ℕ) → nat_abs x.numerator ≡ m → (a : Accuracy) → accuracy_of (value low) x ≡ a → round Up n x ≡ up_by n low a
      go zero e a h = rw (round_zero Up n x e, round_zero Down n x e) (zeros a)
      go (suc m) e accuracy.Exact h = same_number (omega arith) (exact_rest ((exact_means (value low) x).0 h))
      go (suc m) e accuracy.Below h = next_number (omega arith) (inexact h (λ k. never cc))
      go (suc m) e accuracy.Above h = next_number (omega arith) (inexact h (λ k. never cc))
