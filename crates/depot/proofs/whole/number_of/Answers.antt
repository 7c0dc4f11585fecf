-- `depot::whole::number_of` meets its contract: n moves left by its leading zeros z, and the exponent is 63 − z.
use mathlib.Core.Path.{◌≡◌, refl, sym, ap}
use mathlib.Core.Bool.{true, false}
use Prim.Native.Nat.{ℕ, ◌-◌, ◌*◌, ◌%◌, ◌^◌, ◌≤◌, ◌<◌}
use native.Mathlib.Nat.{mod-eq_of_lt}
use native.Mathlib.Omega.{arith}
use borrow.Author.Tests.{le-leb, lt-ltb}
use lib.Count.{count_leading_zeros}
use lib.IntN.{pos}
use mir.Facts.{to_z_pos}
use mir.Syntax.{w32}
use mir.Val.{to_z}
use Rattle.numbers.specs.Number.{is_significand, is_fit, is_admissible}
use Rattle.numbers.specs.Fraction.{Equal, signed, value}
use Rattle.numbers.specs.declared.number.Number.TheVariants.{Zero, Finite}
use Rattle.numbers.proofs.Laws.Powers.{power_sum}
use Rattle.numbers.proofs.Laws.Minus.{minus_natural}
use Rattle.numbers.proofs.Laws.Bias.{admissible}
use Rattle.numbers.proofs.Laws.Words.{top_first}
use Rattle.depot.specs.Figures.{whole}
use Rattle.depot.proofs.whole.number_of.Goals as goal
use Rattle.depot.proofs.whole.number_of.Goals.{After-from-word}

of_zero : (n : ℕ) → n ≡ 0 → (is_admissible Zero ≡ true) × Equal (value Zero) (whole n)
unfolding is_fit Equal value whole
of_zero n is = rw is (refl, refl)

-- n with its top bit at bit 63
module _ (z n : ℕ) (few : z ≤ 63) (low : 2 ^ 63 ≤ n * 2 ^ z) (high : n * 2 ^ z < 2 ^ 64) where
  admissible_is : is_admissible (Finite false (pos (63 - z)) (n * 2 ^ z)) ≡ true
  unfolding is_fit is_significand
  admissible_is = rw (← minus_natural 63 z few, admissible 63 z (omega arith) (omega arith), le-leb _ _ low, lt-ltb _ _ high)

  is_whole : Equal (value (Finite false (pos (63 - z)) (n * 2 ^ z))) (whole n)
  unfolding Equal value signed whole
  is_whole =
      let power : 2 ^ z * 2 ^ (63 - z) ≡ 2 ^ 63 = sym (power_sum 63 z (63 - z) (omega arith)) in
      ap pos (omega (arith, ap (λ (k : ℕ). n * k) power))

  -- as the machine has it
  made : (is_admissible (Finite false (to_z w32 (63 - z)) (n * 2 ^ z % 2 ^ 64)) ≡ true) × Equal (value (Finite false (to_z w32 (63 - z)) (n * 2 ^ z % 2 ^ 64))) (whole n)
  made = rw (to_z_pos w32 {n = 63 - z} (omega arith), mod-eq_of_lt high) (admissible_is, is_whole)

-- the zeros, which are few
few : (c : After-from-word) → count_leading_zeros 64 c.from-word.result ≤ 63
few c = rw c.from-word.ensures (top_first _ c.if-n-eq0.false (omega arith)).0

pub returns-then-n-eq0 : goal.returns-then-n-eq0
returns-then-n-eq0 c = of_zero _ c.if-n-eq0.true

pub overflow_sub-result : goal.overflow_sub-result
overflow_sub-result c = omega (arith, few c)

pub overflow_cast-result : goal.overflow_cast-result
overflow_cast-result c = record { sfits = omega arith }

pub overflow_cast-result-2 : goal.overflow_cast-result-2
overflow_cast-result-2 c = record { fits = omega (arith, few c) }

pub overflow_shl-result : goal.overflow_shl-result
overflow_shl-result c = omega (arith, few c)

pub returns : goal.returns
returns c =
    rw c.from-word.ensures
    (let m = top_first _ c.if-n-eq0.false (omega arith) in made _ _ m.0 m.1 m.2)
