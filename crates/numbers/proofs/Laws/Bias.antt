-- Biased exponents: which exponents i − o lie in a range, and what a biased one stands for.
use mathlib.Core.Path.{◌≡◌, refl, sym, ap, ap₂, ◌∙◌}
use mathlib.Core.Bool.{true, false, ◌&&◌, and-false, and-eq-true_iff}
use Prim.Native.Nat.{ℕ, ◌+◌, ◌-◌, ◌≤◌, ◌<◌}
use native.Mathlib.Omega.{arith}
use lib.Dec.{leb}
use lib.Ieee.{minus}
use lib.IntN.{ℤ, pos, ◌+ℤ◌}
use borrow.Author.Tests.{leb-true, le-leb, lt-leb}
use Rattle.numbers.specs.Biased.{bias, highest_biased}
use Rattle.numbers.specs.Fraction.{above, below}
use Rattle.numbers.specs.Number.{is_between, is_working_exponent, is_admissible_exponent}
use Rattle.numbers.proofs.Laws.Minus.{split_minus, minus_order, minus_plus, minus_natural}
use Rattle.numbers.proofs.Laws.Splits.{own_split}
use Rattle.numbers.proofs.Laws.Tests.{leb_same}

-- ---- is i - o from -low to high?

between_test : (low high i o : ℕ) → is_between (minus 0 low) (minus high 0) (minus i o) ≡ leb o (i + low) && leb i (o + high)
unfolding is_between
between_test low high i o =
    ap₂ ◌&&◌
    (minus_order 0 low i o ∙ leb_same (0 + o) (i + low) o (i + low) (λ (l : 0 + o ≤ i + low). omega arith) (λ (l : o ≤ i + low). omega arith))
    (minus_order i o high 0 ∙ leb_same (i + 0) (high + o) i (o + high) (λ (l : i + 0 ≤ high + o). omega arith) (λ (l : i ≤ o + high). omega arith))

pub between : (low high i o : ℕ) → o ≤ i + low → i ≤ o + high → is_between (minus 0 low) (minus high 0) (minus i o) ≡ true
between low high i o a b = between_test low high i o ∙ rw (le-leb o (i + low) a, le-leb i (o + high) b)

pub between_range : (low high i o : ℕ) → is_between (minus 0 low) (minus high 0) (minus i o) ≡ true → (o ≤ i + low) × (i ≤ o + high)
between_range low high i o h =
    let both = (and-eq-true_iff (leb o (i + low)) (leb i (o + high))).0 (sym (between_test low high i o) ∙ h) in
    (leb-true o (i + low) both.0, leb-true i (o + high) both.1)

-- an exponent from −low to high, biased by a number that is at least `low`, so that the sum is natural
pub biased : (low high by : ℕ) → low ≤ by → (e : ℤ) → is_between (minus 0 low) (minus high 0) e ≡ true
    → (b : ℕ) × (by ≤ b + low) × (b ≤ by + high) × (e ≡ minus b by)
biased low high by enough e h =
    let own = split_minus (above e) (below e) (own_split e) refl in
    let range = between_range low high (above e) (below e) (rw own at h) in
    (above e + by - below e, omega (arith, range), omega (arith, range), split_minus (above e + by - below e) by (own_split e) (omega (arith, range)))

-- ---- working: from −65,535 to 65,536

pub working : (i o : ℕ) → o ≤ i + bias → i ≤ o + 65536 → is_working_exponent (minus i o) ≡ true
unfolding is_working_exponent
working i o a b = between bias 65536 i o a b

pub too_low : (i o : ℕ) → i + bias < o → is_working_exponent (minus i o) ≡ false
unfolding is_working_exponent
too_low i o h = between_test bias 65536 i o ∙ rw (lt-leb o (i + bias) h)

pub too_high : (i o : ℕ) → o + 65536 < i → is_working_exponent (minus i o) ≡ false
unfolding is_working_exponent
too_high i o h = between_test bias 65536 i o ∙ rw (lt-leb i (o + 65536) h, and-false (leb o (i + bias)))

pub working_range : (i o : ℕ) → is_working_exponent (minus i o) ≡ true → (o ≤ i + bias) × (i ≤ o + 65536)
unfolding is_working_exponent
working_range i o h = between_range bias 65536 i o h

-- e + 65,535 is a natural number, and e is that number less 65,535
pub biased_working : (e : ℤ) → is_working_exponent e ≡ true → (b : ℕ) × (e +ℤ pos bias ≡ pos b) × (b ≤ highest_biased) × (e ≡ minus b bias)
unfolding is_working_exponent
biased_working e h =
    let w = biased bias 65536 bias (omega arith) e h in
    (w.0, ap (λ (z : ℤ). z +ℤ pos bias) w.3 ∙ minus_plus w.0 bias bias ∙ minus_natural (w.0 + bias) bias (omega arith) ∙ ap pos (omega arith), w.2, w.3)

-- ---- admissible: from −16,446 to 16,384

pub admissible : (i o : ℕ) → o ≤ i + 16446 → i ≤ o + 16384 → is_admissible_exponent (minus i o) ≡ true
unfolding is_admissible_exponent
admissible i o a b = between 16446 16384 i o a b
