-- What each mode means (specs/Meaning): a rounding has that meaning, for every fraction, mode and n, and nothing else has it.
use mathlib.Core.Path.{◌≡◌, refl, sym, ◌∙◌}
use mathlib.Core.Bool.{true}
use Prim.Native.Nat.{ℕ, ◌≤◌}
use lib.IntN.{ℤ}
use Rattle.numbers.specs.Fraction.{Fraction, IsFraction, Equal, value, is_negative}
use Rattle.numbers.specs.Number.{is_fit}
use Rattle.numbers.specs.Rounding.{round}
use Rattle.numbers.specs.declared.number.Number.{Number}
use Rattle.numbers.specs.declared.number.Number.TheVariants.{Zero, Finite}
use Rattle.numbers.specs.declared.task.Mode.{Mode}
use Rattle.numbers.specs.declared.task.Mode.TheVariants.{Trunc, Away, Near, Sticky, Up, Down}
use Rattle.numbers.proofs.Laws.Scaled.{value_fraction}
use Rattle.numbers.proofs.Laws.Pairs.{equal_back, equal_through}
use Rattle.numbers.proofs.Laws.Bounds.{trunc_below, away_above, up_above, down_below}
use Rattle.numbers.proofs.Laws.Fits.{round_fits}
use Rattle.numbers.proofs.Laws.Same.{round_equal, round_finite}
use Rattle.numbers.proofs.Laws.Working.{fit_parts}
use Rattle.meaning.specs.Meaning.{IsTrunc, IsAway, IsUp, IsDown, Meaning}
use Rattle.meaning.proofs.Between.{round_bits, round_sign, size_above, size_below, value_above, value_below}
use Rattle.meaning.proofs.Nearest.{near_means, near_one, sticky_means, sticky_one}
use Rattle.meaning.proofs.Sides.{at_most_both, same_size}

-- ---- trunc, away, up and down

module _ (n : ℕ) (x : Fraction) (x0 : IsFraction x) (n0 : 1 ≤ n) (n1 : n ≤ 64) where
  trunc_means : IsTrunc n x (value (round Trunc n x))
  trunc_means = record {
    bits = round_bits Trunc n x x0 n0 n1;
    side = round_sign Trunc n x x0 n0 n1;
    within = trunc_below x n x0 n0 n1;
    greatest = size_above Trunc n x x0 n0 n1;
  }

  away_means : IsAway n x (value (round Away n x))
  away_means = record {
    bits = round_bits Away n x x0 n0 n1;
    side = round_sign Away n x x0 n0 n1;
    beyond = away_above x n x0 n0 n1;
    least = size_below Away n x x0 n0 n1;
  }

  up_means : IsUp n x (value (round Up n x))
  up_means = record { bits = round_bits Up n x x0 n0 n1; above = up_above x n x0 n0 n1; least = value_below Up n x x0 n0 n1 }

  down_means : IsDown n x (value (round Down n x))
  down_means = record { bits = round_bits Down n x x0 n0 n1; below = down_below x n x0 n0 n1; greatest = value_above Down n x x0 n0 n1 }

-- two that have one of these meanings are equal, as each is at most the other
module _ (n : ℕ) (x y z : Fraction) where
  trunc_one : IsTrunc n x y → IsTrunc n x z → Equal y z
  trunc_one h k =
      same_size (is_negative x.numerator) y z h.side k.side (k.greatest y h.bits h.within) (h.greatest z k.bits k.within)

  away_one : IsAway n x y → IsAway n x z → Equal y z
  away_one h k = same_size (is_negative x.numerator) y z h.side k.side (h.least z k.bits k.beyond) (k.least y h.bits h.beyond)

  up_one : IsUp n x y → IsUp n x z → Equal y z
  up_one h k = at_most_both y z (h.least z k.bits k.above) (k.least y h.bits h.above)

  down_one : IsDown n x y → IsDown n x z → Equal y z
  down_one h k = at_most_both y z (k.greatest y h.bits h.below) (h.greatest z k.bits k.below)

-- ---- every mode

-- A rounding has the meaning of its mode.
pub round_means : (mode : Mode) (n : ℕ) (x : Fraction) → IsFraction x → 1 ≤ n → n ≤ 64 → Meaning mode n x (value (round mode n x))
unfolding Meaning
round_means Trunc n x x0 n0 n1 = trunc_means n x x0 n0 n1
round_means Away n x x0 n0 n1 = away_means n x x0 n0 n1
round_means Near n x x0 n0 n1 = near_means n x x0 n0 n1
round_means Sticky n x x0 n0 n1 = sticky_means n x x0 n0 n1
round_means Up n x x0 n0 n1 = up_means n x x0 n0 n1
round_means Down n x x0 n0 n1 = down_means n x x0 n0 n1

-- What has the meaning has the value of the rounding.
pub meaning_round : (mode : Mode) (n : ℕ) (x y : Fraction) → IsFraction x → 1 ≤ n → n ≤ 64 → Meaning mode n x y → Equal y (value (round mode n x))
unfolding Meaning
meaning_round Trunc n x y x0 n0 n1 h = trunc_one n x y (value (round Trunc n x)) h (trunc_means n x x0 n0 n1)
meaning_round Away n x y x0 n0 n1 h = away_one n x y (value (round Away n x)) h (away_means n x x0 n0 n1)
meaning_round Near n x y x0 n0 n1 h = near_one n x x0 n0 n1 y h
meaning_round Sticky n x y x0 n0 n1 h = sticky_one n x x0 n0 n1 y h
meaning_round Up n x y x0 n0 n1 h = up_one n x y (value (round Up n x)) h (up_means n x x0 n0 n1)
meaning_round Down n x y x0 n0 n1 h = down_one n x y (value (round Down n x)) h (down_means n x x0 n0 n1)

-- The meaning allows one value only.
pub meaning_one : (mode : Mode) (n : ℕ) (x y z : Fraction) → IsFraction x → 1 ≤ n → n ≤ 64 → Meaning mode n x y → Meaning mode n x z → Equal y z
meaning_one mode n x y z x0 n0 n1 h k =
    let r = round mode n x in
    equal_through y (value r) z (value_fraction r)
    (meaning_round mode n x y x0 n0 n1 h) (equal_back z (value r) (meaning_round mode n x z x0 n0 n1 k))

-- a number with its top bit set is its own rounding to 64 bits, whatever its exponent
round_fit : (z : Number) → is_fit (λ (e : ℤ). true) z ≡ true → round Trunc 64 (value z) ≡ z
unfolding round value
round_fit Zero h = refl
round_fit (Finite s e S) h = let k = fit_parts (λ (e : ℤ). true) s e S h in round_finite Trunc s e S k.1 k.2

-- The rounding is the only number, its top bit set, whose value has the meaning.
pub only_rounding : (mode : Mode) (n : ℕ) (x : Fraction) → IsFraction x → 1 ≤ n → n ≤ 64 → (z : Number) → is_fit (λ (e : ℤ). true) z ≡ true
    → Meaning mode n x (value z) → z ≡ round mode n x
only_rounding mode n x x0 n0 n1 z fit h =
    sym (round_fit z fit)
    ∙ round_equal z (round mode n x) (meaning_round mode n x (value z) x0 n0 n1 h)
    ∙ round_fit (round mode n x) (round_fits mode n x x0 n0 n1)
