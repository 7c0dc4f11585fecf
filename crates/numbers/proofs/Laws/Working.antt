-- What the fit test says of a number's parts, and a number that passes it.
use mathlib.Core.Path.{◌≡◌}
use mathlib.Core.Bool.{Bool, true, and-eq-true_iff}
use Prim.Native.Nat.{ℕ, ◌^◌, ◌≤◌, ◌<◌}
use native.Mathlib.Omega.{arith}
use borrow.Author.Tests.{leb-true, ltb-true, le-leb, lt-ltb}
use lib.Dec.{leb, ltb}
use lib.Ieee.{minus}
use lib.IntN.{ℤ}
use Rattle.numbers.specs.Biased.{bias, highest_biased}
use Rattle.numbers.specs.Number.{is_significand, is_fit, is_working_exponent, is_working}
use Rattle.numbers.specs.declared.number.Number.{Number}
use Rattle.numbers.specs.declared.number.Number.TheVariants.{Finite}
use Rattle.numbers.proofs.Laws.Bias.{working}

-- a number that is not zero and is fit
pub fit_parts : (in_range : ℤ → Bool) (s : Bool) (e : ℤ) (S : ℕ) → is_fit in_range (Finite s e S) ≡ true → (in_range e ≡ true) × (2 ^ 63 ≤ S) × (S < 2 ^ 64)
unfolding is_fit is_significand
fit_parts in_range s e S h =
    let a = (and-eq-true_iff (in_range e) (is_significand S)).0 h in
    let b = (and-eq-true_iff (leb (2 ^ 63) S) (ltb S (2 ^ 64))).0 a.1 in
    (a.0, leb-true (2 ^ 63) S b.0, ltb-true S (2 ^ 64) b.1)

pub record IsWorkingFinite (e : ℤ) (S : ℕ) : Type 0 where
  pub exponent : is_working_exponent e ≡ true
  pub top : 2 ^ 63 ≤ S
  pub word : S < 2 ^ 64

pub working_parts : (x : Number) (s : Bool) (e : ℤ) (S : ℕ) → is_working x ≡ true → x ≡ Finite s e S → IsWorkingFinite e S
working_parts x s e S h k = let parts = fit_parts is_working_exponent s e S (rw k at h) in record { exponent = parts.0; top = parts.1; word = parts.2 }

-- a number of a biased exponent and a significand is working
pub finite_working : (s : Bool) (b S : ℕ) → b ≤ highest_biased → 2 ^ 63 ≤ S → S < 2 ^ 64 → is_working (Finite s (minus b bias) S) ≡ true
unfolding is_fit is_significand
finite_working s b S h top word = rw (working b bias (omega arith) (omega arith), le-leb (2 ^ 63) S top, lt-ltb S (2 ^ 64) word)
