-- `numbers::top::Top::is_inside` meets its contract: the two tests are the two ends of the working exponents, for (exponent + 127) - (2^31 + zeros).
use mathlib.Core.Path.{◌≡◌, sym, ◌∙◌}
use mathlib.Core.Bool.{false}
use Prim.Native.Nat.{ℕ, ◌+◌, ◌-◌, ◌≤◌, ◌<◌}
use native.Mathlib.Decide.{dec_le}
use native.Mathlib.Nat.{lt_of_not-le}
use native.Mathlib.Omega.{arith}
use borrow.Author.Tests.{le-leb, lt-leb}
use lib.Dec.{leb}
use lib.Ieee.{minus}
use Rattle.numbers.specs.Biased.{raise, highest_biased}
use Rattle.numbers.specs.Number.{is_working_exponent}
use Rattle.numbers.proofs.Laws.Bias.{too_low, too_high, working}
use Rattle.numbers.proofs.top.Top.is_inside.Goals as goal

below : (x z : ℕ) → x < z + 2147417986 → false ≡ is_working_exponent (minus (x + 127) (raise + z))
unfolding raise
below x z h = sym (too_low (x + 127) (raise + z) (omega arith))

above : (x z : ℕ) → z + 2147417986 ≤ x → leb (x - (z + 2147417986)) highest_biased ≡ is_working_exponent (minus (x + 127) (raise + z))
unfolding raise
above x z h = go (dec_le (x - (z + 2147417986)) highest_biased)
  where
    go : Dec (x - (z + 2147417986) ≤ highest_biased) → leb (x - (z + 2147417986)) highest_biased ≡ is_working_exponent (minus (x + 127) (raise + z))
    go (yes l) = le-leb (x - (z + 2147417986)) highest_biased l ∙ sym (working (x + 127) (raise + z) (omega arith) (omega arith))
    go (no n) = let l = lt_of_not-le n in lt-leb (x - (z + 2147417986)) highest_biased l ∙ sym (too_high (x + 127) (raise + z) (omega arith))

pub returns-then-self : goal.returns-then-self
returns-then-self c = below _ _ c.if-self.true

pub returns : goal.returns
returns c = above _ _ c.if-self.false
