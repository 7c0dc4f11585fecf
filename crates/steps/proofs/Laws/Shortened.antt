-- A whole number A of 64 bits or more, rounded to 32: the result is a whole number of half words, and misses A by less than 2^(K − 32), where A has K bits
-- at most.
use mathlib.Core.Path.{◌≡◌, ap}
use mathlib.Core.Bool.{Bool, true}
use Prim.Native.Nat.{ℕ, ◌+◌, ◌-◌, ◌*◌, ◌^◌, ◌≤◌, ◌<◌}
use native.Mathlib.Nat.{lt_of_lt_of_le}
use native.Mathlib.Omega.{arith}
use lib.Dec.{lit≤}
use lib.Pow.{pow_mono, pow_pos}
use Rattle.numbers.specs.Biased.{bias, origin}
use Rattle.numbers.specs.Number.{is_working}
use Rattle.numbers.specs.Fraction.{Fraction, value, IsScaled}
use Rattle.numbers.specs.Rounding.{by_mode, whole_of}
use Rattle.numbers.specs.Answer.{given, rounded}
use Rattle.numbers.specs.declared.number.Number.{Number}
use Rattle.numbers.specs.declared.task.Mode.{Mode}
use Rattle.numbers.specs.declared.task.Mode.TheVariants.{Trunc, Away}
use Rattle.numbers.proofs.Laws.Misses.{whole_away, whole_miss, whole_trunc}
use Rattle.numbers.proofs.Laws.Powers.{powers_below, below_powers, power_sum}
use Rattle.numbers.proofs.Laws.Ratio.{gap}
use Rattle.numbers.proofs.Laws.Scaled.{origin_is, moved, coarser}
use Rattle.numbers.proofs.Laws.Tasks.{IsRounded, rounded_scaled}
use Rattle.division.proofs.Laws.Range.{half, half_is, InRange}
use Rattle.steps.proofs.Laws.Terms.{lowest_after}

pub record IsShortened (mode : Mode) (K : ℕ) (x : Fraction) (s : Bool) (A i o : ℕ) : Type 0 where
  pub number : Number
  pub whole : ℕ
  pub step : rounded (by_mode mode 32) x ≡ given number
  pub fit : is_working number ≡ true
  pub amount : IsScaled (value number) s whole i o
  pub near : gap (whole * half) A < 2 ^ (K - 32)
  pub above : mode ≡ Away → A ≤ whole * half
  pub below : mode ≡ Trunc → whole * half ≤ A

pub shortened : (mode : Mode) (K : ℕ) {x : Fraction} {s : Bool} {A i o : ℕ} → IsScaled x s A i (o + 32) → 2 ^ 63 ≤ A → A < 2 ^ K → o + 32 ≤ i + bias → i + K ≤ o + 32 + 65536
    → IsShortened mode K x s A i o
shortened mode K {x} {s} {A} {i} {o} h top word low high = go (rounded_scaled mode 32 K h (lit≤ tt) (lit≤ tt) (omega arith) word low (omega arith))
  where
    go : IsRounded mode 32 x s A i (o + 32) → IsShortened mode K x s A i o
    go r =
        let c = r.dropped in
        let q = whole_of mode s A (2 ^ c) in
        let most = powers_below 31 c K A r.low word in
        let least = below_powers 32 c 63 A top r.high in
        let parts : 2 ^ c ≡ 2 ^ (c - 32) * 2 ^ 32 = power_sum c (c - 32) 32 (omega arith) in
        let same : q * 2 ^ (c - 32) * 2 ^ 32 ≡ q * 2 ^ c = omega (arith, ap (λ (m : ℕ). q * m) parts) in
        record {
          number = r.number;
          whole = q * 2 ^ (c - 32);
          step = r.step;
          fit = r.fit;
          amount = coarser (q * 2 ^ (c - 32)) 32 (rw (← same) at r.amount) (omega arith);
          near = rw (half_is, same) (lt_of_lt_of_le (whole_miss A (2 ^ c) (pow_pos c) mode s) (pow_mono (omega arith)));
          above = λ (e : mode ≡ Away). rw (half_is, same, e) (whole_away A (2 ^ c) (pow_pos c) s);
          below = λ (e : mode ≡ Trunc). rw (half_is, same, e) (whole_trunc A (2 ^ c) (pow_pos c) s);
        }

-- The significand of a number: its upper half is left.
pub word_shortened : (mode : Mode) {x : Fraction} {s : Bool} {c b S : ℕ} → lowest_after 3 ≤ c → InRange c b S → IsScaled x s S b origin → IsShortened mode 64 x s S (b + 32) origin
word_shortened mode low range h = shortened mode 64 (moved h (omega arith)) range.top range.word (omega (arith, origin_is)) (omega (arith, origin_is))
