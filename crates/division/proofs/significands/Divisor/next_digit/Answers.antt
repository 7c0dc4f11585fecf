-- `division::significands::Divisor::next_digit` meets its contract: the estimate is the digit or one less, and what is left is exact in two halves (Laws.DigitWords).
use Rattle.std.proofs.Common.{◌≡◌, ℕ, ◌+◌, ◌-◌, ◌*◌, ◌/◌, ◌%◌, ◌^◌, ◌<◌, ◌≤◌, Bool, true, false, ltb, refl, arith}
use mir.Val.{bool_byte}
use Rattle.division.specs.Words.{IsSignificand, IsReciprocalWord, IsQuotient}
use Rattle.division.proofs.Laws.DigitWords.{estimate, estimate_small, estimate_below, estimate_above, left_fits, left_is, corrected}
use Rattle.division.proofs.significands.Divisor.next_digit.Goals as goal

module _ {D X R : ℕ} (d : IsSignificand D) (x : IsReciprocalWord D X) (r : R < D) where
  abbrev q : ℕ
  q = estimate D X R d x r

  small : q < 2 ^ 28
  small = estimate_small D X R d x r

  below : q * D ≤ R * 2 ^ 27
  below = estimate_below D X R d x r

  above : R * 2 ^ 27 < (q + 2) * D
  above = estimate_above D X R d x r

  abbrev low : ℕ
  low = 2 ^ 61 + R % 2 ^ 32 * 2 ^ 27 - q * (D % 2 ^ 32)

  taken_off : q * (D / 2 ^ 32) + 2 ^ 29 ≤ R / 2 ^ 32 * 2 ^ 27 + low / 2 ^ 32
  taken_off = left_fits D R q d.word small below

  -- the two halves of what is left
  abbrev left1 : ℕ
  left1 = R / 2 ^ 32 * 2 ^ 27 + low / 2 ^ 32 - (q * (D / 2 ^ 32) + 2 ^ 29)

  abbrev left0 : ℕ
  left0 = low % 2 ^ 32

  left : left1 * 2 ^ 32 + left0 + q * D ≡ R * 2 ^ 27
  left = left_is D R q d.word small below

  half_word : left0 < 2 ^ 32
  half_word = omega arith

  -- is it corrected?
  abbrev more : Bool
  more = ltb (D / 2 ^ 32) (left1 + (2 ^ 32 + left0 - D % 2 ^ 32) / 2 ^ 32)

  is_quotient : (S : ℕ) → S < 2 ^ 64 → (S + bool_byte more * D) % 2 ^ 64 ≡ left1 % 2 ^ 32 * 2 ^ 32 + left0 → IsQuotient (R * 2 ^ 27) D (q + bool_byte more) S
  is_quotient S s h = corrected D (R * 2 ^ 27) q left1 left0 left half_word above d.word more refl S s h

-- taken off as a word that wraps, and added again
wrapped : (more : Bool) (L D : ℕ) → L < 2 ^ 64 → D < 2 ^ 64 → ((L + (2 ^ 64 - bool_byte more * D)) % 2 ^ 64 + bool_byte more * D) % 2 ^ 64 ≡ L
wrapped false L D h k = omega arith
wrapped true L D h k = omega arith

pub overflow_sub-left1 : goal.overflow_sub-left1
overflow_sub-left1 c = taken_off c.args.self.significand c.args.self.near c.requires

pub returns : goal.returns
returns c =
    rw c.from-correction.ensures
    (is_quotient c.args.self.significand c.args.self.near c.requires _ (omega arith) (wrapped _ _ _ (omega arith) c.args.self.significand.word))
