-- `numbers::top::Top::placed` meets its contract: each way out places the whole number, or the next one.
use mathlib.Core.Path.{◌≡◌, sym, ap, ap₂, ◌∙◌}
use mathlib.Core.Bool.{Bool, true, false, cond}
use Prim.Native.Nat.{ℕ, suc, ◌+◌, ◌-◌, ◌*◌, ◌%◌, ◌^◌, ◌≤◌, ◌<◌}
use native.Mathlib.Nat.{one-mul, mod-eq_of_lt}
use native.Mathlib.Omega.{arith}
use lib.Ieee.{minus}
use lib.IntN.{ℤ}
use lib.Pow.{pow-lt, pow_pos}
use Rattle.numbers.specs.Biased.{raise}
use Rattle.numbers.specs.Answer.{checked}
use Rattle.numbers.specs.Rounding.{placed}
use Rattle.numbers.specs.declared.number.Number.TheVariants.{Finite}
use Rattle.numbers.proofs.Laws.Minus.{suc_minus}
use Rattle.numbers.proofs.Laws.Top.{significand_is, placed_same, placed_carry, placed_next}
use Rattle.numbers.proofs.top.Top.placed.Goals as goal

module _ (negative : Bool) (x z n high : ℕ) (up : Bool) (n0 : 1 ≤ n) (n1 : n ≤ 64) (small : high < 2 ^ n) where
  abbrev e : ℤ
  e = minus (x + 127) (raise + z)

  stays : up ≡ false → checked (Finite negative e (high * 2 ^ (64 - n) % 2 ^ 64)) ≡ checked (placed negative e n (high + cond up 1 0))
  stays h = ap checked (ap (Finite negative e) (significand_is negative e n high n1 small) ∙ sym (rw h (placed_same negative e n high n1 small)))

  unit_is : 1 * 2 ^ (64 - n) % 2 ^ 64 ≡ 2 ^ (64 - n)
  unit_is = ap (λ (m : ℕ). m % 2 ^ 64) (one-mul (2 ^ (64 - n))) ∙ mod-eq_of_lt (pow-lt (shorter n n0))
    where
      shorter : (n : ℕ) → 1 ≤ n → 64 - n < 64
      shorter n h = omega arith

  carries : up ≡ true → (2 ^ 64 - 1) - high * 2 ^ (64 - n) % 2 ^ 64 < 1 * 2 ^ (64 - n) % 2 ^ 64
      → checked (Finite negative (minus (x + 1 + 127) (raise + z)) (2 ^ 63)) ≡ checked (placed negative e n (high + cond up 1 0))
  carries h l =
      ap checked (ap (λ (f : ℤ). Finite negative f (2 ^ 63)) (ap (λ (i : ℕ). minus i (raise + z)) (one_later x) ∙ sym (suc_minus (x + 127) (raise + z)))
      ∙ sym (rw h (placed_carry negative e n high n1 small (passed (high * 2 ^ (64 - n) % 2 ^ 64) (1 * 2 ^ (64 - n) % 2 ^ 64) l (significand_is negative e n high n1 small) unit_is))))
    where
      one_later : (x : ℕ) → x + 1 + 127 ≡ suc (x + 127)
      one_later x = omega arith

      passed : (a b : ℕ) {s u : ℕ} → (2 ^ 64 - 1) - a < b → a ≡ s → b ≡ u → 2 ^ 64 ≤ s + u
      passed a b l p q = omega arith

  goes_on : up ≡ true → 1 * 2 ^ (64 - n) % 2 ^ 64 ≤ (2 ^ 64 - 1) - high * 2 ^ (64 - n) % 2 ^ 64
      → checked (Finite negative e (high * 2 ^ (64 - n) % 2 ^ 64 + 1 * 2 ^ (64 - n) % 2 ^ 64)) ≡ checked (placed negative e n (high + cond up 1 0))
  goes_on h l =
      ap checked (ap (Finite negative e) (ap₂ ◌+◌ (significand_is negative e n high n1 small) unit_is)
      ∙ sym (rw h (placed_next negative e n high n1 small (fits (high * 2 ^ (64 - n) % 2 ^ 64) (1 * 2 ^ (64 - n) % 2 ^ 64) l (significand_is negative e n high n1 small) unit_is (pow_pos (64 - n))))))
    where
      fits : (a b : ℕ) {s u : ℕ} → b ≤ (2 ^ 64 - 1) - a → a ≡ s → b ≡ u → 0 < u → s + u < 2 ^ 64
      fits a b l p q u0 = omega arith

pub returns-then-not-up : goal.returns-then-not-up
returns-then-not-up c = c.checked.ensures ∙ stays _ _ _ _ _ _ c.requires.1 c.requires.2 c.requires.3 c.if-not-up.true

pub returns-then-significand-unit : goal.returns-then-significand-unit
returns-then-significand-unit c =
    c.checked-then-significand-unit.ensures ∙ carries _ _ _ _ _ _ c.requires.1 c.requires.2 c.requires.3 c.if-not-up.false c.if-significand-unit.true

pub returns-else-significand-unit : goal.returns-else-significand-unit
returns-else-significand-unit c =
    c.checked-else-significand-unit.ensures ∙ goes_on _ _ _ _ _ _ c.requires.1 c.requires.2 c.requires.3 c.if-not-up.false c.if-significand-unit.false
