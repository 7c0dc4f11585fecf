-- A working number is its own rounding to 64 bits, and is known by its value: two working numbers of one value are one number.
use mathlib.Core.Path.{◌≡◌, refl, sym, ◌∙◌}
use mathlib.Core.Bool.{Bool, true}
use Prim.Native.Nat.{ℕ, ◌-◌, ◌*◌, ◌^◌, ◌≤◌, ◌<◌}
use native.Mathlib.Omega.{arith}
use lib.Dec.{lit≤}
use lib.IntN.{ℤ}
use Rattle.numbers.specs.Fraction.{Equal, value}
use Rattle.numbers.specs.Number.{is_working}
use Rattle.numbers.specs.Rounding.{round}
use Rattle.numbers.specs.declared.number.Number.{Number}
use Rattle.numbers.specs.declared.number.Number.TheVariants.{Zero, Finite}
use Rattle.numbers.specs.declared.task.Mode.{Mode}
use Rattle.numbers.specs.declared.task.Mode.TheVariants.{Trunc}
use Rattle.numbers.proofs.Laws.Scaled.{value_fraction}
use Rattle.numbers.proofs.Laws.Bounds.{kept_number}
use Rattle.numbers.proofs.Laws.Value.{value_alone}
use Rattle.numbers.proofs.Laws.Working.{working_parts}

-- numbers of one value have one rounding
pub round_equal : (x y : Number) → Equal (value x) (value y) → round Trunc 64 (value x) ≡ round Trunc 64 (value y)
round_equal x y h = (value_alone 64 (value x) (value y) (lit≤ tt) (value_fraction x) (value_fraction y) h).rounds Trunc

-- a significand with its top bit set is kept by every mode, and so a working number is its own trunc
pub round_finite : (mode : Mode) (s : Bool) (e : ℤ) (S : ℕ) → 2 ^ 63 ≤ S → S < 2 ^ 64 → round mode 64 (value (Finite s e S)) ≡ Finite s e S
round_finite mode s e S low high =
    let one : S * 2 ^ (64 - 64) ≡ S = omega arith in
    rw one at (kept_number mode 64 s e S (lit≤ tt) (lit≤ tt) low high)

pub round_working : (x : Number) → is_working x ≡ true → round Trunc 64 (value x) ≡ x
unfolding round value
round_working Zero h = refl
round_working (Finite s e S) h = let w = working_parts (Finite s e S) s e S h refl in round_finite Trunc s e S w.top w.word

pub same_number : (x y : Number) → is_working x ≡ true → is_working y ≡ true → Equal (value x) (value y) → x ≡ y
same_number x y x0 y0 e = sym (round_working x x0) ∙ round_equal x y e ∙ round_working y y0
