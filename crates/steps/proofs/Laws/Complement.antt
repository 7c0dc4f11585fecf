-- c(t) = 2 − 2^−31 − t and s × c(t) as exact fractions, and c(t) of a t = y / 2^32: it is (2^33 − 2 − y) / 2^32, exact in 64 bits.
use mathlib.Core.Path.{◌≡◌, refl}
use mathlib.Core.Bool.{false}
use Prim.Native.Nat.{ℕ, ◌+◌, ◌-◌, ◌*◌, ◌^◌}
use native.Mathlib.Omega.{arith}
use lib.Dec.{lit≤, lit<}
use lib.IntN.{pos}
use Rattle.numbers.specs.Fraction.{Fraction, IsFraction, Equal, signed, difference, IsScaled}
use Rattle.numbers.specs.Answer.{given}
use Rattle.numbers.specs.declared.number.Number.{Number}
use Rattle.numbers.proofs.Laws.Pairs.{fraction}
use Rattle.numbers.proofs.Laws.Fractions.{difference_fraction, product_fraction}
use Rattle.numbers.proofs.Laws.Exact.{less_scaled}
use Rattle.numbers.proofs.Laws.Scaled.{equal_scaled}
use Rattle.numbers.proofs.Laws.Tasks.{claimed_scaled}
use Rattle.steps.specs.Run.{HasComplement}
use Rattle.steps.specs.Steps.{complement, refined}
use Rattle.steps.proofs.Laws.Terms.{IsBelowTwo}

-- 2 − 2^−31
abbrev pub two_less : Fraction
two_less = difference (fraction (pos 2) 1) (fraction (pos 1) (2 ^ 31))

two_less_scaled : IsScaled two_less false (2 ^ 33 - 2) 0 32
unfolding Equal difference signed
two_less_scaled = record { positive = lit< tt; amount = refl }

pub complement_fraction : (t : Fraction) → IsFraction t → IsFraction (complement t)
unfolding complement
complement_fraction t t0 = difference_fraction two_less t two_less_scaled.positive t0

pub refined_fraction : (s t : Fraction) → IsFraction s → IsFraction t → IsFraction (refined s t)
unfolding refined
refined_fraction s t s0 t0 = product_fraction s (complement t) s0 (complement_fraction t t0)

pub complement_scaled : {t : Fraction} {y z : ℕ} → y + 2 + z ≡ 2 * 2 ^ 32 → IsScaled t false y 0 32 → IsScaled (complement t) false z 0 32
unfolding complement
complement_scaled e h = less_scaled (omega arith) two_less_scaled h

-- A t that is so far below 2 has a complement in 64 bits.
pub has_complement : (t : Number) → IsBelowTwo t → HasComplement (given t)
unfolding HasComplement
has_complement t (y, is, most) =
    let z = 2 * 2 ^ 32 - 2 - y in
    let c = complement_scaled {z = z} (omega arith) is in
    let k = claimed_scaled 64 c (lit≤ tt) (lit≤ tt) (omega arith) (lit≤ tt) (lit≤ tt) in
    (k.number, k.step, equal_scaled k.amount c)
