-- `codes::decode::normalize` meets its contract: the significand moves left by its leading zeros, and the exponent goes down by as many.
use mathlib.Core.Path.{◌≡◌, sym, ap, ap₂, ◌∙◌}
use mathlib.Core.Bool.{Bool, true}
use Prim.Native.Nat.{ℕ, ◌+◌, ◌-◌, ◌*◌, ◌%◌, ◌^◌, ◌≤◌, ◌<◌}
use native.Mathlib.Nat.{mod-eq_of_lt}
use native.Mathlib.Omega.{arith}
use lib.Count.{count_leading_zeros}
use lib.Ieee.{minus}
use lib.IntN.{ℤ, ◌-ℤ◌}
use mir.Facts.{to_z-of_z, to_z_pos}
use mir.Syntax.{w32}
use mir.Val.{SFits, to_z, of_z}
use borrow.Author.Rules.{rules}
use Rattle.numbers.specs.Biased.{bias}
use Rattle.numbers.specs.declared.number.Number.{Number}
use Rattle.numbers.specs.declared.number.Number.TheVariants.{Zero, Finite}
use Rattle.numbers.proofs.Laws.Bias.{biased}
use Rattle.numbers.proofs.Laws.Fits.{zero_working}
use Rattle.numbers.proofs.Laws.Minus.{minus_same, minus_less}
use Rattle.numbers.proofs.Laws.Same.{round_working}
use Rattle.numbers.proofs.Laws.SignedWords.{minus_fits}
use Rattle.numbers.proofs.Laws.Words.{top_first}
use Rattle.codes.specs.Codes.{normalized}
use Rattle.codes.specs.Layout.{is_normalizable}
use Rattle.codes.proofs.Laws.Decoded.{normalized_shift, normalized_zero}
use Rattle.codes.proofs.decode.normalize.Goals as goal

none_left : (x : Number) (s : Bool) (e : ℤ) (S : ℕ) → x ≡ Finite s e S → S ≡ 0 → Zero ≡ normalized x
none_left x s e S is z = rw (is, z) (sym (normalized_zero s e))

-- the exponent of x, biased
exponent_biased : (x : Number) (s : Bool) (e : ℤ) (S : ℕ) → is_normalizable x ≡ true → x ≡ Finite s e S
    → (b : ℕ) × (bias ≤ b + 65472) × (b ≤ bias + 65536) × (e ≡ minus b bias)
unfolding is_normalizable
exponent_biased x s e S h is = biased 65472 65536 bias (omega arith) e (rw is at h)

module _ (x : Number) (s : Bool) (e : ℤ) (S : ℕ) (h : is_normalizable x ≡ true) (is : x ≡ Finite s e S)
    (fits : SFits w32 e) (n : S ≡ 0 → ⊥) (word : S < 2 ^ 64) where
  abbrev b : ℕ
  b = (exponent_biased x s e S h is).0

  -- the zeros, which are few
  abbrev z : ℕ
  z = count_leading_zeros 64 S

  few : z ≤ 63
  few = (top_first S n word).0

  -- the exponent less the zeros, as the machine has it
  lowered : to_z w32 (of_z w32 e) -ℤ to_z w32 z ≡ minus (b - z) bias
  lowered =
      let w = exponent_biased x s e S h is in
      let room = few in
      ap₂ ◌-ℤ◌ (to_z-of_z fits ∙ w.3) (to_z_pos w32 {n = z} (omega arith)) ∙ minus_less b bias z ∙ minus_same b (bias + z) (b - z) bias (omega (arith, w.1))

  lowered_fits : SFits w32 (to_z w32 (of_z w32 e) -ℤ to_z w32 z)
  lowered_fits = rw lowered (minus_fits (b - z) bias (omega (arith, (exponent_biased x s e S h is).2)) (omega arith))

  moved : Finite s (to_z w32 (of_z w32 (to_z w32 (of_z w32 e) -ℤ to_z w32 z))) (S * 2 ^ z % 18446744073709551616) ≡ normalized x
  moved =
      let m = top_first S n word in
      let w = exponent_biased x s e S h is in
      ap₂ (Finite s) (to_z-of_z lowered_fits ∙ lowered) (mod-eq_of_lt {m = 18446744073709551616} m.2)
      ∙ sym (ap normalized (is ∙ ap (λ (d : ℤ). Finite s d S) w.3) ∙ normalized_shift s b S z (omega (arith, m.0, w.1)) m.1 m.2)

pub returns-in_default : goal.returns-in_default
returns-in_default c = sym (ap normalized c.in_default.is ∙ round_working Zero zero_working)

pub returns-then-significand-eq0 : goal.returns-then-significand-eq0
returns-then-significand-eq0 c = none_left _ _ _ _ c.in-Finite.is c.if-significand-eq0.true

pub overflow_sub-result : goal.overflow_sub-result
overflow_sub-result c = lowered_fits _ _ _ _ c.requires c.in-Finite.is (search rules) c.if-significand-eq0.false (omega arith)

pub returns : goal.returns
returns c = moved _ _ _ _ c.requires c.in-Finite.is (search rules) c.if-significand-eq0.false (omega arith)
