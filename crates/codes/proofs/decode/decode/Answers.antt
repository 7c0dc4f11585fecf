-- `codes::decode::decode` meets its contract: the refusals in their order, and then the exponent and the significand of the code.
use mathlib.Core.Path.{◌≡◌, sym, ◌∙◌}
use mathlib.Core.Bool.{false}
use Prim.Native.Nat.{ℕ, ◌+◌, ◌-◌, ◌*◌, ◌%◌, ◌^◌, ◌≤◌}
use native.Mathlib.Omega.{arith}
use lib.Dec.{eqb}
use lib.Ieee.{minus}
use lib.IntN.{◌-ℤ◌}
use lib.Pow.{shl_exact}
use mir.Facts.{to_z-of_z}
use mir.Syntax.{w32}
use mir.Val.{SFits, to_z, of_z}
use borrow.Author.Tests.{eq-eqb, ne_eqb}
use Rattle.refusals.specs.Row.{row_number}
use Rattle.numbers.specs.Answer.{answer_outcome}
use Rattle.numbers.specs.Biased.{bias}
use Rattle.numbers.specs.declared.number.Number.TheVariants.{Finite}
use Rattle.numbers.proofs.Laws.SignedWords.{minus_fits, difference_read}
use Rattle.codes.specs.Codes.{all_ones, judged_code, counted, decoded}
use Rattle.codes.specs.Layout.{IsFormat, IsCode}
use Rattle.codes.specs.declared.code.Code.{Code}
use Rattle.codes.specs.declared.code.Format.{Format}
use Rattle.codes.proofs.Laws.Parts.{held_code, all_ones_are}
use Rattle.codes.proofs.Laws.Places.{counted_is}
use Rattle.codes.proofs.decode.decode.Goals as goal

no_ones : (f : Format) (c : Code) → IsFormat f → (c.field ≡ 2 * f.bias + 1 → ⊥) → eqb c.field (all_ones f) ≡ false
no_ones f c formed apart = ne_eqb c.field (all_ones f) (λ (z : c.field ≡ all_ones f). apart (z ∙ all_ones_are f formed))

-- the exponent and the significand, as the machine has them
module _ (f : Format) (c : Code) (needed : IsFormat f × IsCode f c) (k : ℕ) (is : k ≡ counted c.field) where
  counted_small : k ≤ bias
  counted_small = omega (arith, counted_is c.field, needed.0.fields, needed.0.small_bias, needed.1.field_fits)

  exponent_read : to_z w32 k -ℤ to_z w32 f.bias ≡ minus k f.bias
  exponent_read = difference_read k f.bias (omega (arith, counted_small)) (omega (arith, needed.0.small_bias))

  exponent_fits : SFits w32 (to_z w32 k -ℤ to_z w32 f.bias)
  exponent_fits = rw exponent_read (minus_fits k f.bias (omega (arith, counted_small)) (omega (arith, needed.0.small_bias)))

  number_is : decoded f c ≡ Finite c.negative (to_z w32 (of_z w32 (to_z w32 k -ℤ to_z w32 f.bias))) (c.significand * 2 ^ (64 - f.precision) % 2 ^ 64)
  unfolding decoded
  number_is =
      let kept = shl_exact f.precision (64 - f.precision) 64 needed.1.significand_fits (omega (arith, needed.0.word_bits)) in
      rw (to_z-of_z exponent_fits, exponent_read, is, kept)

pub returns-then-field-all_ones : goal.returns-then-field-all_ones
unfolding answer_outcome row_number judged_code
returns-then-field-all_ones g c =
    let held = held_code _ _ _ _ g.met.F.Layout.formed c.FORMAT-format.ensures c.parts-parts.ensures in
    rw (← c.parts-parts.ensures, ← c.FORMAT-format.ensures) (rw (eq-eqb _ _ (c.if-field-all_ones.true ∙ sym (all_ones_are _ held.0))))

pub returns-then-not-canonical : goal.returns-then-not-canonical
unfolding answer_outcome row_number judged_code
returns-then-not-canonical g c =
    let held = held_code _ _ _ _ g.met.F.Layout.formed c.FORMAT-format.ensures c.parts-parts.ensures in
    let canonical = rw (← c.FORMAT-format.ensures) at c.is_canonical-canonical.ensures in
    rw (← c.parts-parts.ensures, ← c.FORMAT-format.ensures)
    (rw (no_ones _ c.parts-parts.result held.0 (assumption), sym canonical ∙ c.if-not-canonical.true))

pub overflow_cast-result : goal.overflow_cast-result
overflow_cast-result g c =
    let held = held_code _ _ _ _ g.met.F.Layout.formed c.FORMAT-format.ensures c.parts-parts.ensures in
    record { sfits = omega (arith, counted_small _ _ held _ c.counted.ensures) }

pub overflow_sub-result : goal.overflow_sub-result
overflow_sub-result g c =
    exponent_fits _ _ (held_code _ _ _ _ g.met.F.Layout.formed c.FORMAT-format.ensures c.parts-parts.ensures) _ c.counted.ensures

pub returns : goal.returns
unfolding answer_outcome row_number judged_code
returns g c =
    let held = held_code _ _ _ _ g.met.F.Layout.formed c.FORMAT-format.ensures c.parts-parts.ensures in
    let canonical = rw (← c.FORMAT-format.ensures) at c.is_canonical-canonical.ensures in
    rw (← c.parts-parts.ensures, ← c.FORMAT-format.ensures)
    (rw (
      no_ones _ c.parts-parts.result held.0 c.if-field-all_ones.false,
      sym canonical ∙ c.if-not-canonical.false,
      number_is _ _ held _ c.counted.ensures,
    ))
