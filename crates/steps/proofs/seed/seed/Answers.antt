-- `steps::seed::seed` meets its contract: the entry is exact in eight bits, and the exponent is −1 less the divisor's.
use mathlib.Core.Path.{◌≡◌, sym, subst, ap, ap₂, ◌∙◌}
use mathlib.Core.Bool.{Bool, true}
use Prim.Native.Nat.{ℕ, ◌+◌, ◌-◌, ◌*◌, ◌%◌, ◌^◌, ◌≤◌, ◌<◌}
use native.Mathlib.Nat.{mod-eq_of_lt}
use native.Mathlib.Omega.{arith}
use lib.Ieee.{minus}
use lib.IntN.{ℤ, negsuc, ◌-ℤ◌}
use mir.Facts.{to_z-of_z}
use mir.Syntax.{w32}
use mir.Val.{SFits, to_z, of_z}
use borrow.Author.Rules.{rules}
use Rattle.numbers.specs.Biased.{bias}
use Rattle.numbers.specs.Answer.{given, rounded}
use Rattle.numbers.specs.Number.{is_working, is_admissible}
use Rattle.numbers.specs.Rounding.{claim}
use Rattle.numbers.specs.declared.number.Number.{Number}
use Rattle.numbers.specs.declared.number.Number.TheVariants.{Finite}
use Rattle.numbers.proofs.Laws.Working.{finite_working}
use Rattle.numbers.proofs.Laws.Minus.{minus_same, minus_minus}
use Rattle.numbers.proofs.Laws.Same.{same_number}
use Rattle.numbers.proofs.Laws.SignedWords.{minus_fits}
use Rattle.numbers.proofs.Laws.Scaled.{origin_is, working_scaled, coarser, equal_scaled}
use Rattle.division.specs.Seed.{index_of}
use Rattle.division.proofs.Laws.Admissible.{admissible_parts}
use Rattle.division.proofs.Laws.Divisible.{not_zero}
use Rattle.division.proofs.Laws.Seeds.{entry_for, entry_range, index_below}
use Rattle.division.proofs.Laws.Range.{InRange, IsBounded, lowest_admissible}
use Rattle.steps.specs.Steps.{seed}
use Rattle.steps.proofs.Laws.SeedStep.{seed_step}
use Rattle.steps.proofs.seed.seed.Goals as goal

module _ (d : Number) (s : Bool) (e : ℤ) (S : ℕ) (is : d ≡ Finite s e S) (fit : is_admissible d ≡ true) (fits : SFits w32 e) where
  parts : IsBounded lowest_admissible (Finite s e S)
  parts = admissible_parts (Finite s e S) (subst (λ (x : Number). is_admissible x ≡ true) is fit)

  abbrev b : ℕ
  b = parts.0

  range : InRange lowest_admissible b S
  range = parts.2

  -- −1 − e, biased, is 131,069 − b: 131,069 is 2 × 65,535 − 1
  exponent_is : negsuc 0 -ℤ to_z w32 (of_z w32 e) ≡ minus (131069 - b) bias
  exponent_is =
      ap (λ (z : ℤ). negsuc 0 -ℤ z) (to_z-of_z fits ∙ parts.1)
      ∙ minus_minus 0 1 b bias
      ∙ minus_same (0 + bias) (1 + b) (131069 - b) bias (omega (arith, range.highest))

  exponent_fits : SFits w32 (negsuc 0 -ℤ to_z w32 (of_z w32 e))
  exponent_fits = rw exponent_is (minus_fits (131069 - b) bias (omega arith) (omega (arith, range.highest)))

  module _ (T : ℕ) (entry : T ≡ entry_for S) where
    -- the number that the code makes
    abbrev made : Number
    made = Finite s (to_z w32 (of_z w32 (negsuc 0 -ℤ to_z w32 (of_z w32 e)))) (T * 2 ^ 56 % 2 ^ 64)

    byte : (128 ≤ entry_for S) × (entry_for S < 256)
    byte = entry_range (index_of S) (index_below S)

    made_is : made ≡ Finite s (minus (131069 - b) bias) (entry_for S * 2 ^ 56)
    made_is =
        ap₂ (λ (z : ℤ) (n : ℕ). Finite s z n) (to_z-of_z exponent_fits ∙ exponent_is)
        (ap (λ (n : ℕ). n * 2 ^ 56 % 2 ^ 64) entry ∙ mod-eq_of_lt (omega (arith, byte.1)))

    seeded : (given made ≡ rounded (claim 8) (seed d)) × (is_working made ≡ true)
    seeded =
        let step = seed_step s b S range in
        let x = Finite s (minus (131069 - b) bias) (entry_for S * 2 ^ 56) in
        let fit = finite_working s (131069 - b) (entry_for S * 2 ^ 56) (omega arith) (omega (arith, byte.0)) (omega (arith, byte.1)) in
        let own = working_scaled s (131069 - b) (entry_for S * 2 ^ 56) in
        let equal = equal_scaled step.amount (coarser (entry_for S) 56 own (omega (arith, origin_is, range.highest))) in
        let number = same_number step.number x step.fit fit equal ∙ sym made_is in
        let divisor : Finite s (minus b bias) S ≡ d = ap (λ (z : ℤ). Finite s z S) (sym parts.1) ∙ sym is in
        (ap given (sym number) ∙ sym step.step ∙ ap (λ (y : Number). rounded (claim 8) (seed y)) divisor, rw (← number) step.fit)

pub unreachable-requires : goal.unreachable-requires
unreachable-requires c = not_zero _ c.in-Zero.is c.args.d.nonzero

pub invariant_of-result : goal.invariant_of-result
invariant_of-result c =
    let fits : SFits w32 c.in-Finite.exponent = search rules in
    record { fit = (seeded _ _ _ _ c.in-Finite.is c.args.d.fit fits _ (c.from.ensures ∙ c.entry_for.ensures)).1 }

pub returns : goal.returns
returns c =
    let fits : SFits w32 c.in-Finite.exponent = search rules in
    (seeded _ _ _ _ c.in-Finite.is c.args.d.fit fits _ (c.from.ensures ∙ c.entry_for.ensures)).0
