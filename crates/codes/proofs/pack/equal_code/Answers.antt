-- `codes::pack::equal_code` meets its contract: the code has the number's value where no bit of the significand is cut off.
use mathlib.Core.Path.{◌≡◌, refl, sym, ap, ap₂, ◌∙◌}
use mathlib.Core.Bool.{Bool, true, false, not}
use Rattle.std.specs.Prelude.{Ok, Err}
use Prim.Native.Nat.{ℕ, zero, suc, ◌+◌, ◌-◌, ◌/◌, ◌%◌, ◌^◌, ◌≤◌}
use native.Mathlib.Omega.{arith}
use lib.Dec.{leb, ltb, eqb}
use lib.IntN.{ℤ, pos, negsuc}
use lib.Signed.{le_z, lt_z}
use mir.Facts.{to_z-of_z}
use mir.Syntax.{w32}
use mir.Val.{SFits, to_z, of_z}
use borrow.Author.Rules.{rules}
use borrow.Author.Tests.{ltb-true, ltb-false, le-leb, lt-leb, lt-ltb, ne_eqb, not-true, not-false}
use Rattle.numbers.specs.Fraction.{value, is_equal}
use Rattle.numbers.specs.Number.{is_working_exponent, is_working}
use Rattle.numbers.specs.declared.number.Number.{Number}
use Rattle.numbers.specs.declared.number.Number.TheVariants.{Finite}
use Rattle.numbers.proofs.Laws.Bias.{biased_working}
use Rattle.numbers.proofs.Laws.Working.{working_parts}
use Rattle.refusals.specs.declared.Refusal.TheVariants.{NoEqualCode}
use Rattle.codes.specs.Codes.{field_of, below_normal, encoded, decoded, equal_code}
use Rattle.codes.specs.Layout.{IsFormat, packing_of}
use Rattle.codes.specs.declared.code.Format.{Format}
use Rattle.codes.proofs.Laws.Decoded.{encoded_equal}
use Rattle.codes.proofs.Laws.Places.{below_is}
use Rattle.codes.proofs.pack.equal_code.Goals as goal
use Rattle.codes.proofs.pack.equal_code.Goals.{Else-above}

-- a test of two numbers, turned round
natural : (a b : ℕ) (t : Bool) → ltb a b ≡ t → leb b a ≡ not t
natural a b true h = lt-leb b a (ltb-true a b h)
natural a b false h = le-leb b a (ltb-false a b h)

turned : (a b : ℤ) → le_z b a ≡ not (lt_z a b)
turned (pos a) (pos b) = natural a b (ltb a b) refl
turned (pos a) (negsuc b) = refl
turned (negsuc a) (pos b) = refl
turned (negsuc a) (negsuc b) = natural b a (ltb b a) refl

zero_test : (n : ℕ) → eqb n 0 ≡ not (ltb 0 n)
zero_test zero = refl
zero_test (suc n) = rw (lt-ltb 0 (suc n) (omega arith)) (ne_eqb (suc n) 0 (λ (z : suc n ≡ 0). omega arith))

-- a working number that is not zero, with its exponent as the machine reads it
module _ (f : Format) (x : Number) (s : Bool) (e : ℤ) (S : ℕ) (formed : IsFormat f) (working : is_working x ≡ true) (is : x ≡ Finite s e S) (fits : SFits w32 e) where
  exponent_working : is_working_exponent (to_z w32 (of_z w32 e)) ≡ true
  exponent_working = rw (to_z-of_z fits) (working_parts x s e S working is).exponent

  below_most : below_normal f (to_z w32 (of_z w32 e)) ≤ 65536
  below_most = let w = biased_working (to_z w32 (of_z w32 e)) exponent_working in rw (w.3, below_is f w.0 formed) (omega arith)

  abbrev is_high : Bool
  is_high = lt_z (to_z w32 (of_z w32 f.highest)) (to_z w32 (of_z w32 e))

  not_high : le_z e f.highest ≡ not is_high
  not_high =
      let held : SFits w32 f.highest = rw formed.highest_is (record { sfits = omega (arith, formed.small_bias) }) in
      turned f.highest e ∙ sym (ap not (ap₂ lt_z (to_z-of_z held) (to_z-of_z fits)))

  too_high : is_high ≡ true → Err NoEqualCode ≡ packing_of (equal_code f x)
  unfolding packing_of equal_code
  too_high h = rw (is, not_high ∙ ap not h)

  module _ (h : is_high ≡ false) (below : ℕ) (distance : below ≡ below_normal f (to_z w32 (of_z w32 e))) (rest : Bool)
      (rest-is : rest ≡ ltb 0 (S % 2 ^ (below + (64 - f.precision)))) where
    equal : is_equal (value (decoded f (encoded f s e S))) (value (Finite s e S)) ≡ not rest
    equal =
        encoded_equal f s e S formed (working_parts x s e S working is).exponent
        ∙ rw (rest-is, distance, to_z-of_z fits) (zero_test (S % 2 ^ (below_normal f e + (64 - f.precision))))

    lost : rest ≡ true → Err NoEqualCode ≡ packing_of (equal_code f x)
    unfolding packing_of equal_code
    lost r = rw (is, not_high ∙ ap not h, equal ∙ ap not r)

    held : (field significand : ℕ) → rest ≡ false → field ≡ field_of f (to_z w32 (of_z w32 e)) → significand ≡ S / 2 ^ (below + (64 - f.precision))
        → Ok (record { negative = s; field = field; significand = significand }) ≡ packing_of (equal_code f x)
    unfolding packing_of equal_code encoded
    held field significand r field_is significand_is = rw (is, not_high ∙ ap not h, equal ∙ ap not r, field_is, significand_is, distance, to_z-of_z fits)

-- past the first test: the exponent fits its type
exponent_fits : (g : _) (c : Else-above g) → SFits w32 c.in-Finite.exponent
exponent_fits g c = search rules

pub returns-in_default : goal.returns-in_default
unfolding packing_of equal_code
returns-in_default g c = rw c.in_default.is

pub returns-then-above : goal.returns-then-above
returns-then-above g c =
    let fits : SFits w32 c.in-Finite.exponent = search rules in
    rw (← c.FORMAT-format.ensures) (too_high _ _ _ _ _ (rw (← c.FORMAT-format.ensures) at g.met.F.Layout.formed) c.requires c.in-Finite.is fits c.if-above.true)

pub place_of-place-requires : goal.place_of-place-requires
place_of-place-requires g c =
    exponent_working _ _ _ _ _ (rw (← c.FORMAT-format.ensures) at g.met.F.Layout.formed) c.requires c.in-Finite.is (exponent_fits g c)

pub overflow_add-place : goal.overflow_add-place
overflow_add-place g c =
    let most = below_most _ _ _ _ _ (rw (← c.FORMAT-format.ensures) at g.met.F.Layout.formed) c.requires c.in-Finite.is (exponent_fits g (goal.at-overflow_add-place g c).Else-above) in
    record { fits = omega (arith, rw (← c.FORMAT-format.ensures) at c.place_of-place.ensures.1) }

pub returns-then-exact : goal.returns-then-exact
returns-then-exact g c =
    rw (← c.FORMAT-format.ensures) (held _ _ _ _ _ (rw (← c.FORMAT-format.ensures) at g.met.F.Layout.formed) c.requires c.in-Finite.is (exponent_fits g (goal.at-returns-then-exact g c).Else-above) c.if-above.false
    _ (rw (← c.FORMAT-format.ensures) at c.place_of-place.ensures.1) _ c.cut-part.ensures.1 _ _ (not-true _ c.if-exact.true) (rw (← c.FORMAT-format.ensures) at c.place_of-place.ensures.0) c.cut-part.ensures.0)

pub returns : goal.returns
returns g c =
    rw (← c.FORMAT-format.ensures) (lost _ _ _ _ _ (rw (← c.FORMAT-format.ensures) at g.met.F.Layout.formed) c.requires c.in-Finite.is (exponent_fits g (goal.at-returns g c).Else-above) c.if-above.false
    _ (rw (← c.FORMAT-format.ensures) at c.place_of-place.ensures.1) _ c.cut-part.ensures.1 (not-false _ c.if-exact.false))
