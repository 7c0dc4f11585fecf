-- `numbers::decision::goes_up` meets its contract: in each mode the tests on the fraction's word and on the rest are those of `goes_up`.
use mathlib.Core.Path.{◌≡◌, refl, sym, ap, ◌∙◌}
use mathlib.Core.Bool.{Bool, true, false, not}
use Prim.Native.Nat.{ℕ, ◌+◌, ◌*◌, ◌%◌, ◌^◌, ◌≤◌, ◌<◌}
use native.Mathlib.Omega.{arith}
use lib.Dec.{ltb, eqb}
use borrow.Author.Tests.{ltb-true, ltb-false, lt-ltb, le-ltb, ne_eqb, not-true, not-false}
use Rattle.numbers.specs.Grid.{bit_of}
use Rattle.numbers.specs.Rounding.{goes_up}
use Rattle.numbers.specs.declared.task.Mode.{Mode}
use Rattle.numbers.specs.declared.task.Mode.TheVariants.{Trunc, Away, Near, Sticky, Up, Down}
use Rattle.numbers.proofs.decision.goes_up.Goals as goal

-- nothing was dropped: no mode goes up
exact : (mode : Mode) (negative : Bool) (q : ℕ) → goes_up mode negative q 0 (2 ^ 65) ≡ false
unfolding goes_up
exact Trunc negative q = refl
exact Away negative q = refl
exact Near negative q = refl
exact Sticky negative q = refl
exact Up negative q = refl
exact Down negative q = refl

module _ (mode : Mode) (negative : Bool) (q f : ℕ) (rest : Bool) where
  nothing : 2 * f + bit_of rest ≤ 0 → false ≡ goes_up mode negative q (2 * f + bit_of rest) (2 ^ 65)
  nothing l = sym (ap (λ (r : ℕ). goes_up mode negative q r (2 ^ 65)) (let e : 2 * f + bit_of rest ≡ 0 = omega arith in e) ∙ exact mode negative q)

  trunc : mode ≡ Trunc → false ≡ goes_up mode negative q (2 * f + bit_of rest) (2 ^ 65)
  unfolding goes_up
  trunc m = rw m

  -- something was dropped
  module _ (some : 0 < 2 * f + bit_of rest) where
    away : mode ≡ Away → true ≡ goes_up mode negative q (2 * f + bit_of rest) (2 ^ 65)
    unfolding goes_up
    away m = rw (m, lt-ltb 0 (2 * f + bit_of rest) some)

    sticky : mode ≡ Sticky → eqb (q % 2) 0 ≡ goes_up mode negative q (2 * f + bit_of rest) (2 ^ 65)
    unfolding goes_up
    sticky m = rw (m, lt-ltb 0 (2 * f + bit_of rest) some)

    up : mode ≡ Up → not negative ≡ goes_up mode negative q (2 * f + bit_of rest) (2 ^ 65)
    unfolding goes_up
    up m = rw (m, lt-ltb 0 (2 * f + bit_of rest) some)

    down : mode ≡ Down → negative ≡ goes_up mode negative q (2 * f + bit_of rest) (2 ^ 65)
    unfolding goes_up
    down m = rw (m, lt-ltb 0 (2 * f + bit_of rest) some)

-- near, by the half that the fraction's word is compared with
flag : (rest : Bool) → bit_of rest < 2
flag true = omega arith
flag false = omega arith

module _ (mode : Mode) (m : mode ≡ Near) (negative : Bool) (q f : ℕ) where
  near_below : (rest : Bool) → f < 2 ^ 63 → false ≡ goes_up mode negative q (2 * f + bit_of rest) (2 ^ 65)
  unfolding goes_up
  near_below rest l =
      let d = flag rest in
      rw (m, le-ltb (2 ^ 65) (2 * (2 * f + bit_of rest)) (omega arith), ne_eqb (2 * (2 * f + bit_of rest)) (2 ^ 65) (λ (e : 2 * (2 * f + bit_of rest) ≡ 2 ^ 65). omega arith))

  near_above : (rest : Bool) → 2 ^ 63 < f → true ≡ goes_up mode negative q (2 * f + bit_of rest) (2 ^ 65)
  unfolding goes_up
  near_above rest l = rw (m, lt-ltb (2 ^ 65) (2 * (2 * f + bit_of rest)) (omega arith))

  near_rest : (rest : Bool) → 2 ^ 63 < f + 1 → rest ≡ true → true ≡ goes_up mode negative q (2 * f + bit_of rest) (2 ^ 65)
  unfolding goes_up
  near_rest rest l k = rw (k, m, lt-ltb (2 ^ 65) (2 * (2 * f + 1)) (omega arith))

  near_tie : (rest : Bool) → f ≡ 2 ^ 63 → rest ≡ false → eqb (q % 2) 1 ≡ goes_up mode negative q (2 * f + bit_of rest) (2 ^ 65)
  unfolding goes_up
  near_tie rest e k = rw (e, k, m)

-- past the first test something was dropped
none : (t : Bool) (r : ℕ) → t ≡ ltb 0 r → not t ≡ true → r ≤ 0
none t r e h = ltb-false 0 r (sym e ∙ not-true t h)

dropped : (t : Bool) (r : ℕ) → t ≡ ltb 0 r → not t ≡ false → 0 < r
dropped t r e h = ltb-true 0 r (sym e ∙ not-false t h)

pub returns-then-not-has_fraction : goal.returns-then-not-has_fraction
returns-then-not-has_fraction c = nothing _ _ _ _ c.args.rest (none _ _ c.has_fraction.ensures c.if-not-has_fraction.true-raw)

pub returns-then-fraction-lt-TOP_BIT : goal.returns-then-fraction-lt-TOP_BIT
returns-then-fraction-lt-TOP_BIT c = near_below _ c.in-Near.is _ _ _ c.args.rest (omega (arith, c.if-fraction-lt-TOP_BIT.true))

pub returns-then-fraction-gt-TOP_BIT : goal.returns-then-fraction-gt-TOP_BIT
returns-then-fraction-gt-TOP_BIT c = near_above _ c.in-Near.is _ _ _ c.args.rest c.if-fraction-gt-TOP_BIT.true

pub returns-then-rest : goal.returns-then-rest
returns-then-rest c = near_rest _ c.in-Near.is _ _ _ _ (omega arith) c.if-rest.true

pub returns-in-Trunc : goal.returns-in-Trunc
returns-in-Trunc c = trunc _ _ _ _ c.args.rest c.in-Trunc.is

pub returns-in-Away : goal.returns-in-Away
returns-in-Away c = away _ _ _ _ c.args.rest (dropped _ _ c.has_fraction.ensures c.if-not-has_fraction.false-raw) c.in-Away.is

pub returns-else-rest : goal.returns-else-rest
returns-else-rest c = near_tie _ c.in-Near.is _ _ _ _ (omega arith) c.if-rest.false

pub returns-in-Sticky : goal.returns-in-Sticky
returns-in-Sticky c = sticky _ _ _ _ c.args.rest (dropped _ _ c.has_fraction.ensures c.if-not-has_fraction.false-raw) c.in-Sticky.is

pub returns-in-Up : goal.returns-in-Up
returns-in-Up c = up _ _ _ _ c.args.rest (dropped _ _ c.has_fraction.ensures c.if-not-has_fraction.false-raw) c.in-Up.is

pub returns-in-Down : goal.returns-in-Down
returns-in-Down c = down _ _ _ _ c.args.rest (dropped _ _ c.has_fraction.ensures c.if-not-has_fraction.false-raw) c.in-Down.is
