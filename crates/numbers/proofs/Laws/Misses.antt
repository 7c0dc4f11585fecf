-- The whole number that a / b is made: on which side of a / b it lies, and how far from it.
use mathlib.Core.Path.{◌≡◌, refl, sym, ap, ◌∙◌}
use mathlib.Core.Bool.{Bool, true, false, not, ◌&&◌, ◌||◌, cond, and-true, and-false}
use Prim.Native.Nat.{ℕ, ◌+◌, ◌*◌, ◌/◌, ◌%◌, ◌≤◌, ◌<◌}
use native.Mathlib.Omega.{arith}
use native.Mathlib.Nat.{add-zero, div-add-mod', mod-lt, mul-div_cancel, mul-mod_left}
use lib.Dec.{T, ltb, eqb, ltb→lt, nltb→le, eqb→eq}
use lib.Ieee.Fits.{and_l}
use borrow.Author.Tests.{lt-ltb, eqb-true, eqb-false}
use Rattle.numbers.specs.Rounding.{goes_up, whole_of}
use Rattle.numbers.specs.declared.task.Mode.{Mode}
use Rattle.numbers.specs.declared.task.Mode.TheVariants.{Trunc, Away, Near, Sticky, Up, Down}
use Rattle.numbers.proofs.Laws.Ratio.{gap, Ordered}

-- no mode goes up where there is no fraction
pub fraction_left : (mode : Mode) (s : Bool) (q r b : ℕ) → 0 < b → T (goes_up mode s q r b) → 0 < r
unfolding goes_up
fraction_left Trunc s q r b b0 t = absurd t
fraction_left Away s q r b b0 t = ltb→lt 0 r t
fraction_left Near s q r b b0 t = go (ltb b (2 * r)) (eqb (2 * r) b) (ltb→lt b (2 * r)) (eqb→eq (2 * r) b) t
  where
    go : (more half : Bool) → (T more → b < 2 * r) → (T half → 2 * r ≡ b) → T (more || (half && eqb (q % 2) 1)) → 0 < r
    go true half h k t = let l : b < 2 * r = h tt in omega arith
    go false true h k t = let l : 2 * r ≡ b = k tt in omega arith
    go false false h k t = absurd t
fraction_left Sticky s q r b b0 t = ltb→lt 0 r (and_l (ltb 0 r) (eqb (q % 2) 0) t)
fraction_left Up s q r b b0 t = ltb→lt 0 r (and_l (ltb 0 r) (not s) t)
fraction_left Down s q r b b0 t = ltb→lt 0 r (and_l (ltb 0 r) s t)

-- a whole number stays
pub whole_exact : (mode : Mode) (s : Bool) (q b : ℕ) → 0 < b → whole_of mode s (q * b) b ≡ q
unfolding whole_of
whole_exact mode s q b b0 = rw (mul-div_cancel q b0, mul-mod_left q b) (go (goes_up mode s q 0 b) (fraction_left mode s q 0 b b0))
  where
    go : (t : Bool) → (T t → 0 < 0) → q + cond t 1 0 ≡ q
    go true h = absurd (let l : 0 < 0 = h tt in omega arith)
    go false h = add-zero q

module _ (a b : ℕ) (b0 : 0 < b) where
  parts : a / b * b + a % b ≡ a
  parts = div-add-mod' a b

  rest : a % b < b
  rest = mod-lt a b0

  pub whole_kept : (mode : Mode) (s : Bool) → a % b ≡ 0 → whole_of mode s a b * b ≡ a
  whole_kept mode s h =
      let e : a ≡ a / b * b = omega (arith, parts) in
      ap (λ (m : ℕ). m * b) (ap (λ (m : ℕ). whole_of mode s m b) e ∙ whole_exact mode s (a / b) b b0) ∙ sym e

  -- trunc goes down and away goes up
  pub whole_trunc : (s : Bool) → whole_of Trunc s a b * b ≤ a
  unfolding whole_of goes_up
  whole_trunc s = omega (arith, parts)

  pub whole_away : (s : Bool) → a ≤ whole_of Away s a b * b
  unfolding whole_of goes_up
  whole_away s = go (ltb 0 (a % b)) (nltb→le 0 (a % b))
    where
      go : (t : Bool) → (T (not t) → a % b ≤ 0) → a ≤ (a / b + cond t 1 0) * b
      go true h = omega (arith, parts, rest)
      go false h = omega (arith, parts, h tt)

  -- up and down are one or the other, by the sign
  pub whole_down : (s : Bool) → Ordered s (whole_of Down s a b * b) a
  unfolding whole_of goes_up
  whole_down false = rw and-false (whole_trunc false)
  whole_down true = rw and-true (whole_away true)

  pub whole_up : (s : Bool) → Ordered s a (whole_of Up s a b * b)
  unfolding whole_of goes_up
  whole_up false = rw and-true (whole_away false)
  whole_up true = rw and-false (whole_trunc true)

  -- every mode misses by less than one, near by at most a half
  pub whole_miss : (mode : Mode) (s : Bool) → gap (whole_of mode s a b * b) a < b
  unfolding whole_of
  whole_miss mode s = go (goes_up mode s (a / b) (a % b) b) (fraction_left mode s (a / b) (a % b) b b0)
    where
      go : (t : Bool) → (T t → 0 < a % b) → gap ((a / b + cond t 1 0) * b) a < b
      go true h = omega (arith, parts, rest, h tt)
      go false h = omega (arith, parts, rest)

  pub whole_near : (s : Bool) → 2 * gap (whole_of Near s a b * b) a ≤ b
  unfolding whole_of goes_up
  whole_near s =
      go (ltb b (2 * (a % b))) (eqb (2 * (a % b)) b) (eqb (a / b % 2) 1) (ltb→lt b (2 * (a % b))) (nltb→le b (2 * (a % b))) (eqb→eq (2 * (a % b)) b)
    where
      go : (more half odd : Bool) → (T more → b < 2 * (a % b)) → (T (not more) → 2 * (a % b) ≤ b) → (T half → 2 * (a % b) ≡ b)
          → 2 * gap ((a / b + cond (more || (half && odd)) 1 0) * b) a ≤ b
      go true half odd h k e = omega (arith, parts, rest, h tt)
      go false true true h k e = omega (arith, parts, rest, e tt)
      go false true false h k e = omega (arith, parts, rest, k tt)
      go false false odd h k e = omega (arith, parts, rest, k tt)

  -- sticky is odd where there is a fraction
  pub whole_sticky : (s : Bool) → 0 < a % b → whole_of Sticky s a b % 2 ≡ 1
  unfolding whole_of goes_up
  whole_sticky s h = rw (lt-ltb 0 (a % b) h) (go (eqb (a / b % 2) 0) (eqb-true (a / b % 2) 0) (eqb-false (a / b % 2) 0))
    where
      go : (t : Bool) → (t ≡ true → a / b % 2 ≡ 0) → (t ≡ false → a / b % 2 ≡ 0 → ⊥) → (a / b + cond t 1 0) % 2 ≡ 1
      go true even odd = let e : a / b % 2 ≡ 0 = even refl in omega arith
      go false even odd = let e : ¬ (a / b % 2 ≡ 0) = odd refl in omega arith
