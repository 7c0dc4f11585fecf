-- The whole number that a / b is rounded to depends only on the cell of a / b on a grid that divides one half: with F and a flag for the
-- cell, (2 F + flag) / (2 J) may stand for a / b. J is how many cells a unit has.
use mathlib.Core.Path.{◌≡◌, refl, ap, ◌∙◌}
use mathlib.Core.Bool.{Bool, true, false}
use Prim.Native.Nat.{ℕ, zero, suc, ◌+◌, ◌*◌, ◌/◌, ◌%◌, ◌≤◌, ◌<◌}
use native.Mathlib.Omega.{arith}
use native.Mathlib.Nat.{le_antisymm, le_of_lt, le_of_mul-le-mul_right, lt_of_mul-lt-mul_right, mul-le-mul_right, mul-lt-mul_of_pos_right, le-div_iff_mul-le, div-mul-le_self, div-add-mod', mod-lt}
use lib.Arith.{digits_div, digits_mod}
use lib.Dec.{ltb, eqb}
use borrow.Author.Tests.{lt-ltb}
use Rattle.numbers.specs.Rounding.{goes_up, whole_of}
use Rattle.numbers.specs.Grid.{InCell, bit_of}
use Rattle.numbers.specs.declared.task.Mode.{Mode}
use Rattle.numbers.specs.declared.task.Mode.TheVariants.{Trunc, Away, Near, Sticky, Up, Down}
use Rattle.numbers.proofs.Laws.Tests.{ltb_same, eqb_same}

-- a number that lies in the cell F lies between its ends
pub cell_low : (rest : Bool) (x F u : ℕ) → InCell rest x F u → F * u ≤ x
cell_low false x F u e = omega arith
cell_low true x F u h = le_of_lt h.0

pub cell_high : (rest : Bool) (x F u : ℕ) → 0 < u → InCell rest x F u → x < F * u + u
cell_high false x F u u0 e = omega arith
cell_high true x F u u0 h = h.1

-- every number has a cell
pub cell_of_is : (x u : ℕ) → 0 < u → InCell (ltb 0 (x % u)) x (x / u) u
cell_of_is x u u0 = go (x % u) (div-add-mod' x u) (mod-lt x u0)
  where
    go : (r : ℕ) → x / u * u + r ≡ x → r < u → InCell (ltb 0 r) x (x / u) u
    go zero e l = omega arith
    go (suc r) e l = rw (lt-ltb 0 (suc r) (omega arith)) (omega arith, omega arith)

-- the whole part
cell_div : (rest : Bool) (a b F J : ℕ) → 0 < b → 0 < J → InCell rest (a * J) F b → a / b ≡ F / J
cell_div rest a b F J b0 J0 h = le_antisymm low high
  where
    under : a / b * J * b < (F + 1) * b
    under = omega (arith, mul-le-mul_right J (div-mul-le_self a b), cell_high rest (a * J) F b b0 h)

    low : a / b ≤ F / J
    low = (le-div_iff_mul-le J0).1 (let l : a / b * J < F + 1 = lt_of_mul-lt-mul_right b under in omega arith)

    over : F / J * b * J ≤ a * J
    over = omega (arith, mul-le-mul_right b (div-mul-le_self F J), cell_low rest (a * J) F b h)

    high : F / J ≤ a / b
    high = (le-div_iff_mul-le b0).1 (le_of_mul-le-mul_right {k = J} over J0)

-- what is left of a cell after q units
cell_less : (rest : Bool) (q r f a b F J : ℕ) → q * b + r ≡ a → q * J + f ≡ F → InCell rest (a * J) F b → InCell rest (r * J) f b
cell_less false q r f a b F J e d h = omega (arith, ap (λ (n : ℕ). n * J) e, ap (λ (n : ℕ). n * b) d)
cell_less true q r f a b F J e d h =
    let x = ap (λ (n : ℕ). n * J) e in
    let y = ap (λ (n : ℕ). n * b) d in
    (omega (arith, x, y, h.0), omega (arith, x, y, h.1))

-- a number against a multiple of the grid, by its cell
above_there : (rest : Bool) (x f b c : ℕ) → InCell rest x f b → c * b < x → 2 * c < 2 * f + bit_of rest
above_there false x f b c e h = let l : c < f = lt_of_mul-lt-mul_right b (omega arith) in omega arith
above_there true x f b c e h = let l : c < f + 1 = lt_of_mul-lt-mul_right b (omega (arith, e.1)) in omega arith

above_back : (rest : Bool) (x f b c : ℕ) → 0 < b → InCell rest x f b → 2 * c < 2 * f + bit_of rest → c * b < x
above_back false x f b c b0 e h = omega (arith, mul-le-mul_right b (let l : c + 1 ≤ f = omega arith in l))
above_back true x f b c b0 e h = omega (arith, e.0, mul-le-mul_right b (let l : c ≤ f = omega arith in l))

at_there : (rest : Bool) (x f b c : ℕ) → 0 < b → InCell rest x f b → x ≡ c * b → 2 * c ≡ 2 * f + bit_of rest
at_there false x f b c b0 e h =
    let low : c ≤ f = le_of_mul-le-mul_right {k = b} (omega arith) b0 in
    let high : f ≤ c = le_of_mul-le-mul_right {k = b} (omega arith) b0 in
    omega arith
at_there true x f b c b0 e h =
    let low : f < c = lt_of_mul-lt-mul_right b (omega (arith, e.0)) in
    let high : c < f + 1 = lt_of_mul-lt-mul_right b (omega (arith, e.1)) in
    absurd (omega arith)

at_back : (rest : Bool) (x f b c : ℕ) → InCell rest x f b → 2 * c ≡ 2 * f + bit_of rest → x ≡ c * b
at_back false x f b c e h = e ∙ ap (λ (n : ℕ). n * b) (let l : f ≡ c = omega arith in l)
at_back true x f b c e h = absurd (omega arith)

-- the fraction r / b against 0 and against one half, by its cell f out of 2 K in a unit
module _ (rest : Bool) (r b f K : ℕ) (b0 : 0 < b) (K0 : 0 < K) (h : InCell rest (r * (2 * K)) f b) where
  some : ltb 0 r ≡ ltb 0 (2 * f + bit_of rest)
  some =
      ltb_same 0 r 0 (2 * f + bit_of rest)
      (λ (l : 0 < r). above_there rest (r * (2 * K)) f b 0 h (omega (arith, mul-le-mul_right (2 * K) l)))
      (λ (l : 0 < 2 * f + bit_of rest). lt_of_mul-lt-mul_right (2 * K) (omega (arith, above_back rest (r * (2 * K)) f b 0 b0 h l)))

  more : ltb b (2 * r) ≡ ltb (2 * (2 * K)) (2 * (2 * f + bit_of rest))
  more =
      ltb_same b (2 * r) (2 * (2 * K)) (2 * (2 * f + bit_of rest))
      (λ (l : b < 2 * r). omega (arith, above_there rest (r * (2 * K)) f b K h (omega (arith, mul-lt-mul_of_pos_right {k = K} l K0))))
      (λ (l : 2 * (2 * K) < 2 * (2 * f + bit_of rest)). lt_of_mul-lt-mul_right K (omega (arith, above_back rest (r * (2 * K)) f b K b0 h (omega arith))))

  half : eqb (2 * r) b ≡ eqb (2 * (2 * f + bit_of rest)) (2 * (2 * K))
  half =
      eqb_same (2 * r) b (2 * (2 * f + bit_of rest)) (2 * (2 * K))
      (λ (l : 2 * r ≡ b). omega (arith, at_there rest (r * (2 * K)) f b K b0 h (omega (arith, ap (λ (n : ℕ). n * K) l))))
      (λ (l : 2 * (2 * f + bit_of rest) ≡ 2 * (2 * K)). same (at_back rest (r * (2 * K)) f b K h (omega arith)))
    where
      same : r * (2 * K) ≡ K * b → 2 * r ≡ b
      same e = le_antisymm (le_of_mul-le-mul_right {k = K} (omega arith) K0) (le_of_mul-le-mul_right {k = K} (omega arith) K0)

  pub goes_up_is : (mode : Mode) (negative : Bool) (q : ℕ) → goes_up mode negative q r b ≡ goes_up mode negative q (2 * f + bit_of rest) (2 * (2 * K))
  unfolding goes_up
  goes_up_is Trunc negative q = refl
  goes_up_is Away negative q = some
  goes_up_is Near negative q = rw (more, half)
  goes_up_is Sticky negative q = rw some
  goes_up_is Up negative q = rw some
  goes_up_is Down negative q = rw some

-- a flag added to twice a number, divided by twice another
pub flagged : (rest : Bool) (F J : ℕ) → 0 < J → ((2 * F + bit_of rest) / (2 * J) ≡ F / J) × ((2 * F + bit_of rest) % (2 * J) ≡ 2 * (F % J) + bit_of rest)
flagged rest F J J0 = go rest (F / J) (F % J) (div-add-mod' F J) (mod-lt F J0)
  where
    low : (rest : Bool) (f : ℕ) → f < J → 2 * f + bit_of rest < 2 * J
    low false f l = omega arith
    low true f l = omega arith

    go : (rest : Bool) (q f : ℕ) → q * J + f ≡ F → f < J → ((2 * F + bit_of rest) / (2 * J) ≡ q) × ((2 * F + bit_of rest) % (2 * J) ≡ 2 * f + bit_of rest)
    go rest q f e l =
        let d : 2 * F + bit_of rest ≡ q * (2 * J) + (2 * f + bit_of rest) = omega (arith, ap (λ (n : ℕ). 2 * n) e) in
        (ap (λ (n : ℕ). n / (2 * J)) d ∙ digits_div q (low rest f l), ap (λ (n : ℕ). n % (2 * J)) d ∙ digits_mod q (low rest f l))

-- the cell law for whole numbers, with its two halves: the whole number, and whether there is a fraction
module _ (rest : Bool) (a b F K : ℕ) (b0 : 0 < b) (K0 : 0 < K) (h : InCell rest (a * (2 * K)) F b) where
  J0 : 0 < 2 * K
  J0 = omega arith

  left : InCell rest (a % b * (2 * K)) (F % (2 * K)) b
  left = cell_less rest (a / b) (a % b) (F % (2 * K)) a b F (2 * K) (div-add-mod' a b) (ap (λ (n : ℕ). n * (2 * K) + F % (2 * K)) (cell_div rest a b F (2 * K) b0 J0 h) ∙ div-add-mod' F (2 * K)) h

  pub whole_cell : (mode : Mode) (negative : Bool) → whole_of mode negative a b ≡ whole_of mode negative (2 * F + bit_of rest) (2 * (2 * K))
  unfolding whole_of
  whole_cell mode negative =
      rw ((flagged rest F (2 * K) J0).0, (flagged rest F (2 * K) J0).1, goes_up_is rest (a % b) b (F % (2 * K)) K b0 K0 left mode negative (a / b), cell_div rest a b F (2 * K) b0 J0 h)

  pub fraction_cell : ltb 0 (a % b) ≡ ltb 0 ((2 * F + bit_of rest) % (2 * (2 * K)))
  fraction_cell = rw (flagged rest F (2 * K) J0).1 (some rest (a % b) b (F % (2 * K)) K b0 K0 left)
