-- Two aligned operands: the shifted smaller one leaves room in two words, a rest means that they stand far apart, and the sum or the difference is
-- rounded and marked as its cell says.
use Rattle.std.proofs.Common.{Some, Less, Equal, Greater, ◌≡◌, ℕ, zero, suc, ◌+◌, ◌-◌, ◌*◌, ◌/◌, ◌%◌, ◌^◌, ◌<◌, ◌≤◌, Bool, true, false, not, ltb, sym, refl, ap, ◌∙◌, le_trans, le_of_lt, mul-le-mul_right, mul_assoc, lt_of_mul-lt-mul_right, mul-le-mul_left, lt_of_not-le, div-le_self, le_of_mul-le-mul_right, arith, lit≤, pow_pos, pow_mono}
use native.Mathlib.Decide.{dec_le}
use native.Mathlib.Nat.{le_of_eq}
use lib.Dec.{eqb}
use borrow.Author.Tests.{ltb-true, ltb-false, eqb-true, eqb-false}
use Rattle.std.specs.Prelude.{cond}
use Rattle.std.specs.Ordering.{is_some_and, is_lt, nat_cmp, partial_lt, partial_ordering_then}
use Rattle.numbers.proofs.Laws.Tests.{never}
use Rattle.numbers.specs.Biased.{bias}
use Rattle.numbers.specs.Rounding.{precision_of}
use Rattle.numbers.specs.Fraction.{signed, sum, scaled}
use Rattle.numbers.specs.Accuracy.{marked_by}
use Rattle.numbers.specs.Grid.{InCell, bit_of}
use Rattle.numbers.specs.Cell.{wide, end_of}
use Rattle.numbers.specs.declared.task.Task.{Task}
use Rattle.numbers.proofs.Laws.Whole.{cell_of_is}
use Rattle.numbers.proofs.Laws.Pairs.{fraction}
use Rattle.numbers.proofs.Laws.Fractions.{same_sum, other_sum, sum_fraction}
use Rattle.numbers.proofs.Laws.Marked.{same_mark}
use Rattle.numbers.proofs.Laws.Powers.{power_sum}
use Rattle.arithmetic.specs.Private.{last_bit, operand_value}
use Rattle.arithmetic.specs.declared.operand.Operand.{Operand}
use Rattle.arithmetic.proofs.Laws.Sum.{cell_rounds, cell_added, cell_subtracted, raised_power, shifted_cell}

-- ---- over plain numbers: k for 2^63, w for 2^64, g for the shift's power

two_words : (a b y k w : ℕ) → 0 < k → a < w → b < w → y ≤ b * k → a * k + y < (w + w) * k
two_words a b y k w k0 ha hb h = omega (arith, mul-le-mul_right k ha, mul-le-mul_right k hb)

room : (rest : Bool) (a b y k g : ℕ) → 0 < g → b ≤ a * g → InCell rest (b * k) y g → bit_of rest + y ≤ a * k
room false a b y k g g0 h c = le_of_mul-le-mul_right {k = g} (omega (arith, mul-le-mul_right k h)) g0
room true a b y k g g0 h c = let l : y < a * k = lt_of_mul-lt-mul_right g (omega (arith, c.0, mul-le-mul_right k h)) in omega arith

-- a number that is a multiple of the grid has no rest
no_rest : (m y g : ℕ) → InCell true (m * g) y g → ⊥
no_rest m y g c =
    let a : y < m = lt_of_mul-lt-mul_right g c.0 in
    let b : m < y + 1 = lt_of_mul-lt-mul_right g (omega (arith, c.1)) in
    omega arith

-- with a rest the shift is by more than 63
far : (b y d : ℕ) → InCell true (b * 2 ^ 63) y (2 ^ d) → 64 ≤ d
far b y d c = go (dec_le 64 d)
  where
    parts : d ≤ 63 → b * 2 ^ 63 ≡ b * 2 ^ (63 - d) * 2 ^ d
    parts l = ap (λ (n : ℕ). b * n) (power_sum 63 (63 - d) d (omega arith)) ∙ sym (mul_assoc b (2 ^ (63 - d)) (2 ^ d))

    go : Dec (64 ≤ d) → 64 ≤ d
    go (yes l) = l
    go (no n) = absurd (no_rest (b * 2 ^ (63 - d)) y (2 ^ d) (rw (parts (let l = lt_of_not-le n in omega arith)) at c))

-- and so the sum or the difference F keeps more than 65 bits
wide_enough : (a b y k w g F : ℕ) → w ≡ 2 * k → 8 ≤ k → b < w → w ≤ g → (0 < a → k ≤ a) → b ≤ a * g → InCell true (b * k) y g → a * k ≤ F + 1 + y → 2 * w ≤ F
wide_enough zero b y k w g F e k0 b1 far normal h c l = absurd (let z : b ≡ 0 = omega arith in omega (arith, c.0, ap (λ (n : ℕ). n * k) z))
wide_enough (suc a) b y k w g F e k0 b1 far normal h c l =
    let a0 : k ≤ suc a = normal (omega arith) in
    let short : y < k = lt_of_mul-lt-mul_right w (omega (arith, c.0, mul-le-mul_left y far, mul-le-mul_right k b1)) in
    omega (arith, mul-le-mul_right k a0, mul-le-mul_right k k0)

-- what lies in the cell y lies below l on the grid, where the cell does
under : (rest : Bool) (b y g l : ℕ) → InCell rest b y g → bit_of rest + y ≤ l → b ≤ l * g
under false b y g l c h = omega (arith, mul-le-mul_right g h)
under true b y g l c h = omega (arith, c.1, mul-le-mul_right g h)

flag : (rest : Bool) (m y l : ℕ) → m + bit_of rest + y ≡ l → l ≤ m + 1 + y
flag false m y l e = omega arith
flag true m y l e = omega arith

-- ---- of two operands

-- the larger operand stands first, and significands are words
pub record IsAligned (large small : Operand) : Type 0 where
  pub lower : small.exponent ≤ large.exponent
  pub larger : small.significand ≤ large.significand * 2 ^ (large.exponent - small.exponent)
  pub large_word : large.significand < 2 ^ 64
  pub small_word : small.significand < 2 ^ 64

module _ (large small : Operand) (h : IsAligned large small) (Y : ℕ) (rest : Bool) (shifted : Y ≡ small.significand * 2 ^ 63 / 2 ^ (large.exponent - small.exponent))
    (dropped : rest ≡ ltb 0 (small.significand * 2 ^ 63 % 2 ^ (large.exponent - small.exponent))) where
  cell : InCell rest (small.significand * 2 ^ 63) Y (2 ^ (large.exponent - small.exponent))
  cell = rw (shifted, dropped) (cell_of_is (small.significand * 2 ^ 63) (2 ^ (large.exponent - small.exponent)) (pow_pos (large.exponent - small.exponent)))

  sum_fits : large.significand * 2 ^ 63 + Y < 2 ^ 128
  sum_fits =
      two_words large.significand small.significand Y (2 ^ 63) (2 ^ 64) (pow_pos 63) h.large_word h.small_word
      (rw shifted (div-le_self (small.significand * 2 ^ 63) (2 ^ (large.exponent - small.exponent))))

  borrow_fits : bit_of rest + Y ≤ large.significand * 2 ^ 63
  borrow_fits = room rest large.significand small.significand Y (2 ^ 63) (2 ^ (large.exponent - small.exponent)) (pow_pos (large.exponent - small.exponent)) h.larger cell

  -- where there is a rest, F has two bits more than n, which is at most 64
  fine : (n : ℕ) → n ≤ 64 → (F : ℕ) → large.significand * 2 ^ 63 ≤ F + 1 + Y → rest ≡ true → 2 * 2 ^ n ≤ F
  fine n n1 F l e =
      let c : InCell true (small.significand * 2 ^ 63) Y (2 ^ (large.exponent - small.exponent)) = rw e at cell in
      le_trans (mul-le-mul_left 2 (pow_mono n1))
      (wide_enough large.significand small.significand Y (2 ^ 63) (2 ^ 64) (2 ^ (large.exponent - small.exponent)) F refl (lit≤ tt) h.small_word (pow_mono (far small.significand Y (large.exponent - small.exponent) c))
      (λ (z : 0 < large.significand). large.normal (omega arith)) h.larger c l)

  grid_cell : InCell rest (small.significand * 2 ^ (small.exponent + 65598)) Y (2 ^ (large.exponent + bias))
  grid_cell = shifted_cell rest small.significand small.exponent large.exponent Y h.lower cell

  added_rounds : (task : Task) → 1 ≤ precision_of task → precision_of task ≤ 64 → small.negative ≡ large.negative
      → marked_by task (scaled large.negative (end_of (large.significand * 2 ^ 63 + Y) rest) (large.exponent + bias) last_bit) ≡ marked_by task (sum (operand_value large) (operand_value small))
  unfolding operand_value
  added_rounds task n0 n1 sign =
      let s = large.negative in
      let F = large.significand * 2 ^ 63 + Y in
      let A = large.significand * 2 ^ (large.exponent + 65598) in
      let B = small.significand * 2 ^ (small.exponent + 65598) in
      sym (cell_rounds task s (A + B) F (large.exponent + bias) rest n0 n1 (fine (precision_of task) n1 F (omega arith)) (rw (raised_power large.significand large.exponent) (cell_added rest (large.significand * 2 ^ 63) B Y (2 ^ (large.exponent + bias)) grid_cell)))
      ∙ rw sign
      (sym (same_mark task (sum (fraction (signed s A) (2 ^ last_bit)) (fraction (signed s B) (2 ^ last_bit))) (fraction (signed s (A + B)) (2 ^ last_bit))
      (sum_fraction (fraction (signed s A) (2 ^ last_bit)) (fraction (signed s B) (2 ^ last_bit)) (pow_pos last_bit) (pow_pos last_bit)) (pow_pos last_bit) n0 (same_sum s A B (2 ^ last_bit))))

  subtracted_rounds : (task : Task) → 1 ≤ precision_of task → precision_of task ≤ 64 → small.negative ≡ not large.negative → (m : ℕ) → m + bit_of rest + Y ≡ large.significand * 2 ^ 63
      → marked_by task (scaled large.negative (end_of m rest) (large.exponent + bias) last_bit) ≡ marked_by task (sum (operand_value large) (operand_value small))
  unfolding operand_value
  subtracted_rounds task n0 n1 sign m e =
      let s = large.negative in
      let A = large.significand * 2 ^ (large.exponent + 65598) in
      let B = small.significand * 2 ^ (small.exponent + 65598) in
      let G = 2 ^ (large.exponent + bias) in
      let L = large.significand * 2 ^ 63 in
      let on_grid : A ≡ L * G = raised_power large.significand large.exponent in
      let less : B ≤ L * G = under rest B Y G L grid_cell borrow_fits in
      sym (cell_rounds task s (A - B) m (large.exponent + bias) rest n0 n1 (fine (precision_of task) n1 m (flag rest m Y L e)) (rw on_grid (cell_subtracted rest L B Y G m less e grid_cell)))
      ∙ rw sign
      (sym (same_mark task (sum (fraction (signed s A) (2 ^ last_bit)) (fraction (signed (not s) B) (2 ^ last_bit))) (fraction (signed s (A - B)) (2 ^ last_bit))
      (sum_fraction (fraction (signed s A) (2 ^ last_bit)) (fraction (signed (not s) B) (2 ^ last_bit)) (pow_pos last_bit) (pow_pos last_bit)) (pow_pos last_bit) n0 (other_sum s A B (2 ^ last_bit) (rw on_grid less))))

-- ---- from the code's equations: T, S and Y are the larger operand raised, the smaller one raised, and the smaller one shifted

module _ (large small : Operand) (h : IsAligned large small) (T S Y : ℕ) (rest : Bool)
    (top : T ≡ large.significand * 2 ^ 63) (raised : S ≡ small.significand * 2 ^ 63)
    (shifted : Y ≡ S / 2 ^ (large.exponent - small.exponent)) (dropped : rest ≡ ltb 0 (S % 2 ^ (large.exponent - small.exponent))) where
  shifted_is : Y ≡ small.significand * 2 ^ 63 / 2 ^ (large.exponent - small.exponent)
  shifted_is = shifted ∙ ap (λ (n : ℕ). n / 2 ^ (large.exponent - small.exponent)) raised

  dropped_is : rest ≡ ltb 0 (small.significand * 2 ^ 63 % 2 ^ (large.exponent - small.exponent))
  dropped_is = dropped ∙ ap (λ (n : ℕ). ltb 0 (n % 2 ^ (large.exponent - small.exponent))) raised

  -- the sum, and its answer from the magnitude M
  pub added_fits : T + Y < 2 ^ 128
  added_fits = rw top (sum_fits large small h Y rest shifted_is dropped_is)

  pub added_answer : small.negative ≡ large.negative → (high low : ℕ) → wide high low ≡ T + Y → (task : Task) → 1 ≤ precision_of task → precision_of task ≤ 64
      → marked_by task (scaled large.negative (end_of (wide high low) rest) (large.exponent + bias) last_bit) ≡ marked_by task (sum (operand_value large) (operand_value small))
  added_answer sign high low m task n0 n1 = rw (m, top) (added_rounds large small h Y rest shifted_is dropped_is task n0 n1 sign)

  -- the difference, less Y and then less the borrow b
  borrow_room : bit_of rest + Y ≤ T
  borrow_room = rw top (borrow_fits large small h Y rest shifted_is dropped_is)

  pub subtracted_fits : Y ≤ T
  subtracted_fits = let r = borrow_room in omega arith

  pub borrowed_fits : (less b : ℕ) → less + Y ≡ T → b ≡ bit_of rest → b ≤ less
  borrowed_fits less b e k = let r = borrow_room in omega arith

  pub subtracted_answer : small.negative ≡ not large.negative → (less b high low : ℕ) → less + Y ≡ T → b ≡ bit_of rest → wide high low + b ≡ less
      → (task : Task) → 1 ≤ precision_of task → precision_of task ≤ 64
      → marked_by task (scaled large.negative (end_of (wide high low) rest) (large.exponent + bias) last_bit) ≡ marked_by task (sum (operand_value large) (operand_value small))
  subtracted_answer sign less b high low l k m task n0 n1 =
      subtracted_rounds large small h Y rest shifted_is dropped_is task n0 n1 sign (wide high low)
      (ap (λ (n : ℕ). wide high low + n + Y) (sym k) ∙ ap (λ (n : ℕ). n + Y) m ∙ l ∙ top)

-- ---- which operand is the larger

-- at a larger exponent every significand of 64 bits is less, as the top bit is set there
pub larger_by_exponent : (large small : Operand) → small.significand < 2 ^ 64 → small.exponent < large.exponent → small.significand ≤ large.significand * 2 ^ (large.exponent - small.exponent)
larger_by_exponent large small word h =
    let top : 2 ^ 63 ≤ large.significand = large.normal (omega arith) in
    let twice : 2 * large.significand ≤ large.significand * 2 ^ (large.exponent - small.exponent) = omega (arith, mul-le-mul_left large.significand (pow_mono {i = 1} (one_below h))) in
    omega arith
  where
    one_below : {a b : ℕ} → a < b → 1 ≤ b - a
    one_below k = omega arith

pub larger_by_significand : (a b d : ℕ) → b ≤ a → b ≤ a * 2 ^ d
larger_by_significand a b d h = omega (arith, mul-le-mul_left a (pow_pos d))

-- ---- the order of pairs of exponent and significand

abbrev before : Operand → Operand → Bool
before a b = partial_lt {X = ℕ × ℕ} (λ x y. partial_ordering_then (Some (nat_cmp x.0 y.0)) (Some (nat_cmp x.1 y.1))) (a.exponent, a.significand) (b.exponent, b.significand)

abbrev pub IsAbove : Operand → Operand → Type 0
IsAbove large small = (small.exponent ≤ large.exponent) × (small.significand ≤ large.significand * 2 ^ (large.exponent - small.exponent))

pub above_before : (a b : Operand) → a.significand < 2 ^ 64 → before a b ≡ true → IsAbove b a
above_before a b word = go (ltb a.exponent b.exponent) (eqb a.exponent b.exponent) (ltb a.significand b.significand) (eqb a.significand b.significand) refl refl refl
  where
    go : (t u v w : Bool) → ltb a.exponent b.exponent ≡ t → eqb a.exponent b.exponent ≡ u → ltb a.significand b.significand ≡ v
        → is_some_and is_lt (partial_ordering_then (Some (cond t Less (cond u Equal Greater))) (Some (cond v Less (cond w Equal Greater)))) ≡ true → IsAbove b a
    go true u v w et eu ev h = let l = ltb-true a.exponent b.exponent et in (le_of_lt l, larger_by_exponent b a word l)
    go false true true w et eu ev h = (le_of_eq (eqb-true a.exponent b.exponent eu), larger_by_significand b.significand a.significand (b.exponent - a.exponent) (le_of_lt (ltb-true a.significand b.significand ev)))
    go false true false true et eu ev h = never cc
    go false true false false et eu ev h = never cc
    go false false v w et eu ev h = never cc

pub above_else : (a b : Operand) → b.significand < 2 ^ 64 → before a b ≡ false → IsAbove a b
above_else a b word = go (ltb a.exponent b.exponent) (eqb a.exponent b.exponent) (ltb a.significand b.significand) (eqb a.significand b.significand) refl refl refl
  where
    go : (t u v w : Bool) → ltb a.exponent b.exponent ≡ t → eqb a.exponent b.exponent ≡ u → ltb a.significand b.significand ≡ v
        → is_some_and is_lt (partial_ordering_then (Some (cond t Less (cond u Equal Greater))) (Some (cond v Less (cond w Equal Greater)))) ≡ false → IsAbove a b
    go true u v w et eu ev h = never cc
    go false true true w et eu ev h = never cc
    go false true false w et eu ev h =
        (le_of_eq (sym (eqb-true a.exponent b.exponent eu)), larger_by_significand a.significand b.significand (a.exponent - b.exponent) (ltb-false a.significand b.significand ev))
    go false false v w et eu ev h =
        let l : b.exponent < a.exponent = let k = ltb-false a.exponent b.exponent et in let n = eqb-false a.exponent b.exponent eu in omega arith in
        (le_of_lt l, larger_by_exponent a b word l)
