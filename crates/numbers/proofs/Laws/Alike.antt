-- Fractions that no multiple of a grid tells apart: they are those of one sign in one cell. What may stand for a value when it is rounded: any value of its cell on a
-- grid that is fine enough, and the odd number of a cell on every coarser grid.
use mathlib.Core.Path.{◌≡◌, refl, sym, ap, ◌∙◌}
use mathlib.Core.Bool.{Bool, true, false, not, cond}
use mathlib.Core.Logic.Iff
use mathlib.Core.Logic.{◌↔◌}
use Prim.Native.Nat.{ℕ, zero, suc, zero-le, ◌+◌, ◌-◌, ◌*◌, ◌/◌, ◌%◌, ◌^◌, ◌≤◌, ◌<◌}
use native.Mathlib.Decide.{ℕ_discrete}
use native.Mathlib.Nat.{le_antisymm, le_refl, lt_of_lt_of_le, le_of_mul-le-mul_right, lt_of_mul-lt-mul_right, mul-le-mul_right, mul-lt-mul_of_pos_right, mul-pos, pow-succ'}
use native.Mathlib.Omega.{arith}
use lib.Dec.{ltb, leb→le}
use lib.IntN.{ℤ, nat_abs, sub_ℕ}
use lib.Pow.{pow_pos}
use Rattle.numbers.specs.Cell.{odd_of}
use Rattle.numbers.specs.Fraction.{Fraction, IsFraction, HasSign, Equal, AtMost, is_negative, scaled, sum, magnitude}
use Rattle.numbers.specs.Grid.{InCell, bit_of, HasCell, Alike, RoundedAlike}
use Rattle.numbers.proofs.Laws.Cell.{cell_ratio, same_cell}
use Rattle.numbers.proofs.Laws.Fractions.{equal_magnitudes, equal_signs, signed_equal, sum_equal, sum_fraction}
use Rattle.numbers.proofs.Laws.Pairs.{signed_pair, scaled_pair, split_pair, at_most_pair, equal_pair, sum_pair, equal_back, equal_through, equal_order, at_most_sum}
use Rattle.numbers.proofs.Laws.Scaled.{scaled_fraction, same_power}
use Rattle.numbers.proofs.Laws.Signs.{abs_signed, abs_zero, signed_abs, signed_zero, negative_signed}
use Rattle.numbers.proofs.Laws.Splits.{sub_split}
use Rattle.numbers.proofs.Laws.Whole.{cell_of_is, cell_low}

-- ---- one cell

-- x and y have one sign and lie in one cell
pub record OneCell (i o : ℕ) (x y : Fraction) : Type 0 where
  pub negative : Bool
  pub whole : ℕ
  pub rest : Bool
  pub sign_first : HasSign negative x
  pub sign_second : HasSign negative y
  pub first : HasCell x i o whole rest
  pub second : HasCell y i o whole rest

-- the multiples of u up to x, and from x on, by the cell of x
pub multiples_below : (rest : Bool) (x F u m : ℕ) → 0 < u → InCell rest x F u → (m * u ≤ x) ↔ (m ≤ F)
multiples_below false x F u m u0 h = (λ l. le_of_mul-le-mul_right {k = u} (omega arith) u0, λ l. omega (arith, mul-le-mul_right u l))
multiples_below true x F u m u0 h = (
  λ l. let k : m < F + 1 = lt_of_mul-lt-mul_right u (omega arith) in omega arith,
  λ l. omega (arith, mul-le-mul_right u l),
)

pub multiples_above : (rest : Bool) (x F u m : ℕ) → 0 < u → InCell rest x F u → (x ≤ m * u) ↔ (F + bit_of rest ≤ m)
multiples_above false x F u m u0 h = (λ l. le_of_mul-le-mul_right {k = u} (omega arith) u0, λ l. omega (arith, mul-le-mul_right u l))
multiples_above true x F u m u0 h = (
  λ l. let k : F < m = lt_of_mul-lt-mul_right u (omega arith) in omega arith,
  λ l. omega (arith, mul-le-mul_right u l),
)

-- ± N grids are at most a fraction of the sign s in the cell F: t is the sign of N
abbrev UpTo : Bool → Bool → ℕ → ℕ → Bool → Type 0
UpTo false false N F rest = N ≤ F
UpTo true true N F rest = F + bit_of rest ≤ N
UpTo true false N F rest = 0 ≤ N
UpTo false true N F rest = N + F + bit_of rest ≤ 0

module _ (N X F I O d : ℕ) (rest : Bool) (u0 : 0 < d * I) (h : InCell rest (X * O) F (d * I)) where
  none : (X * O ≤ 0 * (d * I)) ↔ (F + bit_of rest ≤ 0)
  none = multiples_above rest (X * O) F (d * I) 0 u0 h

  -- cross sums, as `at_most_pair` has them
  up_to : (t s : Bool) → (cond t 0 (N * I) * d + cond s X 0 * O ≤ cond s 0 X * O + cond t (N * I) 0 * d) ↔ UpTo t s N F rest
  up_to false false = let k = multiples_below rest (X * O) F (d * I) N u0 h in (λ l. k.0 (omega arith), λ l. omega (arith, k.1 l))
  up_to true true = let k = multiples_above rest (X * O) F (d * I) N u0 h in (λ l. k.0 (omega arith), λ l. omega (arith, k.1 l))
  up_to true false = (λ l. zero-le, λ l. omega arith)
  up_to false true = (
    λ l. let k : N ≤ 0 = le_of_mul-le-mul_right {k = d * I} (omega arith) u0 in omega (arith, none.0 (omega arith)),
    λ l. let k : N ≡ 0 = omega arith in omega (arith, none.1 (omega arith), ap (λ (m : ℕ). m * (d * I)) k),
  )

  from : (t s : Bool) → (cond s 0 X * O + cond t (N * I) 0 * d ≤ cond t 0 (N * I) * d + cond s X 0 * O) ↔ UpTo (not t) (not s) N F rest
  from false false = let k = up_to true true in (λ l. k.0 (omega arith), λ l. omega (arith, k.1 l))
  from true true = let k = up_to false false in (λ l. k.0 (omega arith), λ l. omega (arith, k.1 l))
  from true false = let k = up_to false true in (λ l. k.0 (omega arith), λ l. omega (arith, k.1 l))
  from false true = (λ l. zero-le, λ l. omega arith)

-- what the multiples say of a fraction, by its sign and its cell
module _ (i o : ℕ) (x : Fraction) (s : Bool) (F : ℕ) (rest : Bool) (x0 : IsFraction x) (sign : HasSign s x) (cell : HasCell x i o F rest) (t : Bool) (N : ℕ) where
  at_least : AtMost (scaled t N i o) x ↔ UpTo t s N F rest
  at_least =
      Iff.trans (at_most_pair (scaled_pair t N i o) (signed_pair x s (nat_abs x.numerator) sign))
      (up_to N (nat_abs x.numerator) F (2 ^ i) (2 ^ o) x.denominator rest (mul-pos x0 (pow_pos i)) cell t s)

  at_most : AtMost x (scaled t N i o) ↔ UpTo (not t) (not s) N F rest
  at_most =
      Iff.trans (at_most_pair (signed_pair x s (nat_abs x.numerator) sign) (scaled_pair t N i o))
      (from N (nat_abs x.numerator) F (2 ^ i) (2 ^ o) x.denominator rest (mul-pos x0 (pow_pos i)) cell t s)

-- No multiple tells two values of one sign in one cell apart.
pub cell_alike : (i o : ℕ) (x y : Fraction) → IsFraction x → IsFraction y → OneCell i o x y → Alike i o x y
unfolding Alike
cell_alike i o x y x0 y0 h t N = (
  Iff.trans (at_least i o x h.negative h.whole h.rest x0 h.sign_first h.first t N) (Iff.symm (at_least i o y h.negative h.whole h.rest y0 h.sign_second h.second t N)),
  Iff.trans (at_most i o x h.negative h.whole h.rest x0 h.sign_first h.first t N) (Iff.symm (at_most i o y h.negative h.whole h.rest y0 h.sign_second h.second t N)),
)

-- the cell that the multiples name, and the sign unless it is that of zero
cell_named : (s r : Bool) (F G : ℕ) (f g : Bool) → ((t : Bool) (N : ℕ) → UpTo t s N F f ↔ UpTo t r N G g) → ((t : Bool) (N : ℕ) → UpTo (not t) (not s) N F f ↔ UpTo (not t) (not r) N G g)
    → (F ≡ G) × (F + bit_of f ≡ G + bit_of g) × ((F + bit_of f ≡ 0 → ⊥) → s ≡ r)
cell_named false false F G f g low high = (
  le_antisymm ((low false F).0 (le_refl F)) ((low false G).1 (le_refl G)),
  le_antisymm ((high false (G + bit_of g)).1 (le_refl (G + bit_of g))) ((high false (F + bit_of f)).0 (le_refl (F + bit_of f))),
  λ n. refl,
)
cell_named true true F G f g low high = (
  le_antisymm ((high true F).0 (le_refl F)) ((high true G).1 (le_refl G)),
  le_antisymm ((low true (G + bit_of g)).1 (le_refl (G + bit_of g))) ((low true (F + bit_of f)).0 (le_refl (F + bit_of f))),
  λ n. refl,
)
cell_named false true F G f g low high =
    let k = (low false 0).0 zero-le in
    let l = (high false 0).1 zero-le in
    (omega arith, omega arith, λ n. absurd (n (omega arith)))
cell_named true false F G f g low high =
    let k = (low false 0).1 zero-le in
    let l = (high false 0).0 zero-le in
    (omega arith, omega arith, λ n. absurd (n (omega arith)))

one_bit : (F : ℕ) (f g : Bool) → F + bit_of f ≡ F + bit_of g → f ≡ g
one_bit F false false e = refl
one_bit F true true e = refl
one_bit F true false e = absurd (omega arith)
one_bit F false true e = absurd (omega arith)

-- the cell of a fraction
abbrev cell_of : ℕ → ℕ → Fraction → ℕ
cell_of i o x = nat_abs x.numerator * 2 ^ o / (x.denominator * 2 ^ i)

abbrev rest_of : ℕ → ℕ → Fraction → Bool
rest_of i o x = ltb 0 (nat_abs x.numerator * 2 ^ o % (x.denominator * 2 ^ i))

own_cell : (i o : ℕ) (x : Fraction) → IsFraction x → HasCell x i o (cell_of i o x) (rest_of i o x)
own_cell i o x x0 = cell_of_is (nat_abs x.numerator * 2 ^ o) (x.denominator * 2 ^ i) (mul-pos x0 (pow_pos i))

pub own_sign : (x : Fraction) → HasSign (is_negative x.numerator) x
own_sign x = sym (signed_abs x.numerator)

zero_sign : (s : Bool) (x : Fraction) → nat_abs x.numerator ≡ 0 → HasSign s x
zero_sign s x e = rw e (abs_zero x.numerator e ∙ sym (signed_zero s))

-- zero is what lies in the cell 0 with no rest
cell_zero : (i o : ℕ) (x : Fraction) (F : ℕ) (rest : Bool) → IsFraction x → HasCell x i o F rest → (nat_abs x.numerator ≡ 0) ↔ (F + bit_of rest ≡ 0)
cell_zero i o x F rest x0 h =
    let k = multiples_above rest (nat_abs x.numerator * 2 ^ o) F (x.denominator * 2 ^ i) 0 (mul-pos x0 (pow_pos i)) h in (
      λ e. let l : F + bit_of rest ≤ 0 = k.0 (omega (arith, ap (λ (m : ℕ). m * 2 ^ o) e)) in omega arith,
      λ e. let l : nat_abs x.numerator ≤ 0 = le_of_mul-le-mul_right {k = 2 ^ o} (omega (arith, k.1 (omega arith))) (pow_pos o) in omega arith,
    )

-- Two values that no multiple tells apart have one sign and lie in one cell.
pub alike_cell : (i o : ℕ) (x y : Fraction) → IsFraction x → IsFraction y → Alike i o x y → OneCell i o x y
unfolding Alike
alike_cell i o x y x0 y0 alike = record {
  negative = is_negative x.numerator;
  whole = cell_of i o x;
  rest = rest_of i o x;
  sign_first = own_sign x;
  sign_second = sign (ℕ_discrete (nat_abs y.numerator) 0);
  first = own_cell i o x x0;
  second = rw (named.0, one_bit (cell_of i o y) (rest_of i o x) (rest_of i o y) (rw named.0 at named.1)) (own_cell i o y y0);
}
  where
    named : (cell_of i o x ≡ cell_of i o y) × (cell_of i o x + bit_of (rest_of i o x) ≡ cell_of i o y + bit_of (rest_of i o y))
        × ((cell_of i o x + bit_of (rest_of i o x) ≡ 0 → ⊥) → is_negative x.numerator ≡ is_negative y.numerator)
    named =
        cell_named _ _ _ _ _ _
        (λ t N. Iff.trans (Iff.symm (at_least i o x (is_negative x.numerator) (cell_of i o x) (rest_of i o x) x0 (own_sign x) (own_cell i o x x0) t N)) (Iff.trans (alike t N).0 (at_least i o y (is_negative y.numerator) (cell_of i o y) (rest_of i o y) y0 (own_sign y) (own_cell i o y y0) t N)))
        (λ t N. Iff.trans (Iff.symm (at_most i o x (is_negative x.numerator) (cell_of i o x) (rest_of i o x) x0 (own_sign x) (own_cell i o x x0) t N)) (Iff.trans (alike t N).1 (at_most i o y (is_negative y.numerator) (cell_of i o y) (rest_of i o y) y0 (own_sign y) (own_cell i o y y0) t N)))

    sign : Dec (nat_abs y.numerator ≡ 0) → HasSign (is_negative x.numerator) y
    sign (yes e) = zero_sign (is_negative x.numerator) y e
    sign (no some) =
        rw (named.2 (λ (e : cell_of i o x + bit_of (rest_of i o x) ≡ 0). some ((cell_zero i o y (cell_of i o y) (rest_of i o y) y0 (own_cell i o y y0)).1 (sym named.1 ∙ e)))) (own_sign y)

-- ---- alike

-- Equal fractions are alike on every grid.
pub alike_equal : (i o : ℕ) (x y : Fraction) → IsFraction x → IsFraction y → Equal x y → Alike i o x y
alike_equal i o x y x0 y0 e =
    cell_alike i o x y x0 y0
    (record {
      negative = is_negative x.numerator;
      whole = cell_of i o x;
      rest = rest_of i o x;
      sign_first = own_sign x;
      sign_second = rw (equal_signs x y x0 y0 e) (own_sign y);
      first = own_cell i o x x0;
      second =
          cell_ratio (rest_of i o x) (nat_abs x.numerator * 2 ^ o) (cell_of i o x) (x.denominator * 2 ^ i) (nat_abs y.numerator * 2 ^ o) (y.denominator * 2 ^ i)
          y.denominator x.denominator y0 x0 (omega (arith, ap (λ (m : ℕ). m * 2 ^ o) (equal_magnitudes x y e))) (omega arith) (own_cell i o x x0);
    })

pub alike_back : (i o : ℕ) (x y : Fraction) → Alike i o x y → Alike i o y x
unfolding Alike
alike_back i o x y h s N = (Iff.symm (h s N).0, Iff.symm (h s N).1)

pub alike_through : (i o : ℕ) (x y z : Fraction) → Alike i o x y → Alike i o y z → Alike i o x z
unfolding Alike
alike_through i o x y z h l s N = (Iff.trans (h s N).0 (l s N).0, Iff.trans (h s N).1 (l s N).1)

-- Only zero is alike to zero.
pub alike_zero : (i o : ℕ) (x y : Fraction) → IsFraction x → IsFraction y → Alike i o x y → nat_abs x.numerator ≡ 0 → nat_abs y.numerator ≡ 0
alike_zero i o x y x0 y0 alike none = let c = alike_cell i o x y x0 y0 alike in (cell_zero i o y c.whole c.rest y0 c.second).1 ((cell_zero i o x c.whole c.rest x0 c.first).0 none)

-- Where one grid does not tell two values apart, no coarser one does.
pub alike_coarser : (i o j p : ℕ) (x y : Fraction) → i + p ≤ j + o → Alike i o x y → Alike j p x y
unfolding Alike
alike_coarser i o j p x y h alike s N = (
  Iff.trans (order x).0 (Iff.trans (alike s M).0 (Iff.symm (order y).0)),
  Iff.trans (order x).1 (Iff.trans (alike s M).1 (Iff.symm (order y).1)),
)
  where
    M : ℕ
    M = N * 2 ^ (j + o - (i + p))

    order : (z : Fraction) → (AtMost (scaled s N j p) z ↔ AtMost (scaled s M i o) z) × (AtMost z (scaled s N j p) ↔ AtMost z (scaled s M i o))
    order z =
        equal_order (scaled s N j p) (scaled s M i o) z (scaled_fraction s N j p) (scaled_fraction s M i o)
        (signed_equal s (N * 2 ^ j) (2 ^ p) (M * 2 ^ i) (2 ^ o) (same_power N j o (j + o - (i + p)) i p (omega arith)))

-- the multiple that is z less than another, z being one
less_multiple : (i o : ℕ) (z : Fraction) (s t : Bool) (N M : ℕ) → IsFraction z → Equal z (scaled t M i o) → (r : Bool) × (L : ℕ) × Equal (sum (scaled r L i o) z) (scaled s N i o)
unfolding Equal
less_multiple i o z s t N M z0 e = (is_negative k, nat_abs k, equal_through (sum l z) (sum l (scaled t M i o)) (scaled s N i o) whole (sum_equal l z l (scaled t M i o) refl e) level)
  where
    k : ℤ
    k = sub_ℕ (cond s 0 N + cond t M 0) (cond s N 0 + cond t 0 M)

    l : Fraction
    l = scaled (is_negative k) (nat_abs k) i o

    whole : IsFraction (sum l (scaled t M i o))
    whole = sum_fraction l (scaled t M i o) (scaled_fraction (is_negative k) (nat_abs k) i o) (scaled_fraction t M i o)

    crossed : (s t : Bool) → ((cond s 0 N + cond t M 0) * 2 ^ i * 2 ^ o + cond t 0 (M * 2 ^ i) * 2 ^ o) * 2 ^ o + cond s (N * 2 ^ i) 0 * (2 ^ o * 2 ^ o)
        ≡ cond s 0 (N * 2 ^ i) * (2 ^ o * 2 ^ o) + ((cond s N 0 + cond t 0 M) * 2 ^ i * 2 ^ o + cond t (M * 2 ^ i) 0 * 2 ^ o) * 2 ^ o
    crossed false false = omega arith
    crossed false true = omega arith
    crossed true false = omega arith
    crossed true true = omega arith

    level : Equal (sum l (scaled t M i o)) (scaled s N i o)
    level = (equal_pair (sum_pair (split_pair i o (sub_split (cond s 0 N + cond t M 0) (cond s N 0 + cond t 0 M))) (scaled_pair t M i o)) (scaled_pair s N i o)).1 (crossed s t)

-- Two that are alike stay so with the same multiple of the grid added to both.
pub alike_shift : (i o : ℕ) (x y z : Fraction) (t : Bool) (M : ℕ) → IsFraction z → Equal z (scaled t M i o) → Alike i o x y → Alike i o (sum x z) (sum y z)
unfolding Alike
alike_shift i o x y z t M z0 e alike s N = go (less_multiple i o z s t N M z0 e)
  where
    k : Fraction
    k = scaled s N i o

    go : (r : Bool) × (L : ℕ) × Equal (sum (scaled r L i o) z) k → (AtMost k (sum x z) ↔ AtMost k (sum y z)) × (AtMost (sum x z) k ↔ AtMost (sum y z) k)
    go (r, L, same) = (
      Iff.trans (Iff.trans (order x).0 (at_most_sum l x z z0)) (Iff.trans (alike r L).0 (Iff.symm (Iff.trans (order y).0 (at_most_sum l y z z0)))),
      Iff.trans (Iff.trans (order x).1 (at_most_sum x l z z0)) (Iff.trans (alike r L).1 (Iff.symm (Iff.trans (order y).1 (at_most_sum y l z z0)))),
    )
      where
        l : Fraction
        l = scaled r L i o

        order : (w : Fraction) → (AtMost k (sum w z) ↔ AtMost (sum l z) (sum w z)) × (AtMost (sum w z) k ↔ AtMost (sum w z) (sum l z))
        order w =
            equal_order k (sum l z) (sum w z) (scaled_fraction s N i o) (sum_fraction l z (scaled_fraction r L i o) z0) (equal_back (sum l z) k same)

-- ---- what stands for a value

-- Two of one sign are alike where y is below one grid and x lies between zero and y, at zero only with it.
pub short_alike : (i o : ℕ) (x y : Fraction) → IsFraction x → IsFraction y → is_negative x.numerator ≡ is_negative y.numerator
    → AtMost (magnitude x) (magnitude y) → (nat_abs x.numerator ≡ 0 → nat_abs y.numerator ≡ 0) → nat_abs y.numerator * 2 ^ o < 2 ^ i * y.denominator → Alike i o x y
unfolding AtMost magnitude
short_alike i o x y x0 y0 sign less zero_only small = cell_alike i o x y x0 y0 (go (nat_abs x.numerator) refl)
  where
    X : ℕ
    X = nat_abs x.numerator

    Y : ℕ
    Y = nat_abs y.numerator

    order : X * y.denominator ≤ Y * x.denominator
    order = leb→le (X * y.denominator) (Y * x.denominator) less.le

    shorter : X * 2 ^ o < x.denominator * 2 ^ i
    shorter = lt_of_mul-lt-mul_right y.denominator (omega (arith, mul-le-mul_right (2 ^ o) order, mul-lt-mul_of_pos_right {k = x.denominator} small x0))

    at : (rest : Bool) → HasCell x i o 0 rest → HasCell y i o 0 rest → OneCell i o x y
    at rest h k = record {
      negative = is_negative x.numerator;
      whole = 0;
      rest = rest;
      sign_first = own_sign x;
      sign_second = rw sign (own_sign y);
      first = h;
      second = k;
    }

    go : (a : ℕ) → X ≡ a → OneCell i o x y
    go zero e = at false (omega (arith, ap (λ (n : ℕ). n * 2 ^ o) e)) (omega (arith, ap (λ (n : ℕ). n * 2 ^ o) (zero_only e)))
    go (suc a) e =
        let some : 0 < X * 2 ^ o = mul-pos (omega arith) (pow_pos o) in
        let more : 0 < Y = lt_of_mul-lt-mul_right x.denominator (omega (arith, order, mul-pos (let l : 0 < X = omega arith in l) y0)) in
        at true (omega arith, omega (arith, shorter)) (omega (arith, mul-pos more (pow_pos o)), omega arith)

-- The odd number of a cell stands for every value inside it on the grid of twice the width, and so on every coarser one.
pub odd_alike : (i o j p : ℕ) (s : Bool) (F : ℕ) (x : Fraction) → IsFraction x → HasSign s x → HasCell x i o F true → suc i + p ≤ j + o → Alike j p x (scaled s (odd_of F) i o)
unfolding odd_of
odd_alike i o j p s F x x0 sign h coarse =
    alike_coarser (suc i) o j p x (scaled s (odd_of F) i o) coarse
    (cell_alike (suc i) o x (scaled s (odd_of F) i o) x0 (scaled_fraction s (odd_of F) i o)
    (record {
      negative = s;
      whole = F / 2;
      rest = true;
      sign_first = sign;
      sign_second = rw (abs_signed s ((F / 2 * 2 + 1) * 2 ^ i));
      first = rw (pow-succ' 2 i) (wider (nat_abs x.numerator * 2 ^ o) x.denominator (2 ^ i) h.0 h.1);
      second = rw (abs_signed s ((F / 2 * 2 + 1) * 2 ^ i), pow-succ' 2 i) (let k = mul-pos (pow_pos i) (pow_pos o) in (omega arith, omega arith));
    }))
  where
    wider : (X d g : ℕ) → F * (d * g) < X → X < F * (d * g) + d * g → InCell true X (F / 2) (d * (2 * g))
    wider X d g l h =
        let a : F / 2 * 2 ≤ F = omega arith in
        let b : F + 1 ≤ F / 2 * 2 + 2 = omega arith in
        (omega (arith, mul-le-mul_right (d * g) a), omega (arith, mul-le-mul_right (d * g) b))

-- the sign of a value in a cell that is not the first
cell_sign : (s : Bool) (x : Fraction) (i o F : ℕ) (rest : Bool) → IsFraction x → HasSign s x → HasCell x i o F rest → 0 < F → is_negative x.numerator ≡ s
cell_sign s x i o F rest x0 sign h F0 =
    ap is_negative sign
    ∙ negative_signed s (nat_abs x.numerator)
    (lt_of_mul-lt-mul_right (2 ^ o) (omega (arith, cell_low rest (nat_abs x.numerator * 2 ^ o) F (x.denominator * 2 ^ i) h, mul-pos F0 (mul-pos x0 (pow_pos i)))))

-- Two values that no multiple of a grid tells apart are rounded alike to n bits, where the first one is 2^n grids or more.
pub alike_rounds : (n : ℕ) (x y : Fraction) (i o : ℕ) → 1 ≤ n → IsFraction x → IsFraction y
    → 2 ^ n * (x.denominator * 2 ^ i) ≤ nat_abs x.numerator * 2 ^ o → Alike i o x y → RoundedAlike n x y
alike_rounds n x y i o n0 x0 y0 fine alike =
    let c = alike_cell i o x y x0 y0 alike in
    let bits : 2 ^ n ≤ c.whole = (multiples_below c.rest (nat_abs x.numerator * 2 ^ o) c.whole (x.denominator * 2 ^ i) (2 ^ n) (mul-pos x0 (pow_pos i)) c.first).0 fine in
    let some : 0 < c.whole = lt_of_lt_of_le (pow_pos n) bits in
    same_cell x y c.rest i o c.whole x0 y0
    (cell_sign c.negative x i o c.whole c.rest x0 c.sign_first c.first some ∙ sym (cell_sign c.negative y i o c.whole c.rest y0 c.sign_second c.second some))
    c.first c.second n n0 bits
