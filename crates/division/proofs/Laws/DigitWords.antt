-- The quotient of two significands on words: the reciprocal's products fit and its error is that of Newton's steps, and a digit is the quotient's or one less.
use Rattle.std.proofs.Common.{◌≡◌, ℕ, ◌+◌, ◌-◌, ◌*◌, ◌/◌, ◌%◌, ◌^◌, ◌<◌, ◌≤◌, Bool, true, false, ltb, sym, ap, ◌∙◌, mul-le-mul_right, mul-le-mul, lt_of_mul-lt-mul_right, mul-le-mul_left, mul-lt-mul_of_pos_right, div-add-mod', le_of_mul-le-mul_right, arith, ltb-false, ltb-true}
use mir.Val.{bool_byte}
use Rattle.numbers.specs.Cell.{wide}
use Rattle.division.specs.Seed.{index_of}
use Rattle.division.specs.Words.{IsSignificand, refined_word, HasProducts, IsReciprocalWord, IsQuotient}
use Rattle.division.proofs.Laws.Newton.{IsNear, IsTurned, IsCloser, product_word, has_complement, refined_word_is, closer, next_near, last_close}
use Rattle.division.proofs.Laws.Seeds.{entry_for, entry_range, index_below, seed_close}
use Rattle.division.proofs.Laws.Range.{half, half_is, half_square, half_cube}

-- ---- the reciprocal: twice the word x is Newton's reciprocal

-- the divisor rounded up to half a word
abbrev pub rounded_up : ℕ → ℕ
rounded_up D = (D - 1) / 2 ^ 32 + 1

module _ (D : ℕ) (d : IsSignificand D) where
  abbrev Near : ℕ → Type 0
  Near x = IsNear half D (rounded_up D) (2 * x)

  abbrev DR : ℕ
  DR = rounded_up D

  pub seed_near : Near (entry_for D * 2 ^ 24)
  seed_near =
      let c = seed_close D d.top d.word in
      record {
        half_word = half_is;
        top = omega (arith, half_square, d.top);
        word = omega (arith, half_square, d.word);
        divisor_above = rw half_is (omega (arith, d.top));
        divisor_near = rw half_is (omega (arith, d.top));
        most = omega (arith, half_is, (entry_range (index_of D) (index_below D)).1);
        close = omega (arith, half_cube, c.0, c.1);
      }

  module _ (x : ℕ) (near : Near x) where
    abbrev y : ℕ
    y = x * DR / 2 ^ 31 + 1

    product_above : 2 * x * DR ≤ y * half
    product_above = rw half_is (omega arith)

    product_near : y * half < 2 * x * DR + 2 * half
    product_near = rw half_is (omega arith)

    turned : (z : ℕ) × IsTurned half DR (2 * x) y z
    turned = has_complement half D DR (2 * x) near y product_above product_near

    abbrev z : ℕ
    z = turned.0

    z_is : 2 ^ 33 - 3 - x * DR / 2 ^ 31 ≡ z
    z_is = omega (arith, half_is, turned.1.complement)

    pub products : HasProducts DR x
    products = record {
      product = omega (arith, half_square, product_word half D DR (2 * x) near);
      complement = omega (arith, half_is, turned.1.complement);
      refined = rw z_is (omega (arith, half_square, refined_word_is half D DR (2 * x) y z near turned.1));
    }

    next_is : refined_word DR x ≡ x * z / 2 ^ 32
    unfolding refined_word
    next_is = ap (λ (n : ℕ). x * n / 2 ^ 32) z_is

    next_closer : IsCloser (half * half * half) (half * half) (2 * x * D) (2 * refined_word DR x * D)
    next_closer =
        closer half D DR (2 * x) y z (2 * refined_word DR x) near turned.1
        (rw next_is (record { below = rw half_is (omega arith); near = rw half_is (omega arith) }))

    pub next : Near (refined_word DR x)
    next = next_near half D DR (2 * x) (2 * refined_word DR x) near next_closer

    next_word : refined_word DR x < 2 ^ 32
    next_word = rw next_is (omega (arith, half_square, refined_word_is half D DR (2 * x) y z near turned.1))

  -- the seed, refined twice
  pub reciprocal_word : (x : ℕ) → x ≡ entry_for D * 2 ^ 24 → IsReciprocalWord D (refined_word DR (refined_word DR x))
  reciprocal_word x e =
      let near : Near x = rw e seed_near in
      let again = next x near in
      record {
        word = next_word (refined_word DR x) again;
        under = omega (arith, half_cube, (next_closer (refined_word DR x) again).under);
        close =
            omega (arith, half_cube, half_square, last_close half D DR (2 * x) (2 * refined_word DR x) near (next_closer x near) (2 * refined_word DR (refined_word DR x)) (next_closer (refined_word DR x) again));
      }

-- ---- products of halves, and a digit times a half

pub product_fits : (a b : ℕ) → a < 2 ^ 32 → b < 2 ^ 32 → a * b < 2 ^ 64
product_fits a b h k = digits_lt_product a b (omega arith) (omega arith)
  where
    digits_lt_product : (a b : ℕ) → a ≤ 2 ^ 32 - 1 → b ≤ 2 ^ 32 - 1 → a * b < 2 ^ 64
    digits_lt_product a b h k = omega (arith, mul-le-mul h k)

quotient_small : (a b : ℕ) → a < 2 ^ 32 → b < 2 ^ 32 → a * b / 2 ^ 36 < 2 ^ 28
quotient_small a b h k = omega (arith, product_fits a b h k)

module _ (a b e : ℕ) (h : a < 2 ^ 32) (k : b < 2 ^ 32) (l : e < 2 ^ 32) where
  digit_product : a * b / 2 ^ 36 * e ≤ 2 ^ 60
  digit_product =
      let q : a * b / 2 ^ 36 ≤ 2 ^ 28 = omega (arith, quotient_small a b h k) in
      let f : e ≤ 2 ^ 32 = omega arith in
      omega (arith, mul-le-mul q f)

  pub digit_product_fits : a * b / 2 ^ 36 * e < 2 ^ 64
  digit_product_fits = omega (arith, digit_product)

  pub digit_product_more : a * b / 2 ^ 36 * e + 2 ^ 29 < 2 ^ 64
  digit_product_more = omega (arith, digit_product)

  pub digit_product_lent : (r : ℕ) → a * b / 2 ^ 36 * e ≤ 2 ^ 61 + r
  digit_product_lent r = omega (arith, digit_product)

-- ---- a digit, w standing for 2^32: H is the upper half of the remainder R, and q is H X / 2^36, that is, 16 w

module _ (w R H X D q : ℕ) (w0 : 0 < w) (d0 : 0 < D) (h0 : H * w ≤ R) (h1 : R < H * w + w) (r : R < D)
    (x0 : 2 * X * D ≤ w * w * w) (x1 : w * w * w ≤ 2 * X * D + 16 * (w * w))
    (q0 : q * (16 * w) ≤ H * X) (q1 : H * X < q * (16 * w) + 16 * w) (d1 : w * w ≤ 2 * D) where
  digit_below : 32 * q * D ≤ R * w
  digit_below = le_of_mul-le-mul_right {k = w} (omega (arith, mul-le-mul_right (2 * D) q0, mul-le-mul_left H x0, mul-le-mul_right (w * w) h0)) w0

  digit_above : R * w < 32 * (q + 2) * D
  digit_above =
      lt_of_mul-lt-mul_right w
      (omega (
        arith,
        mul-lt-mul_of_pos_right {k = w * w} h1 (mul-le-mul w0 w0),
        mul-lt-mul_of_pos_right {k = 2 * D} q1 (omega (arith, d0)),
        mul-le-mul_left H x1,
        mul-le-mul_right (16 * w) h0,
        mul-lt-mul_of_pos_right {k = 16 * w} r (omega (arith, w0)),
        mul-le-mul_right w d1,
        mul-le-mul_right w d0,
      ))

module _ (D X R : ℕ) (d : IsSignificand D) (x : IsReciprocalWord D X) (r : R < D) where
  abbrev upper : ℕ
  upper = R / 2 ^ 32

  -- the estimate
  abbrev pub estimate : ℕ
  estimate = R / 2 ^ 32 * X / 2 ^ 36

  pub estimate_small : estimate < 2 ^ 28
  estimate_small = quotient_small upper X (omega (arith, d.word)) x.word

  pub estimate_below : estimate * D ≤ R * 2 ^ 27
  estimate_below =
      let bound = digit_below half R upper X D estimate (omega (arith, half_is)) (omega (arith, d.top)) (rw half_is (omega arith)) (rw half_is (omega arith)) r
      (omega (arith, half_cube, x.under)) (omega (arith, half_cube, half_square, x.close)) (rw half_is (omega arith)) (rw half_is (omega arith)) (omega (arith, half_square, d.top)) in
      omega (arith, rw half_is at bound)

  pub estimate_above : R * 2 ^ 27 < (estimate + 2) * D
  estimate_above =
      let bound = digit_above half R upper X D estimate (omega (arith, half_is)) (omega (arith, d.top)) (rw half_is (omega arith)) (rw half_is (omega arith)) r
      (omega (arith, half_cube, x.under)) (omega (arith, half_cube, half_square, x.close)) (rw half_is (omega arith)) (rw half_is (omega arith)) (omega (arith, half_square, d.top)) in
      omega (arith, rw half_is at bound)

-- what is left of R × 2^27, in two halves of a word
module _ (D R q : ℕ) (word : D < 2 ^ 64) (small : q < 2 ^ 28) (below : q * D ≤ R * 2 ^ 27) where
  abbrev low : ℕ
  low = 2 ^ 61 + R % 2 ^ 32 * 2 ^ 27 - q * (D % 2 ^ 32)

  parts : q * D ≡ q * (D / 2 ^ 32) * 2 ^ 32 + q * (D % 2 ^ 32)
  parts = ap (λ (n : ℕ). q * n) (sym (div-add-mod' D (2 ^ 32))) ∙ omega arith

  low_product : q * (D % 2 ^ 32) < 2 ^ 60
  low_product =
      let a : q ≤ 2 ^ 28 - 1 = omega arith in
      let b : D % 2 ^ 32 ≤ 2 ^ 32 - 1 = omega arith in
      omega (arith, mul-le-mul a b)

  pub left_fits : q * (D / 2 ^ 32) + 2 ^ 29 ≤ R / 2 ^ 32 * 2 ^ 27 + low / 2 ^ 32
  left_fits = omega (arith, parts, low_product)

  pub left_is : (R / 2 ^ 32 * 2 ^ 27 + low / 2 ^ 32 - (q * (D / 2 ^ 32) + 2 ^ 29)) * 2 ^ 32 + low % 2 ^ 32 + q * D ≡ R * 2 ^ 27
  left_is = omega (arith, parts, low_product, left_fits)

-- what is left, T, less D where it is not below D, as a word that wraps
same_word : (D T R : ℕ) → T < D → D < 2 ^ 64 → R < 2 ^ 64 → (R + 0 * D) % 2 ^ 64 ≡ T % 2 ^ 64 → R ≡ T
same_word D T R t word r h = omega arith

less_word : (D T R : ℕ) → D ≤ T → T < 2 * D → D < 2 ^ 64 → R < 2 ^ 64 → (R + 1 * D) % 2 ^ 64 ≡ T % 2 ^ 64 → R + D ≡ T
less_word D T R t t1 word r h = omega arith

module _ (D M q a b : ℕ) (left : a * 2 ^ 32 + b + q * D ≡ M) (half_word : b < 2 ^ 32) (above : M < (q + 2) * D) (word : D < 2 ^ 64) where
  abbrev T : ℕ
  T = a * 2 ^ 32 + b

  abbrev over : ℕ
  over = a + (2 ^ 32 + b - D % 2 ^ 32) / 2 ^ 32

  wrapped : a % 2 ^ 32 * 2 ^ 32 + b ≡ T % 2 ^ 64
  wrapped = omega arith

  below_twice : T < 2 * D
  below_twice = omega arith

  pub corrected : (more : Bool) → more ≡ ltb (D / 2 ^ 32) over → (R : ℕ) → R < 2 ^ 64 → (R + bool_byte more * D) % 2 ^ 64 ≡ a % 2 ^ 32 * 2 ^ 32 + b → IsQuotient M D (q + bool_byte more) R
  corrected false e R r h =
      let l = ltb-false (D / 2 ^ 32) over (sym e) in
      let t : T < D = omega (arith, l) in
      let same : R ≡ T = same_word D T R t word r (h ∙ wrapped) in
      record { parts = rw same (omega arith); below = rw same t }
  corrected true e R r h =
      let l = ltb-true (D / 2 ^ 32) over (sym e) in
      let t : D ≤ T = omega (arith, l) in
      let less : R + D ≡ T = less_word D T R t below_twice word r (h ∙ wrapped) in
      record { parts = omega (arith, less); below = omega (arith, less, below_twice) }

-- ---- the digits together

-- a digit of a remainder below D has 27 bits
pub digit_bits : {R D q S : ℕ} → IsQuotient (R * 2 ^ 27) D q S → R < D → q < 2 ^ 27
digit_bits {R} {D} {q} {S} h r = lt_of_mul-lt-mul_right D (omega (arith, h.parts, r))

-- a bit and three digits
pub joined : (P D b q1 q2 q3 r0 r1 r2 r3 : ℕ) → IsQuotient P D b r0 → IsQuotient (r0 * 2 ^ 27) D q1 r1 → IsQuotient (r1 * 2 ^ 27) D q2 r2 → IsQuotient (r2 * 2 ^ 27) D q3 r3
    → IsQuotient (P * 2 ^ 81) D (wide (b * 2 ^ 17 + q1 / 2 ^ 10) (q1 % 2 ^ 10 * 2 ^ 54 + q2 * 2 ^ 27 + q3)) r3
unfolding wide
joined P D b q1 q2 q3 r0 r1 r2 r3 h k l m =
    let whole : (b * 2 ^ 17 + q1 / 2 ^ 10) * 2 ^ 64 + (q1 % 2 ^ 10 * 2 ^ 54 + q2 * 2 ^ 27 + q3) ≡ b * 2 ^ 81 + q1 * 2 ^ 54 + q2 * 2 ^ 27 + q3 = omega arith in
    record { parts = rw whole (omega (arith, h.parts, k.parts, l.parts, m.parts)); below = m.below }
