-- What a rounding gives is fit: its significand has the top bit set, and an outcome that is a number is a working number.
use mathlib.Core.Path.{◌≡◌, refl, sym, ap}
use mathlib.Core.Bool.{Bool, true, false, cond, and-eq-true_iff}
use mathlib.Core.Logic.{◌⊎◌, inl, inr}
use Prim.Native.Nat.{ℕ, zero, suc, ◌+◌, ◌-◌, ◌*◌, ◌/◌, ◌%◌, ◌^◌, ◌≤◌, ◌<◌}
use native.Mathlib.Decide.{ℕ_discrete}
use native.Mathlib.Nat.{le_of_eq, le_trans, lt_of_lt_of_le, mul-le-mul_right, mul-lt-mul_of_pos_right, le-div_iff_mul-le, div-lt_iff_lt-mul}
use native.Mathlib.Omega.{arith}
use borrow.Author.Tests.{le-leb, lt-ltb, eq-eqb, ne_eqb}
use lib.Dec.{T, eqb, eqb→eq}
use lib.IntN.{ℤ, nat_abs, suc_ℤ}
use lib.Ieee.{up}
use lib.Pow.{pow_pos}
use Rattle.numbers.specs.Number.{is_significand, is_fit, is_working_exponent, is_working}
use Rattle.numbers.specs.Fraction.{Fraction, IsFraction, is_negative}
use Rattle.numbers.specs.Rounding.{exponent_of, scaled_numerator, scaled_denominator, goes_up, whole_of, placed, rounded_at, round, has_at_most_bits, by_mode, precision_of}
use Rattle.numbers.specs.Answer.{given, refused, checked, claimed, rounded, judged}
use Rattle.numbers.specs.declared.number.Number.{Number}
use Rattle.numbers.specs.declared.number.Number.TheVariants.{Zero, Finite}
use Rattle.numbers.specs.declared.task.Mode.{Mode}
use Rattle.numbers.specs.declared.task.Mode.TheVariants.{Trunc}
use Rattle.numbers.specs.declared.task.Task.{Task}
use Rattle.numbers.specs.declared.task.Task.TheVariants.{Round, Exact}
use Rattle.numbers.proofs.Laws.Exponent.{exponent_reaches, exponent_below, scaled_positive}
use Rattle.numbers.proofs.Laws.Powers.{power_twice, word_parts, word_power}
use Rattle.numbers.proofs.Laws.Tests.{never, at_most_one}

-- the whole number is the quotient, or one more
whole_low : (mode : Mode) (s : Bool) (a b : ℕ) → a / b ≤ whole_of mode s a b
unfolding whole_of
whole_low mode s a b = omega arith

whole_high : (mode : Mode) (s : Bool) (a b : ℕ) → whole_of mode s a b ≤ a / b + 1
unfolding whole_of
whole_high mode s a b = omega (arith, at_most_one (goes_up mode s (a / b) (a % b) b))

-- a whole number from 2^(n - 1) to 2^n is placed with its top bit set
placed_fits : (s : Bool) (e : ℤ) (n q : ℕ) → 1 ≤ n → n ≤ 64 → 2 ^ (n - 1) ≤ q → q ≤ 2 ^ n
    → (f : ℤ) × (S : ℕ) × (placed s e n q ≡ Finite s f S) × (is_significand S ≡ true)
unfolding placed is_significand
placed_fits s e n q n0 n1 low high = go (ℕ_discrete q (2 ^ n))
  where
    go : Dec (q ≡ 2 ^ n) → (f : ℤ) × (S : ℕ) × (placed s e n q ≡ Finite s f S) × (is_significand S ≡ true)
    go (yes k) = (suc_ℤ e, 2 ^ 63, rw (eq-eqb q (2 ^ n) k), refl)
    go (no k) = (
      e,
      q * 2 ^ (64 - n),
      rw (ne_eqb q (2 ^ n) k),
      rw (
        le-leb (2 ^ 63) (q * 2 ^ (64 - n)) (le_trans (le_of_eq (sym (word_parts n n0 n1))) (mul-le-mul_right (2 ^ (64 - n)) low)),
        lt-ltb (q * 2 ^ (64 - n)) (2 ^ 64) (lt_of_lt_of_le (mul-lt-mul_of_pos_right {k = 2 ^ (64 - n)} (below q (2 ^ n) high k) (pow_pos (64 - n))) (le_of_eq (word_power n n1))),
      ),
    )
      where
        below : (a b : ℕ) → a ≤ b → (a ≡ b → ⊥) → a < b
        below a b l m = omega arith

pub round_zero : (mode : Mode) (n : ℕ) (x : Fraction) → nat_abs x.numerator ≡ 0 → round mode n x ≡ Zero
unfolding round
round_zero mode n x e = rw e

-- the scaled magnitude lies in [2^(n - 1), 2^n)
module _ (a b n : ℕ) (a0 : 0 < a) (b0 : 0 < b) (n0 : 1 ≤ n) where
  pub scaled_low : 2 ^ (n - 1) * scaled_denominator (exponent_of a b) b ≤ scaled_numerator n (exponent_of a b) a
  unfolding scaled_numerator scaled_denominator
  scaled_low = omega (arith, mul-le-mul_right (2 ^ (n - 1)) (exponent_reaches a b a0 b0))

  pub scaled_high : scaled_numerator n (exponent_of a b) a < 2 ^ n * scaled_denominator (exponent_of a b) b
  unfolding scaled_numerator scaled_denominator
  scaled_high =
      omega (arith, mul-lt-mul_of_pos_right {k = 2 ^ (n - 1)} (exponent_below a b a0 b0) (pow_pos (n - 1)), ap (λ (m : ℕ). m * (b * up (exponent_of a b))) (power_twice n n0))

-- what a nonzero fraction is rounded to: the sign and the exponent are its own, and the whole number has n bits, or carries
pub round_placed : (mode : Mode) (n : ℕ) (x : Fraction) → IsFraction x → 1 ≤ n → 0 < nat_abs x.numerator
    → (q : ℕ) × (round mode n x ≡ placed (is_negative x.numerator) (exponent_of (nat_abs x.numerator) x.denominator) n q) × (2 ^ (n - 1) ≤ q) × (q ≤ 2 ^ n)
unfolding round rounded_at
round_placed mode n x b0 n0 m0 =
    let m = nat_abs x.numerator in
    let s = is_negative x.numerator in
    let e = exponent_of m x.denominator in
    let A = scaled_numerator n e m in
    let B = scaled_denominator e x.denominator in
    let B0 : 0 < B = scaled_positive e x.denominator b0 in
    let low : 2 ^ (n - 1) ≤ A / B = (le-div_iff_mul-le B0).1 (scaled_low m x.denominator n m0 b0 n0) in
    let high : A / B < 2 ^ n = (div-lt_iff_lt-mul B0).1 (scaled_high m x.denominator n m0 b0 n0) in
    (whole_of mode s A B, rw (ne_eqb m 0 (λ (z : m ≡ 0). omega arith)), le_trans low (whole_low mode s A B), le_trans (whole_high mode s A B) (grown high))
  where
    grown : {a b : ℕ} → a < b → a + 1 ≤ b
    grown l = omega arith

-- a rounding to n bits has its top bit set, whatever its exponent
pub round_fits : (mode : Mode) (n : ℕ) (x : Fraction) → IsFraction x → 1 ≤ n → n ≤ 64 → is_fit (λ (e : ℤ). true) (round mode n x) ≡ true
unfolding is_fit
round_fits mode n x b0 n0 n1 = go (nat_abs x.numerator) refl
  where
    go : (a : ℕ) → nat_abs x.numerator ≡ a → is_fit (λ (e : ℤ). true) (round mode n x) ≡ true
    go zero k = rw (round_zero mode n x k)
    go (suc a) k =
        let r = round_placed mode n x b0 n0 (omega arith) in
        let p = placed_fits (is_negative x.numerator) (exponent_of (nat_abs x.numerator) x.denominator) n r.0 n0 n1 r.2 r.3 in
        rw (r.1, p.2) p.3

pub zero_working : is_working Zero ≡ true
unfolding is_fit
zero_working = refl

-- a number that passes row 7 is working
checked_working : (y z : Number) → is_fit (λ (e : ℤ). true) y ≡ true → checked y ≡ given z → is_working z ≡ true
unfolding is_fit checked
checked_working Zero z h k = rw (sym (same z k))
  where
    same : (z : Number) → given Zero ≡ given z → Zero ≡ z
    same z k = cc
checked_working (Finite s e S) z h k = go (is_working_exponent e) refl k
  where
    go : (w : Bool) → is_working_exponent e ≡ w → cond w (given (Finite s e S)) (refused 7) ≡ given z → is_working z ≡ true
    go true w k = let l : z ≡ Finite s e S = cc in rw (l, w) h
    go false w k = never cc

-- trunc keeps the exponent, so a claim that passes row 7 is working
trunc_working : (n : ℕ) (x : Fraction) → IsFraction x → 1 ≤ n → n ≤ 64 → is_working_exponent (exponent_of (nat_abs x.numerator) x.denominator) ≡ true → is_working (round Trunc n x) ≡ true
unfolding is_fit round rounded_at whole_of goes_up placed
trunc_working n x b0 n0 n1 w = go (nat_abs x.numerator) refl (round_fits Trunc n x b0 n0 n1)
  where
    go : (a : ℕ) → nat_abs x.numerator ≡ a → is_fit (λ (e : ℤ). true) (round Trunc n x) ≡ true → is_working (round Trunc n x) ≡ true
    go zero k f = rw k
    go (suc a) k f =
        let m = nat_abs x.numerator in
        let e = exponent_of m x.denominator in
        let m0 : 0 < m = omega arith in
        let q = scaled_numerator n e m / scaled_denominator e x.denominator in
        let high : q < 2 ^ n = (div-lt_iff_lt-mul (scaled_positive e x.denominator b0)).1 (scaled_high m x.denominator n m0 b0 n0) in
        let some = ne_eqb m 0 (λ (z : m ≡ 0). omega arith) in
        let stays = ne_eqb (q + 0) (2 ^ n) (λ (z : q + 0 ≡ 2 ^ n). omega arith) in
        rw (some, stays, w) (rw (some, stays) at f)

-- What a claim gives: zero of zero, or the trunc of a value whose exponent is working and whose bits are few.
abbrev pub IsClaimed : ℕ → Fraction → Number → Type 0
IsClaimed n x y =
    ((nat_abs x.numerator ≡ 0) × (y ≡ Zero))
    ⊎ ((is_working_exponent (exponent_of (nat_abs x.numerator) x.denominator) ≡ true) × (has_at_most_bits n (nat_abs x.numerator) x.denominator ≡ true) × (y ≡ round Trunc n x))

pub claimed_given : (n : ℕ) (x : Fraction) (y : Number) → claimed n x ≡ given y → IsClaimed n x y
unfolding claimed judged
claimed_given n x y h =
    go (eqb (nat_abs x.numerator) 0) (is_working_exponent (exponent_of (nat_abs x.numerator) x.denominator)) (has_at_most_bits n (nat_abs x.numerator) x.denominator)
    (λ t. eqb→eq (nat_abs x.numerator) 0 t) refl refl h
  where
    go : (z w b : Bool) → (T z → nat_abs x.numerator ≡ 0) → is_working_exponent (exponent_of (nat_abs x.numerator) x.denominator) ≡ w
        → has_at_most_bits n (nat_abs x.numerator) x.denominator ≡ b → cond z (given Zero) (cond w (cond b (given (round Trunc n x)) (refused 8)) (refused 7)) ≡ given y
        → IsClaimed n x y
    go true w b none e f k = inl (none tt, cc)
    go false true true none e f k = inr (e, f, cc)
    go false true false none e f k = never cc
    go false false b none e f k = never cc

claimed_working : (n : ℕ) (x : Fraction) (y : Number) → IsFraction x → 1 ≤ n → n ≤ 64 → claimed n x ≡ given y → is_working y ≡ true
claimed_working n x y x0 n0 n1 h = go (claimed_given n x y h)
  where
    go : IsClaimed n x y → is_working y ≡ true
    go (inl (none, e)) = rw e zero_working
    go (inr (w, b, e)) = rw e (trunc_working n x x0 n0 n1 w)

-- what a task gives is a working number
pub given_working : (task : Task) (x : Fraction) (y : Number) → IsFraction x → 1 ≤ precision_of task → precision_of task ≤ 64 → rounded task x ≡ given y → is_working y ≡ true
unfolding rounded
given_working (Round r) x y x0 n0 n1 h = checked_working (round r.mode r.precision x) y (round_fits r.mode r.precision x x0 n0 n1) h
given_working (Exact c) x y x0 n0 n1 h = claimed_working c.precision x y x0 n0 n1 h

-- what a mode gives is its rounding, and a working number passes row 7
pub given_round : (mode : Mode) (n : ℕ) (x : Fraction) (y : Number) → rounded (by_mode mode n) x ≡ given y → y ≡ round mode n x
unfolding rounded checked
given_round mode n x y h = go (round mode n x) h
  where
    inside : (z : Number) (working : Bool) → cond working (given z) (refused 7) ≡ given y → y ≡ z
    inside z true h = cc
    inside z false h = never cc

    go : (z : Number) → checked z ≡ given y → y ≡ z
    go Zero h = cc
    go (Finite s e S) h = inside (Finite s e S) (is_working_exponent e) h

pub working_checked : (z : Number) → is_working z ≡ true → checked z ≡ given z
unfolding checked is_fit
working_checked Zero h = refl
working_checked (Finite s e S) h = rw ((and-eq-true_iff (is_working_exponent e) (is_significand S)).0 h).0
