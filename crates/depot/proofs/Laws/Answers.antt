-- What `divide` and `add` answer on a depot's numbers: the sums and means of the definitions, and never a refusal. Of division this takes the
-- definition of the quotient and nothing else.
use mathlib.Core.Path.{◌≡◌, refl, ap, ◌∙◌}
use mathlib.Core.Bool.{true, false}
use Prim.Native.Nat.{ℕ, suc, ◌+◌, ◌*◌, ◌^◌, ◌≤◌, ◌<◌}
use native.Mathlib.Nat.{mul-le-mul_left, mul-le-mul_right, mul-pos, le_trans}
use native.Mathlib.Omega.{arith}
use lib.Dec.{lit≤, lit<}
use lib.IntN.{nat_abs}
use lib.Pow.{pow-add, pow_mono}
use Rattle.numbers.specs.Number.{is_working_exponent, is_admissible_exponent, is_working, is_admissible}
use Rattle.numbers.specs.Fraction.{Fraction, IsFraction, Equal, value, sum, quotient}
use Rattle.numbers.specs.Rounding.{round, task_of, is_precision}
use Rattle.numbers.specs.Answer.{given, rounded, unless_unknown, unless_unfit}
use Rattle.numbers.specs.declared.number.Number.{Number}
use Rattle.numbers.specs.declared.number.Number.TheVariants.{Zero, Finite}
use Rattle.numbers.specs.declared.task.Mode.{Mode}
use Rattle.numbers.specs.declared.task.Mode.TheVariants.{Up, Down}
use Rattle.numbers.proofs.Laws.Scaled.{value_fraction}
use Rattle.numbers.proofs.Laws.Fits.{working_checked}
use Rattle.numbers.proofs.Laws.Fractions.{quotient_equal, quotient_fraction, equal_magnitudes}
use Rattle.numbers.proofs.Laws.Value.{value_alone}
use Rattle.arithmetic.specs.Operations.{operation_of, coded_of, sum_of}
use Rattle.division.specs.Quotient.{is_zero, unless_indivisible, quotient_of}
use Rattle.depot.specs.Figures.{whole, with_rate, mean_of}
use Rattle.depot.proofs.Laws.Amounts.{numerator_of, IsAmount, sum_amount, part_numerator, part_denominator, part_amount}
use Rattle.depot.proofs.Laws.Close.{parts, round_amount, round_down, round_up}
use Rattle.depot.proofs.Laws.Bracket.{IsSum, value_amount, round_sum, added}
use Rattle.depot.proofs.Laws.Range.{IsInRange, lower_range, upper_range, range_fit, IsRate, sum_ends}

-- the two sides of a bracket, by mode code and mode: low is 5, down, and high is 4, up
pub data IsSide : ℕ → Mode → Type 0 where
  low : IsSide 5 Down
  high : IsSide 4 Up

-- ---- ranges

-- a wider range
pub wider : (u v : ℕ) (x : Fraction) → u ≤ v → IsInRange u x → IsInRange v x
wider u v x h r = record {
  most = le_trans r.most (mul-le-mul_right x.denominator h);
  least = λ some. le_trans (r.least some) (mul-le-mul_right (numerator_of x) h);
}

-- after a rounding
pub round_range : {code : ℕ} {mode : Mode} → IsSide code mode → (u : ℕ) (x : Fraction) → IsAmount x → IsInRange u x → IsInRange (2 * u) (value (round mode 64 x))
unfolding parts
round_range low u x ax r = lower_range 1 u (value (round Down 64 x)) x (lit≤ tt) (round_amount Down x ax) ax (round_down x ax) r
round_range high u x ax r = upper_range 1 u x (value (round Up 64 x)) (lit≤ tt) ax (round_amount Up x ax) (round_up x ax) r

-- of a sum, and of a part
sum_in_range : (u : ℕ) (x y : Fraction) → IsAmount x → IsAmount y → IsInRange u x → IsInRange u y → IsInRange (2 * u) (sum x y)
sum_in_range u x y ax ay r s =
    let ends = sum_ends u u u x y ax ay r.most s.most r.least s.least in
    record { most = omega (arith, ends.0); least = λ some. omega (arith, ends.1 some) }

part_range : (u n : ℕ) (x : Fraction) → 0 < n → IsAmount x → IsInRange u x → IsInRange (u * n) (quotient x (whole n))
part_range u n x n0 ax r = record {
  most =
      rw (part_numerator x n ax, part_denominator x n)
      (le_trans r.most (omega (arith, mul-le-mul_right (u * x.denominator) n0, mul-le-mul_right (u * x.denominator * n) n0)));
  least = λ some. rw (part_numerator x n ax, part_denominator x n) (omega (arith, mul-le-mul_right n (r.least (rw (part_numerator x n ax) at some))));
}

-- a number in range is working, and may be divided: the lowest exponents, −65,535 and −16,446, are negsuc 65534 and negsuc 16445
pub range_working : (k : ℕ) (x : Number) → k ≤ 65535 → IsSum x → IsInRange (2 ^ k) (value x) → is_working x ≡ true
unfolding is_working_exponent
range_working k x h s r = range_fit 65534 65536 k x h (omega arith) s r

pub range_admissible : (k : ℕ) (x : Number) → k ≤ 16384 → IsSum x → IsInRange (2 ^ k) (value x) → is_admissible x ≡ true
unfolding is_admissible_exponent
range_admissible k x h s r = range_fit 16445 16384 k x (omega arith) h s r

-- ---- the entries' definitions, where no row applies

quotient_answer : {code : ℕ} {mode : Mode} → IsSide code mode → (p d : Number) → is_admissible p ≡ true → is_admissible d ≡ true → is_zero d ≡ false
    → is_working (round mode 64 (quotient (value p) (value d))) ≡ true → quotient_of p d code 64 ≡ given (round mode 64 (quotient (value p) (value d)))
unfolding quotient_of unless_indivisible unless_unknown unless_unfit is_precision rounded task_of
quotient_answer low p d fp fd some w = rw (fp, fd, some) (working_checked (round Down 64 (quotient (value p) (value d))) w)
quotient_answer high p d fp fd some w = rw (fp, fd, some) (working_checked (round Up 64 (quotient (value p) (value d))) w)

sum_answer : {code : ℕ} {mode : Mode} → IsSide code mode → (a b : Number) → is_working a ≡ true → is_working b ≡ true → is_working (added mode a b) ≡ true
    → sum_of a b code 64 ≡ given (added mode a b)
unfolding sum_of coded_of operation_of unless_unknown unless_unfit is_precision rounded task_of
sum_answer low a b fa fb w = rw (fa, fb) (working_checked (added Down a b) w)
sum_answer high a b fa fb w = rw (fa, fb) (working_checked (added Up a b) w)

-- ---- whole numbers as numbers

-- what `whole::number_of` promises of x
abbrev pub IsWhole : ℕ → Number → Type 0
IsWhole n x = (is_admissible x ≡ true) × Equal (value x) (whole n)

pub whole_some : (n : ℕ) (x : Number) → 0 < n → IsWhole n x → 0 < nat_abs (value x).numerator
unfolding whole
whole_some n x n0 w =
    let cross : nat_abs (value x).numerator * 1 ≡ n * (value x).denominator = equal_magnitudes (value x) (whole n) w.1 in
    omega (arith, mul-pos n0 (value_fraction x))

pub whole_nonzero : (n : ℕ) (x : Number) → 0 < n → IsWhole n x → is_zero x ≡ false
unfolding is_zero value
whole_nonzero n Zero n0 w = absurd (let l : 0 < 0 = whole_some n Zero n0 w in omega arith)
whole_nonzero n (Finite s e S) n0 w = refl

-- ---- rates, sums and means

-- a number that is x, divided by one that is n: x / n is rounded once; with a carry its exponent is working too, for k up to 65,534
part_answer : {code : ℕ} {mode : Mode} → IsSide code mode → (k n : ℕ) (p d : Number) (x : Fraction) → is_admissible p ≡ true → IsFraction x → Equal (value p) x
    → 0 < n → IsWhole n d → IsAmount (quotient x (whole n)) → IsInRange (2 ^ k) (quotient x (whole n)) → k ≤ 65534
    → quotient_of p d code 64 ≡ given (round mode 64 (quotient x (whole n)))
unfolding whole
part_answer {code} {mode} side k n p d x fp x0 e n0 wd amount r few =
    let two : 2 * 2 ^ k ≡ 2 ^ suc k = omega arith in
    let part = quotient x (whole n) in
    quotient_answer side p d fp wd.0 (whole_nonzero n d n0 wd)
    (rw same (range_working (suc k) (round mode 64 part) (omega arith) (round_sum mode part amount) (rw two at (round_range side (2 ^ k) part amount r))))
    ∙ ap given same
  where
    some : 0 < nat_abs (value d).numerator
    some = whole_some n d n0 wd

    same : round mode 64 (quotient (value p) (value d)) ≡ round mode 64 (quotient x (whole n))
    same =
        (value_alone 64 (quotient (value p) (value d)) (quotient x (whole n)) (lit≤ tt)
        (quotient_fraction (value p) (value d) (value_fraction p) some) (quotient_fraction x (whole n) x0 n0)
        (quotient_equal (value p) (value d) x (whole n) (value_fraction p) (value_fraction d) x0 (lit< tt) some e wd.1)).rounds mode

-- a rate on a side
module _ {code : ℕ} {mode : Mode} (side : IsSide code mode) (x : Fraction) (is : IsRate x) where
  pub rate_range : IsInRange (2 ^ 33) (value (round mode 64 x))
  rate_range = round_range side (2 ^ 32) x is.amount is.range

  pub rate_working : is_working (round mode 64 x) ≡ true
  rate_working = range_working 33 (round mode 64 x) (lit≤ tt) (round_sum mode x is.amount) rate_range

-- a sum with one rate more: its range grows by two bits at most
module _ {code : ℕ} {mode : Mode} (side : IsSide code mode) (k : ℕ) (total : Number) (x : Fraction) (s : IsSum total) (r : IsInRange (2 ^ k) (value total)) (is : IsRate x)
    (wide : 33 ≤ k) where
  exact : IsAmount (sum (value total) (value (round mode 64 x)))
  exact = sum_amount (value total) (value (round mode 64 x)) (value_amount total s) (round_amount mode x is.amount)

  pub total_sum : IsSum (with_rate mode total x)
  unfolding with_rate
  total_sum = round_sum mode (sum (value total) (value (round mode 64 x))) exact

  pub total_range : IsInRange (2 ^ (k + 2)) (value (with_rate mode total x))
  unfolding with_rate
  total_range =
      let four : 2 * (2 * 2 ^ k) ≡ 2 ^ (k + 2) = omega (arith, pow-add 2 k 2) in
      rw (← four)
      (round_range side (2 * 2 ^ k) (sum (value total) (value (round mode 64 x))) exact
      (sum_in_range (2 ^ k) (value total) (value (round mode 64 x)) (value_amount total s) (round_amount mode x is.amount) r
      (wider (2 ^ 33) (2 ^ k) (value (round mode 64 x)) (pow_mono wide) (rate_range side x is))))

  -- a sum has a bit more, and may carry
  pub total_answer : k ≤ 65533 → sum_of total (round mode 64 x) code 64 ≡ given (with_rate mode total x)
  unfolding with_rate
  total_answer few =
      sum_answer side total (round mode 64 x) (range_working k total (omega arith) s r)
      (rate_working side x is)
      (range_working (k + 2) (added mode total (round mode 64 x)) (omega arith) total_sum total_range)

-- "that sum divided down 64 by the moved count"
pub mean_answer : {code : ℕ} {mode : Mode} → IsSide code mode → (k n : ℕ) (total d : Number) → IsSum total → IsInRange (2 ^ k) (value total) → k ≤ 16384
    → 0 < n → n ≤ 2 ^ 32 → IsWhole n d → quotient_of total d code 64 ≡ given (mean_of mode total n)
unfolding mean_of Equal
mean_answer side k n total d s r few n0 n1 wd =
    let part = quotient (value total) (whole n) in
    let all : 2 ^ k * 2 ^ 32 ≡ 2 ^ (k + 32) = omega (arith, pow-add 2 k 32) in
    let amount = value_amount total s in
    part_answer side (k + 32) n total d (value total) (range_admissible k total few s r) (value_fraction total) refl n0 wd
    (part_amount (value total) n n0 amount)
    (rw (← all) (wider (2 ^ k * n) (2 ^ k * 2 ^ 32) part (mul-le-mul_left (2 ^ k) n1) (part_range (2 ^ k) n (value total) n0 amount r))) (omega arith)
