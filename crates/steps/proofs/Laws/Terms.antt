-- The terms that the laws of the steps are stated in. The divisor is ± D × 2^b / 2^origin, with b its biased exponent.
use mathlib.Core.Path.{◌≡◌}
use mathlib.Core.Bool.{Bool, true, false}
use Prim.Native.Nat.{ℕ, ◌-◌, ◌+◌, ◌*◌, ◌^◌, ◌≤◌, ◌<◌}
use lib.IntN.{nat_abs}
use Rattle.numbers.specs.Biased.{origin}
use Rattle.numbers.specs.Number.{is_working}
use Rattle.numbers.specs.Fraction.{Equal, AtMost, Below, value, sum, difference, product, quotient, magnitude, is_negative, scaled, IsScaled}
use Rattle.numbers.specs.Rounding.{by_mode, claim}
use Rattle.numbers.specs.Answer.{given, rounded}
use Rattle.numbers.specs.declared.number.Number.{Number}
use Rattle.numbers.specs.declared.task.Mode.{Mode}
use Rattle.numbers.specs.declared.task.Mode.TheVariants.{Trunc, Away}
use Rattle.division.proofs.Laws.Range.{half, InRange, IsBounded, lowest_admissible}
use Rattle.steps.specs.Steps.{seed, refined}

-- The lowest biased exponent of the remainder after k digits: a digit drops 39 bits at least, and what is left of a
-- remainder may have its top bit 127 lower, so 88 lower each time.
abbrev pub lowest_after : ℕ → ℕ
lowest_after k = lowest_admissible - 88 * k

-- ---- steps 1 to 6

-- the reciprocal is v / 2^96 × 2^origin / 2^b, with v × D at most 2^96 and above 2^96 − 2^68
pub record IsReciprocal (s : Bool) (b D : ℕ) (r : Number) : Type 0 where
  pub whole : ℕ
  pub fit : is_working r ≡ true
  pub amount : IsScaled (value r) s whole origin (b + 96)
  pub under : whole * D ≤ half * half * half
  pub close : half * half * half < whole * D + 16 * (half * half)

-- t = y / 2^32, so far below 2 that c(t) is not negative
abbrev pub IsBelowTwo : Number → Type 0
IsBelowTwo t = (y : ℕ) × IsScaled (value t) false y 0 32 × (y + 2 ≤ 2 * 2 ^ 32)

pub record HasReciprocal (s : Bool) (b D : ℕ) (d : Number) : Type 0 where
  pub s0 : Number
  pub dr : Number
  pub t0 : Number
  pub s1 : Number
  pub t1 : Number
  pub s2 : Number
  pub step_1 : rounded (claim 8) (seed d) ≡ given s0
  pub step_2 : rounded (by_mode Away 32) (value d) ≡ given dr
  pub step_3 : rounded (by_mode Away 32) (product (value s0) (value dr)) ≡ given t0
  pub step_4 : rounded (by_mode Trunc 32) (refined (value s0) (value t0)) ≡ given s1
  pub step_5 : rounded (by_mode Away 32) (product (value s1) (value dr)) ≡ given t1
  pub step_6 : rounded (by_mode Trunc 32) (refined (value s1) (value t1)) ≡ given s2
  pub below_two_0 : IsBelowTwo t0
  pub below_two_1 : IsBelowTwo t1
  pub reciprocal : IsReciprocal s b D s2

-- ---- steps 7 and 8

-- D is h × 2^32 + l
pub record IsHalves (s : Bool) (b D : ℕ) (h l : Number) : Type 0 where
  pub high : ℕ
  pub low : ℕ
  pub whole : D ≡ high * half + low
  pub high_word : high < half
  pub low_word : low < half
  pub high_fit : is_working h ≡ true
  pub low_fit : is_working l ≡ true
  pub high_amount : IsScaled (value h) s high (b + 32) origin
  pub low_amount : IsScaled (value l) s low b origin

pub record HasHalves (s : Bool) (b D : ℕ) (d : Number) : Type 0 where
  pub h : Number
  pub l : Number
  pub step_7 : rounded (by_mode Trunc 32) (value d) ≡ given h
  pub step_8 : rounded (claim 32) (difference (value d) (value h)) ≡ given l
  pub halves : IsHalves s b D h l

-- a divisor with its halves and its reciprocal
pub record IsPrepared (s : Bool) (b D : ℕ) (d h l r : Number) : Type 0 where
  pub range : InRange lowest_admissible b D
  pub amount : IsScaled (value d) s D b origin
  pub halves : IsHalves s b D h l
  pub reciprocal : IsReciprocal s b D r

-- ---- a digit: the unit of its last bit is 2^g / 2^(b + 64)

-- |x| is below |d| times the unit
abbrev pub Under : ℕ → ℕ → Number → Type 0
Under D g x = Below (magnitude (value x)) (scaled false D g (origin + 64))

-- q is a whole number of units
pub record IsDigit (b g : ℕ) (q : Number) : Type 0 where
  pub sign : Bool
  pub whole : ℕ
  pub bits : whole ≤ 2 ^ 24
  pub fit : is_working q ≡ true
  pub amount : IsScaled (value q) sign whole g (b + 64)

-- the digit of the remainder x, on a grid finer than g
pub record HasDigit (mode : Mode) (b D g : ℕ) (d r x : Number) : Type 0 where
  pub upper : Number
  pub digit : Number
  pub unit : ℕ
  pub finer : unit + 23 ≤ g
  pub first_step : rounded (by_mode Trunc 32) (value x) ≡ given upper
  pub second_step : rounded (by_mode mode 24) (product (value upper) (value r)) ≡ given digit
  pub is_digit : IsDigit b unit digit
  -- a remainder that is not zero has a digit of 24 bits
  pub reaches : 0 < nat_abs (value x).numerator → AtMost (scaled false (2 ^ 23) unit (b + 64)) (magnitude (quotient (value x) (value d)))

-- the remainder after the digit q
pub record HasNext (b D g c : ℕ) (d h l x q : Number) : Type 0 where
  pub high : Number
  pub low : Number
  pub less : Number
  pub next : Number
  pub high_step : rounded (claim 64) (product (value q) (value h)) ≡ given high
  pub low_step : rounded (claim 64) (product (value q) (value l)) ≡ given low
  pub less_step : rounded (claim 64) (difference (value x) (value high)) ≡ given less
  pub next_step : rounded (claim 64) (difference (value less) (value low)) ≡ given next
  pub rest : Equal (value x) (sum (product (value q) (value d)) (value next))
  pub remainder : IsBounded c next
  pub under : Under D g next
  pub below_unit : Below (magnitude (quotient (value next) (value d))) (scaled false 1 g (b + 64))

-- the last digit q lies between zero and the exact x / d, and is zero only with it
pub record IsLast (d x q : Number) : Type 0 where
  pub sign : is_negative (value q).numerator ≡ is_negative (quotient (value x) (value d)).numerator
  pub short : AtMost (magnitude (value q)) (magnitude (quotient (value x) (value d)))
  pub zero_only : nat_abs (value q).numerator ≡ 0 → nat_abs (value x).numerator ≡ 0
