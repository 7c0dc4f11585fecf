-- Document 01, "Rounding to n bits, n from 1 to 64". In the formulas 2^e is the fraction up e / down e of Float.Ieee of std; these are not the modes Up and Down.
use Rattle.std.specs.Prelude.{◌≡◌, ◌<◌, Result, MatchResult, Bool, false, not, ◌&&◌, ◌||◌, cond, ℕ, ◌+◌, ◌-◌, ◌*◌, ◌/◌, ◌%◌, ◌^◌, leb, ltb, eqb, ℤ, nat_abs}
use Rattle.std.specs.Float.Ieee.{size, up, down, minus}
use Rattle.std.proofs.Math.IntN.{suc_ℤ, pred_ℤ}
use Rattle.refusals.specs.declared.Refusal.{Refusal}
use Rattle.refusals.specs.declared.Refusal.TheVariants.{UnknownMode}
use Rattle.numbers.specs.Fraction.{Fraction, is_negative}
use Rattle.numbers.specs.declared.number.Number.{Number}
use Rattle.numbers.specs.declared.number.Number.TheVariants.{Zero, Finite}
use Rattle.numbers.specs.declared.task.Mode.{Mode}
use Rattle.numbers.specs.declared.task.Mode.TheVariants.{Trunc, Away, Near, Sticky, Up, Down}
use Rattle.numbers.specs.declared.task.Task.{Task}
use Rattle.numbers.specs.declared.task.Task.TheVariants.{Round, Exact}

-- The exponent of a / b, for a and b above 0: the e with 2^e ≤ a / b < 2^(e + 1). The counts of binary digits (`size`) give it, or one too many.
unfoldable pub settled : ℤ → ℕ → ℕ → ℤ
settled e a b = cond (leb (b * up e) (a * down e)) e (pred_ℤ e)

unfoldable pub exponent_of : ℕ → ℕ → ℤ
exponent_of a b = settled (minus (size a) (size b)) a b

-- "Scale the magnitude so that it lies in [2^(n−1), 2^n).": a / b × 2^(n − 1 − e), e being its exponent
unfoldable pub scaled_numerator : ℕ → ℤ → ℕ → ℕ
scaled_numerator n e a = a * 2 ^ (n - 1) * down e

unfoldable pub scaled_denominator : ℤ → ℕ → ℕ
scaled_denominator e b = b * up e

-- Does the whole number q, from which the fraction r / b was dropped, go up by one?
-- "0 trunc: drop the fraction. 1 away: go up if there is a fraction."
-- "2 near: nearest whole number, an exact half to the even one."
-- "3 sticky: drop the fraction; if there was one, make the whole number odd."
-- "4 up: toward plus infinity. 5 down: toward minus infinity. Both look at the sign."
unfoldable pub goes_up : Mode → Bool → ℕ → ℕ → ℕ → Bool
goes_up Trunc negative q r b = false
goes_up Away negative q r b = ltb 0 r
goes_up Near negative q r b = ltb b (2 * r) || (eqb (2 * r) b && eqb (q % 2) 1)
goes_up Sticky negative q r b = ltb 0 r && eqb (q % 2) 0
goes_up Up negative q r b = ltb 0 r && not negative
goes_up Down negative q r b = ltb 0 r && negative

-- a / b made a whole number
unfoldable pub whole_of : Mode → Bool → ℕ → ℕ → ℕ
whole_of mode negative a b = a / b + cond (goes_up mode negative (a / b) (a % b) b) 1 0

-- the number q × 2^(e − n + 1), for a whole number q of n bits. "A carry to 2^n raises the exponent."
unfoldable pub placed : Bool → ℤ → ℕ → ℕ → Number
placed negative e n q = cond (eqb q (2 ^ n)) (Finite negative (suc_ℤ e) (2 ^ 63)) (Finite negative e (q * 2 ^ (64 - n)))

-- the magnitude a / b, whose exponent is e, with its sign
unfoldable pub rounded_at : ℤ → Mode → ℕ → Bool → ℕ → ℕ → Number
rounded_at e mode n negative a b = placed negative e n (whole_of mode negative (scaled_numerator n e a) (scaled_denominator e b))

-- x rounded to n bits. "Zero rounds to zero."
unfoldable pub round : Mode → ℕ → Fraction → Number
round mode n x =
    let a = nat_abs x.numerator in
    let b = x.denominator in
    cond (eqb a 0) Zero (rounded_at (exponent_of a b) mode n (is_negative x.numerator) a b)

-- "6 exact claim: no rounding; the value must have at most n significant bits." a / b has, where scaled it is a whole number.
unfoldable pub has_at_most_bits : ℕ → ℕ → ℕ → Bool
has_at_most_bits n a b = let e = exponent_of a b in eqb (scaled_numerator n e a % scaled_denominator e b) 0

-- the codes of the modes, "0 trunc .. 5 down", and the mode with a code, or the refusal of a code that no mode has
abbrev pub code_of : Mode → ℕ
code_of Trunc = 0
code_of Away = 1
code_of Near = 2
code_of Sticky = 3
code_of Up = 4
code_of Down = 5

abbrev pub IsModeOf : ℕ → Result Mode Refusal → Type 0
IsModeOf code r = MatchResult r (λ mode. code_of mode ≡ code) (λ refusal. (refusal ≡ UnknownMode) × (5 < code))

-- "The task of a step is a rounding mode with a precision, or an exactness claim." By the mode codes 0 to 6; a code above 6 is refused before.
abbrev pub by_mode : Mode → ℕ → Task
by_mode mode n = Round (record { mode = mode; precision = n })

abbrev pub claim : ℕ → Task
claim n = Exact (record { precision = n })

unfoldable pub task_of : ℕ → ℕ → Task
task_of code n =
    cond (eqb code 0) (by_mode Trunc n)
    (cond (eqb code 1) (by_mode Away n)
    (cond (eqb code 2) (by_mode Near n)
    (cond (eqb code 3) (by_mode Sticky n)
    (cond (eqb code 4) (by_mode Up n)
    (cond (eqb code 5) (by_mode Down n)
    (claim n))))))

-- the n of a task, and "n from 1 to 64"
abbrev pub precision_of : Task → ℕ
precision_of (Round rounding) = rounding.precision
precision_of (Exact claim) = claim.precision

unfoldable pub is_precision : ℕ → Bool
is_precision n = leb 1 n && leb n 64
