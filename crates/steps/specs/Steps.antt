-- Document 01, "The thirty-two steps": the seed, the complement, the lines, the value after each, and when a step fails its claim. "Where
-- source document 001 and this text differ on the complement or the seed table, this text decides."
use Rattle.std.specs.Prelude.{◌≡◌, Bool, true, false, not, ◌&&◌, ◌||◌, List, [], ◌∷◌, ◌++◌, map, ℕ, zero, suc, ◌*◌, ◌^◌, eqb, pos, nat_abs, get_or}
use Rattle.std.specs.Float.Ieee.{up, down}
use Rattle.numbers.specs.Fraction.{Fraction, signed, value, sum, difference, product}
use Rattle.numbers.specs.Answer.{Outcome, given, refused, rounded}
use Rattle.numbers.specs.Number.{is_working_exponent}
use Rattle.numbers.specs.Rounding.{exponent_of, round, has_at_most_bits, by_mode, claim}
use Rattle.numbers.specs.declared.number.Number.{Number}
use Rattle.numbers.specs.declared.number.Number.TheVariants.{Zero, Finite}
use Rattle.numbers.specs.declared.task.Mode.{Mode}
use Rattle.numbers.specs.declared.task.Mode.TheVariants.{Trunc, Away, Sticky}
use Rattle.numbers.specs.declared.task.Task.{Task}
use Rattle.numbers.specs.declared.task.Task.TheVariants.{Round, Exact}
use Rattle.division.specs.Seed.{entry_of, index_of}

-- "seed = sign × T(k) / 256 × 2^(−e)". Zero has none; it is refused before.
unfoldable pub seed : Number → Fraction
seed Zero = value Zero
seed (Finite negative e S) = record { numerator = signed negative (entry_of (index_of S) * down e); denominator = 256 * up e }

-- "c(t) = 2 − 2^−31 − t exactly". Source document 001 takes 2^−32 in place of 2^−31 where t is 1 or more; document 01 decides.
unfoldable pub complement : Fraction → Fraction
complement t = difference (difference (record { numerator = pos 2; denominator = 1 }) (record { numerator = pos 1; denominator = 2 ^ 31 })) t

-- s × c(t), where "only the product is rounded"
unfoldable pub refined : Fraction → Fraction → Fraction
refined s t = product s (complement t)

-- What a line takes: the dividend p, the divisor d, or the result of an earlier step.
pub data Term : Type 0 where
  dividend : Term
  divisor : Term
  step : ℕ → Term

-- The exact value of a line: a function of one term, or of the values of two.
pub data Expression : Type 0 where
  of : (Number → Fraction) → Term → Expression
  of_both : (Fraction → Fraction → Fraction) → Term → Term → Expression

-- "The task of a step is a rounding mode with a precision, or an exactness claim."
pub record Line : Type 0 where
  pub expression : Expression
  pub task : Task

abbrev pub by : Mode → ℕ → Expression → Line
by mode n expression = record { expression = expression; task = by_mode mode n }

abbrev pub exactly : ℕ → Expression → Line
exactly n expression = record { expression = expression; task = claim n }

abbrev pub by_task : Task → Expression → Line
by_task task expression = record { expression = expression; task = task }

-- The thirty-two lines, "Numbered as in source document 001, Figure 1."; that figure's names stand beside them. `task` is the caller's.
unfoldable pub lines : Task → List Line
lines task =
    -- "Step 1, seed (exact 8)"
    -- 1 sd0
    exactly 8 (of seed divisor)
    -- "Step 2: dr = d, away 32. Steps 3 to 6, twice: t = s × dr, away 32; then s × c(t), trunc 32, where c(t) = 2 − 2^−31 − t exactly and only the
    -- product is rounded."
    -- 2 dr
    ∷ by Away 32 (of value divisor)
    -- 3 sdd0
    ∷ by Away 32 (of_both product (step 1) (step 2))
    -- 4 sd1
    ∷ by Trunc 32 (of_both refined (step 1) (step 3))
    -- 5 sdd1
    ∷ by Away 32 (of_both product (step 4) (step 2))
    -- 6 sd2
    ∷ by Trunc 32 (of_both refined (step 4) (step 5))
    -- "Steps 7 and 8: dh = d, trunc 32; dl = d − dh, exact 32. Step 9: the first remainder is p, exact 64."
    -- 7 dh
    ∷ by Trunc 32 (of value divisor)
    -- 8 dl
    ∷ exactly 32 (of_both difference divisor (step 7))
    -- 9 p0
    ∷ exactly 64 (of value dividend)
    -- "Steps 10 to 29, four digits: the remainder, trunc 32, times the last s, away 24 (the fourth digit trunc 24). After each of the first three:
    -- digit × dh, digit × dl, then the remainder less the first product, then less the second, all exact 64."
    -- 10 ph0
    ∷ by Trunc 32 (of value (step 9))
    -- 11 q0
    ∷ by Away 24 (of_both product (step 10) (step 6))
    -- 12 qdh0
    ∷ exactly 64 (of_both product (step 11) (step 7))
    -- 13 qdl0
    ∷ exactly 64 (of_both product (step 11) (step 8))
    -- 14 pt1
    ∷ exactly 64 (of_both difference (step 9) (step 12))
    -- 15 p1
    ∷ exactly 64 (of_both difference (step 14) (step 13))
    -- 16 ph1
    ∷ by Trunc 32 (of value (step 15))
    -- 17 q1
    ∷ by Away 24 (of_both product (step 16) (step 6))
    -- 18 qdh1
    ∷ exactly 64 (of_both product (step 17) (step 7))
    -- 19 qdl1
    ∷ exactly 64 (of_both product (step 17) (step 8))
    -- 20 pt2
    ∷ exactly 64 (of_both difference (step 15) (step 18))
    -- 21 p2
    ∷ exactly 64 (of_both difference (step 20) (step 19))
    -- 22 ph2
    ∷ by Trunc 32 (of value (step 21))
    -- 23 q2
    ∷ by Away 24 (of_both product (step 22) (step 6))
    -- 24 qdh2
    ∷ exactly 64 (of_both product (step 23) (step 7))
    -- 25 qdl2
    ∷ exactly 64 (of_both product (step 23) (step 8))
    -- 26 pt3
    ∷ exactly 64 (of_both difference (step 21) (step 24))
    -- 27 p3
    ∷ exactly 64 (of_both difference (step 26) (step 25))
    -- 28 ph3
    ∷ by Trunc 32 (of value (step 27))
    -- 29 q3
    ∷ by Trunc 24 (of_both product (step 28) (step 6))
    -- "Steps 30 to 32: third digit plus fourth, sticky 64; plus second, sticky 64; plus first, by the caller's mode and precision."
    -- 30 qq2
    ∷ by Sticky 64 (of_both sum (step 23) (step 29))
    -- 31 qq1
    ∷ by Sticky 64 (of_both sum (step 30) (step 17))
    -- 32 divide
    ∷ by_task task (of_both sum (step 31) (step 11))
    ∷ []

-- A line's exact value after its task. Where the step fails its claim (`Fails`, below) its result is refused, 8 or 7, and so is that of a line that
-- takes it.
unfoldable pub line_of : Task → (Number → Fraction) → Outcome → Outcome
line_of task exact (given x) = rounded task (exact x)
line_of task exact (refused k) = refused k

unfoldable pub line_of_both : Task → (Fraction → Fraction → Fraction) → Outcome → Outcome → Outcome
line_of_both task exact (given x) (given y) = rounded task (exact (value x) (value y))
line_of_both task exact (given x) (refused k) = refused k
line_of_both task exact (refused k) y = refused k

-- the result of step k, counted from 1, among those of the steps so far
unfoldable pub result_at : List Outcome → ℕ → Outcome
result_at results zero = refused 6
result_at results (suc k) = get_or results k (refused 6)

-- what a term stands for
unfoldable pub term_of : Number → Number → List Outcome → Term → Outcome
term_of p d results dividend = given p
term_of p d results divisor = given d
term_of p d results (step k) = result_at results k

-- a line's result
unfoldable pub result_of : (Term → Outcome) → Expression → Task → Outcome
result_of outcome (of exact a) task = line_of task exact (outcome a)
result_of outcome (of_both exact a b) task = line_of_both task exact (outcome a) (outcome b)

-- the lines worked out one after the other
unfoldable pub worked_out : Number → Number → List Line → List Outcome → List Outcome
worked_out p d [] results = results
worked_out p d (line ∷ rest) results = worked_out p d rest (results ++ (result_of (term_of p d results) line.expression line.task ∷ []))

-- the value after step k
unfoldable pub after_step : Number → Number → Task → ℕ → Outcome
after_step p d task k = result_at (worked_out p d (lines task) []) k

-- When the exact value x fails its task: it "has more bits than its exactness claim allows, or its result (exact claim: its value) has no working
-- exponent. Zero never fails."
unfoldable pub is_outside : Number → Bool
is_outside Zero = false
is_outside (Finite negative e S) = not (is_working_exponent e)

unfoldable pub fails_task : Task → Fraction → Bool
fails_task (Round rounding) x = is_outside (round rounding.mode rounding.precision x)
fails_task (Exact claim) x =
    let a = nat_abs x.numerator in
    let b = x.denominator in
    not (eqb a 0) && (not (has_at_most_bits claim.precision a b) || not (is_working_exponent (exponent_of a b)))

-- Whether a line fails. One that takes a refused result has no exact value: it is an earlier step that fails.
unfoldable pub fails_of : Task → (Number → Fraction) → Outcome → Bool
fails_of task exact (given x) = fails_task task (exact x)
fails_of task exact (refused k) = false

unfoldable pub fails_of_both : Task → (Fraction → Fraction → Fraction) → Outcome → Outcome → Bool
fails_of_both task exact (given x) (given y) = fails_task task (exact (value x) (value y))
fails_of_both task exact (given x) (refused k) = false
fails_of_both task exact (refused k) y = false

unfoldable pub line_fails : (Term → Outcome) → Expression → Task → Bool
line_fails outcome (of exact a) task = fails_of task exact (outcome a)
line_fails outcome (of_both exact a b) task = fails_of_both task exact (outcome a) (outcome b)

-- "A step fails its claim when, worked out by this list on the same operands, its exact value" fails: step k
unfoldable pub Fails : Number → Number → Task → ℕ → Type 0
Fails p d task zero = ⊥
Fails p d task (suc k) =
    let outcome = term_of p d (worked_out p d (lines task) []) in
    get_or (map (λ (line : Line). line_fails outcome line.expression line.task) (lines task)) k false ≡ true
