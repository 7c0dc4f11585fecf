-- A sum of aligned magnitudes: the larger one stands on the grid 2^x, the smaller one in a cell of it, and so does their sum or difference, which
-- is rounded and marked as what stands for its cell.
use Rattle.std.proofs.Common.{◌≡◌, ℕ, ◌+◌, ◌-◌, ◌*◌, ◌^◌, ◌≤◌, Bool, true, false, sym, ap, ◌∙◌, mul_assoc, mul_comm, mul-one, arith, lit<, pow_pos}
use Rattle.numbers.specs.Biased.{bias}
use Rattle.numbers.specs.Rounding.{precision_of}
use Rattle.numbers.specs.Fraction.{signed, scaled}
use Rattle.numbers.specs.Accuracy.{marked_by}
use Rattle.numbers.specs.Grid.{InCell, bit_of}
use Rattle.numbers.specs.Cell.{end_of}
use Rattle.numbers.specs.declared.task.Task.{Task}
use Rattle.numbers.proofs.Laws.Pairs.{fraction}
use Rattle.numbers.proofs.Laws.Cell.{cell_ratio}
use Rattle.numbers.proofs.Laws.EveryValue.{grid_rounds}
use Rattle.numbers.proofs.Laws.Signs.{abs_signed}
use Rattle.numbers.proofs.Laws.Powers.{power_sum}
use Rattle.arithmetic.specs.Private.{last_bit}

-- a sum in its cell, whether or not there is a rest
pub cell_rounds : (task : Task) (s : Bool) (p F x : ℕ) (rest : Bool) → 1 ≤ precision_of task → precision_of task ≤ 64 → (rest ≡ true → 2 * 2 ^ precision_of task ≤ F) → InCell rest p F (2 ^ x)
    → marked_by task (fraction (signed s p) (2 ^ last_bit)) ≡ marked_by task (scaled s (end_of F rest) x last_bit)
cell_rounds task s p F x rest n0 n1 fine h =
    grid_rounds task s (fraction (signed s p) (2 ^ last_bit)) F x last_bit (pow_pos last_bit) (ap (signed s) (sym (abs_signed s p))) n0 n1 rest fine
    (rw (abs_signed s p) (cell_ratio rest p F (2 ^ x) (p * 2 ^ last_bit) (2 ^ last_bit * 2 ^ x) (2 ^ last_bit) 1 (pow_pos last_bit) (lit< tt) (sym (mul-one (p * 2 ^ last_bit))) (mul_comm (2 ^ x) (2 ^ last_bit) ∙ sym (mul-one (2 ^ last_bit * 2 ^ x))) h))

-- ---- alignment: l on the grid g, and b in the cell Y of it

pub cell_added : (rest : Bool) (l b Y g : ℕ) → InCell rest b Y g → InCell rest (l * g + b) (l + Y) g
cell_added false l b Y g h = omega arith
cell_added true l b Y g h = (omega (arith, h.0), omega (arith, h.1))

pub cell_subtracted : (rest : Bool) (l b Y g m : ℕ) → b ≤ l * g → m + bit_of rest + Y ≡ l → InCell rest b Y g → InCell rest (l * g - b) m g
cell_subtracted false l b Y g m k e h = omega (arith, ap (λ (n : ℕ). n * g) e)
cell_subtracted true l b Y g m k e h = (omega (arith, h.0, h.1, ap (λ (n : ℕ). n * g) e), omega (arith, h.0, h.1, ap (λ (n : ℕ). n * g) e))

-- S × 2^(e + 65,598), which is S × 2^63 on the grid 2^(e + 65,535)
pub raised_power : (S e : ℕ) → S * 2 ^ (e + 65598) ≡ S * 2 ^ 63 * 2 ^ (e + bias)
raised_power S e = ap (λ (n : ℕ). S * n) (power_sum (e + 65598) 63 (e + bias) (omega arith)) ∙ sym (mul_assoc S (2 ^ 63) (2 ^ (e + bias)))

-- a smaller operand, d exponents below, is in the cell of the larger one's grid that its shift by d gives
pub shifted_cell : (rest : Bool) (S e f Y : ℕ) → e ≤ f → InCell rest (S * 2 ^ 63) Y (2 ^ (f - e)) → InCell rest (S * 2 ^ (e + 65598)) Y (2 ^ (f + bias))
shifted_cell rest S e f Y l h =
    rw (raised_power S e, powers) (cell_ratio rest (S * 2 ^ 63) Y (2 ^ (f - e)) (S * 2 ^ 63 * 2 ^ (e + bias)) (2 ^ (f - e) * 2 ^ (e + bias)) (2 ^ (e + bias)) 1 (pow_pos (e + bias)) (lit< tt) (sym (mul-one (S * 2 ^ 63 * 2 ^ (e + bias)))) (sym (mul-one (2 ^ (f - e) * 2 ^ (e + bias)))) h)
  where
    powers : 2 ^ (f + bias) ≡ 2 ^ (f - e) * 2 ^ (e + bias)
    powers = power_sum (f + bias) (f - e) (e + bias) (omega arith)
