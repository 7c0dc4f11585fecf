-- Each finished text has room.
use mathlib.Core.List.{List, ◌++◌}
use mathlib.Core.Path.{◌≡◌, refl}
use Prim.Native.Nat.{ℕ, ◌+◌, ◌≤◌}
use native.Mathlib.Omega.{arith}
use lib.ListN.{length, length-append}
use Rattle.numbers.specs.declared.number.Number.{Number}
use Rattle.text.specs.Text.{ascii}
use Rattle.text.proofs.Laws.Lengths.{decimal_length, figure_length}
use Rattle.reporting.specs.Report.{line_of, report_text, refused_block_text, refused_close_text}

line_length : (name value : List ℕ) → length (line_of name value) ≡ length name + (length value + 1)
unfolding line_of ascii
line_length name value = rw (length-append name (value ++ (ascii "\n")), length-append value (ascii "\n")) refl

pub report_room : (moved parked over : ℕ) (low high : Number) → length (report_text moved parked over low high) ≤ 192
unfolding report_text ascii
report_room moved parked over low high =
    simp (length-append, line_length)
    (omega (arith, decimal_length moved, decimal_length parked, decimal_length over, figure_length low, figure_length high))

pub refused_block_room : (row position : ℕ) → length (refused_block_text row position) ≤ 192
unfolding refused_block_text ascii
refused_block_room row position = simp (length-append, line_length) (omega (arith, decimal_length row, decimal_length position))

pub refused_close_room : (row : ℕ) → length (refused_close_text row) ≤ 192
unfolding refused_close_text ascii
refused_close_room row = simp (length-append, line_length) (omega (arith, decimal_length row))
