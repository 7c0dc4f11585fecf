-- Known reports, computed: what some inputs print, document 01's sample among them.
use mathlib.Core.List.{List, [], ◌∷◌, ◌++◌, map}
use mathlib.Core.Path.{◌≡◌, refl}
use Prim.Native.Nat.{ℕ}
use lib.Ieee.{size}
use lib.ListN.{take, set}
use Rattle.little_endian.specs.Bytes.{little_endian, bytes_of}
use Rattle.numbers.specs.Number.{is_significand, is_between, is_fit}
use Rattle.numbers.specs.Fraction.{signed, value, sum, divided_by, quotient, is_negative}
use Rattle.numbers.specs.Rounding.{settled, exponent_of, scaled_numerator, scaled_denominator, goes_up, whole_of, placed, rounded_at, round}
use Rattle.blocks.specs.Block.{field, block_number_of, count_of, edition_of, record_at, records_from, records_of, tail_of, are_zero, sum_of_words, check_of, has_check, most_records, is_count, closes, is_edition, is_laid_out, may_follow, remembered, is_larger_than_all, sixth_of, is_sound, is_lawful, are_lawful, row_of}
use Rattle.depot.specs.Figures.{is_moved, rate, more_if, with_rate, whole, mean_of, figures_by}
use Rattle.depot.specs.Depot.{with_record, with_records, with_block, is_negative_number, is_fit_sum, are_blocks_fit, is_fit_depot, load_row, left_by, load_of, figures_of}
use Rattle.depot.specs.Sequence.{record_bytes, records_bytes, body_of, block_of}
use Rattle.text.specs.Text.{ascii, decimal_by, decimal_of, sixteen_digits, integer_text, figure_text}
use Rattle.reporting.specs.Report.{line_of, report_text, refused_block_text, refused_close_text, closing_by, closing_text, after_block, report_from, pieces_by, pieces_of, report_of}
use Rattle.demand.proofs.Known.{in_edition0, full_block, sample_bytes}
use Rattle.demand.proofs.KnownEditions.{in_edition1, sample_in_edition1}

-- what some inputs print, and what is expected
unfoldable pub values : List (List ℕ × List ℕ)
values =
    -- the sample
    (report_of sample_bytes, ascii "moved 2\nparked 1\nover 1\nlow c000000000000000 -2\nhigh c000000000000000 -2\n")
    -- the same in edition 1
    ∷ (report_of (block_of 1 0 sample_in_edition1), ascii "moved 2\nparked 1\nover 1\nlow c000000000000000 -2\nhigh c000000000000000 -2\n")
    -- "no input at all is refused 17", and so is a depot whose only van is parked
    ∷ (report_of [], ascii "refused 17 close\n")
    ∷ (report_of (block_of 0 0 (in_edition0 5 9 9 40 0 ∷ [])), ascii "refused 17 close\n")
    -- a last piece that is short, at first and after a block that closed the depot
    ∷ (report_of (take 511 sample_bytes), ascii "refused 9 block 0\n")
    ∷ (report_of (sample_bytes ++ (0 ∷ [])), ascii "refused 9 block 1\n")
    -- a block after that one, whatever follows
    ∷ (report_of (sample_bytes ++ (sample_bytes ++ sample_bytes)), ascii "refused 13 block 1\n")
    -- another check, another number, and a van 0
    ∷ (report_of (set sample_bytes 511 254), ascii "refused 14 block 0\n")
    ∷ (report_of (block_of 0 1 (in_edition0 5 0 4 3 0 ∷ [])), ascii "refused 15 block 0\n")
    ∷ (report_of (block_of 0 0 (in_edition0 0 0 4 3 0 ∷ [])), ascii "refused 16 block 0\n")
    -- a full block, after which the depot is still open: its figures, 1/2
    ∷ (report_of full_block, ascii "moved 20\nparked 0\nover 20\nlow 8000000000000000 -1\nhigh 8000000000000000 -1\n")
    -- a block of edition 1 after one of edition 0
    ∷ (report_of (full_block ++ block_of 1 1 (in_edition1 21 0 1000 500 0 1000 ∷ [])), ascii "refused 21 block 1\n")
    -- no fuel
    ∷ (report_of (block_of 0 0 (in_edition0 5 0 4 0 90001 ∷ [])), ascii "moved 1\nparked 0\nover 1\nlow zero\nhigh zero\n")
    -- the text of row 16 at the last block, and of row 13 behind it
    ∷ (refused_block_text 16 204, ascii "refused 16 block 204\n")
    ∷ (refused_block_text 13 205, ascii "refused 13 block 205\n")
    ∷ []

pub known_reports : map (λ (v : List ℕ × List ℕ). v.0) values ≡ map (λ (v : List ℕ × List ℕ). v.1) values
unfolding values ascii little_endian is_significand is_between is_fit signed value sum divided_by quotient settled exponent_of scaled_numerator scaled_denominator goes_up whole_of placed rounded_at is_negative round field block_number_of count_of edition_of record_at records_from records_of tail_of are_zero sum_of_words check_of has_check most_records is_count closes is_edition is_laid_out may_follow remembered is_larger_than_all sixth_of is_sound is_lawful are_lawful row_of is_moved rate more_if with_rate whole mean_of figures_by with_record with_records with_block is_negative_number is_fit_sum are_blocks_fit is_fit_depot load_row left_by load_of figures_of decimal_by decimal_of sixteen_digits integer_text figure_text line_of report_text refused_block_text refused_close_text closing_by closing_text after_block report_from pieces_by pieces_of report_of bytes_of record_bytes records_bytes body_of block_of size
known_reports = refl
