-- Known values of editions, computed. Each line has what the definitions give and what request E3 says.
use mathlib.Core.Path.{◌≡◌, refl}
use mathlib.Core.Bool.{true, false}
use mathlib.Core.List.{List, [], ◌∷◌, map}
use mathlib.Core.Option.{none, some}
use Prim.Native.Nat.{ℕ, zero, suc}
use lib.Ieee.{size}
use Rattle.little_endian.specs.Bytes.{little_endian, bytes_of}
use Rattle.numbers.specs.Number.{is_significand, is_between, is_fit}
use Rattle.numbers.specs.Fraction.{signed, value, sum, divided_by, quotient, is_negative}
use Rattle.numbers.specs.Rounding.{settled, exponent_of, scaled_numerator, scaled_denominator, goes_up, whole_of, placed, rounded_at, round}
use Rattle.numbers.specs.declared.number.Number.TheVariants.{Zero}
use Rattle.blocks.specs.Block.{field, block_number_of, count_of, edition_of, record_at, records_from, records_of, tail_of, are_zero, sum_of_words, check_of, has_check, most_records, is_count, closes, is_edition, is_laid_out, may_follow, remembered, is_larger_than_all, sixth_of, is_sound, is_lawful, are_lawful, row_of}
use Rattle.blocks.specs.declared.record.Record.{Record}
use Rattle.depot.specs.Figures.{is_moved, rate, more_if, with_rate, whole, mean_of, given, figures_by}
use Rattle.depot.specs.Depot.{fresh, with_record, with_records, with_block, is_negative_number, is_fit_sum, are_blocks_fit, is_fit_depot, load_row, left_by, load_of, figures_of}
use Rattle.depot.specs.Book.{vans_of, is_closed, book_edition, book_row}
use Rattle.depot.specs.Sequence.{record_bytes, records_bytes, body_of, block_of}
use Rattle.depot.specs.declared.state.Depot.{Depot}
use Rattle.demand.proofs.Known.{Result, left, row, figures, test, in_edition0, sample, full_block, with, answer, three_eighths, three_quarters}

-- a record of edition 1 by its van, start, end, fuel, speed and distance
abbrev pub in_edition1 : ℕ → ℕ → ℕ → ℕ → ℕ → ℕ → Record
in_edition1 van start end fuel speed distance = record { van = van; start = start; end = end; fuel = fuel; speed = speed; sixth = distance }

-- document 01's sample in edition 1
abbrev pub sample_in_edition1 : List Record
sample_in_edition1 = in_edition1 1 0 1000 500 90000 1000 ∷ in_edition1 2 7 7 40 0 0 ∷ in_edition1 3 0 2000 500 90001 2000 ∷ []

-- n vans of edition 1 after the van v, as `alike` has them of edition 0, and a full block of them
abbrev alike_of1 : ℕ → ℕ → List Record
alike_of1 v zero = []
alike_of1 v (suc n) = in_edition1 (suc v) 5 1005 500 90001 1000 ∷ alike_of1 (suc v) n

abbrev full_block_of1 : List ℕ
full_block_of1 = block_of 1 0 (alike_of1 0 20)

-- an open depot that has taken so many blocks, with van 20 last, and remembers an edition
abbrev taken : ℕ → ℕ → Depot
taken blocks edition = record { blocks = blocks; closed = false; latest = 20; edition = edition; moved = 20; parked = 0; over = 20; low = Zero; high = Zero }

-- the next van, in edition 0 and in edition 1
abbrev van_of0 : Record
van_of0 = in_edition0 21 0 1000 500 0

abbrev van_of1 : Record
van_of1 = in_edition1 21 0 1000 500 0 1000

unfoldable pub values : List (Result × Result)
values =
    -- the sample in edition 1: the same counts and figures; and the records of each edition in the other
    (
      left (load_of fresh (block_of 1 0 sample_in_edition1)),
      left (record { refusal = none; depot = record { blocks = 1; closed = true; latest = 3; edition = 1; moved = 2; parked = 1; over = 1; low = three_quarters; high = three_quarters } }),
    )
    ∷ (figures (figures_of (with fresh (block_of 1 0 sample_in_edition1))), figures (given three_eighths three_eighths))
    ∷ (answer fresh (block_of 1 0 sample), row (some 16))
    ∷ (answer fresh (block_of 0 0 sample_in_edition1), row (some 16))
    -- a parked van's record is lawful in both editions, and there is no edition 2
    ∷ (answer fresh (block_of 0 0 (in_edition0 1 5 5 9 0 ∷ [])), row none)
    ∷ (answer fresh (block_of 1 0 (in_edition0 1 5 5 9 0 ∷ [])), row none)
    ∷ (answer fresh (block_of 2 0 (in_edition0 1 5 5 9 0 ∷ [])), row (some 15))
    -- bytes 6 and 7 are the edition, so 256 and 257 are none
    ∷ (answer fresh (block_of 256 0 (in_edition0 1 5 5 9 0 ∷ [])), row (some 15))
    ∷ (answer fresh (block_of 257 0 (in_edition0 1 5 5 9 0 ∷ [])), row (some 15))
    -- 21: another edition than the first block's, before 16 and after 15
    ∷ (answer (taken 1 0) (block_of 0 1 (van_of0 ∷ [])), row none)
    ∷ (answer (taken 1 1) (block_of 1 1 (van_of1 ∷ [])), row none)
    ∷ (answer (taken 1 0) (block_of 1 1 (van_of1 ∷ [])), row (some 21))
    ∷ (answer (taken 1 1) (block_of 0 1 (van_of0 ∷ [])), row (some 21))
    ∷ (answer (taken 1 0) (block_of 1 1 (van_of0 ∷ [])), row (some 21))
    ∷ (answer (taken 1 0) (block_of 2 1 (van_of0 ∷ [])), row (some 15))
    -- by the book: each edition after each, and before the first block either
    ∷ (row (book_row (full_block ∷ []) (block_of 0 1 (van_of0 ∷ []))), row none)
    ∷ (row (book_row (full_block ∷ []) (block_of 1 1 (van_of1 ∷ []))), row (some 21))
    ∷ (row (book_row (full_block_of1 ∷ []) (block_of 1 1 (van_of1 ∷ []))), row none)
    ∷ (row (book_row (full_block_of1 ∷ []) (block_of 0 1 (van_of0 ∷ []))), row (some 21))
    ∷ (row (book_row [] (block_of 0 0 sample)), row none)
    ∷ (row (book_row [] (block_of 1 0 sample_in_edition1)), row none)
    -- a refused block is not remembered: the state is as before, and the sample is taken in edition 0 after it
    ∷ (left (load_of fresh (block_of 1 0 sample)), left (record { refusal = some 16; depot = fresh }))
    ∷ (left (load_of (taken 1 0) (block_of 1 1 (van_of1 ∷ []))), left (record { refusal = some 21; depot = taken 1 0 }))
    ∷ (answer (with fresh (block_of 1 0 sample)) (block_of 0 0 sample), row none)
    -- a state that remembers an edition that is none is fit, and refuses both; before the first block it takes both
    ∷ (test (is_fit_depot (taken 1 7)), test true)
    ∷ (answer (taken 1 7) (block_of 0 1 (van_of0 ∷ [])), row (some 21))
    ∷ (answer (taken 1 7) (block_of 1 1 (van_of1 ∷ [])), row (some 21))
    ∷ (answer (taken 0 7) (block_of 0 0 (van_of0 ∷ [])), row none)
    ∷ (answer (taken 0 7) (block_of 1 0 (van_of1 ∷ [])), row none)
    ∷ []

pub known_editions : map (λ (v : Result × Result). v.0) values ≡ map (λ (v : Result × Result). v.1) values
unfolding values little_endian bytes_of is_significand is_between is_fit signed value sum divided_by quotient settled exponent_of scaled_numerator scaled_denominator goes_up whole_of placed rounded_at is_negative round field block_number_of count_of edition_of record_at records_from records_of tail_of are_zero sum_of_words check_of has_check most_records is_count closes is_edition is_laid_out may_follow remembered is_larger_than_all sixth_of is_sound is_lawful are_lawful row_of is_moved rate with_rate whole mean_of more_if with_record with_records with_block is_negative_number is_fit_sum are_blocks_fit is_fit_depot load_row left_by load_of figures_by figures_of vans_of is_closed book_edition book_row record_bytes records_bytes body_of block_of size
known_editions = refl
