-- Known values of blocks and depots, computed. Each line has what the definitions give and what document 01 says.
use mathlib.Core.Path.{◌≡◌, refl}
use mathlib.Core.Bool.{Bool, true, false}
use mathlib.Core.List.{List, [], ◌∷◌, ◌++◌, map}
use mathlib.Core.Option.{Option, none, some}
use Prim.Native.Nat.{ℕ, zero, suc, ◌+◌}
use lib.Ieee.{size, minus}
use lib.IntN.{ℤ, pos}
use lib.ListN.{length, take, drop, replicate}
use Rattle.little_endian.specs.Bytes.{little_endian, bytes_of}
use Rattle.numbers.specs.Number.{is_significand, is_between, is_fit}
use Rattle.numbers.specs.Fraction.{Fraction, signed, value, is_equal, sum, divided_by, quotient, is_negative}
use Rattle.numbers.specs.Rounding.{settled, exponent_of, scaled_numerator, scaled_denominator, goes_up, whole_of, placed, rounded_at, round}
use Rattle.numbers.specs.declared.number.Number.{Number}
use Rattle.numbers.specs.declared.number.Number.TheVariants.{Zero, Finite}
use Rattle.blocks.specs.Block.{field, block_number_of, count_of, edition_of, record_at, records_from, records_of, tail_of, are_zero, sum_of_words, check_of, has_check, most_records, is_count, closes, is_edition, is_laid_out, may_follow, remembered, is_larger_than_all, sixth_of, is_sound, is_lawful, are_lawful, row_of}
use Rattle.blocks.specs.declared.record.Record.{Record}
use Rattle.depot.specs.Figures.{is_moved, rate, more_if, with_rate, whole, mean_of, Figures, given, refused, figures_by}
use Rattle.depot.specs.Depot.{fresh, with_record, with_records, with_block, is_negative_number, is_fit_sum, are_blocks_fit, is_fit_depot, Loaded, load_row, left_by, load_of, figures_of}
use Rattle.depot.specs.Book.{vans_of, is_closed, book_edition, book_row, added_by, offered, count_by, rates_of, moved_count, exact_sum, exact_mean, total_from, total_of, vans_figures}
use Rattle.depot.specs.Calls.{Call, load, ask, depot_after, book_after, Reply, to_load, to_ask, replies_of, replies_by}
use Rattle.depot.specs.Sequence.{record_bytes, records_bytes, body_of, block_of}
use Rattle.depot.specs.declared.state.Depot.{Depot}
use Rattle.depot.proofs.Laws.Written.{block_bytes}

-- what a load answers and leaves, the row that it answers, the figures, the replies of a list of calls, bytes, a count, or a test
pub data Result : Type 0 where
  left : Loaded → Result
  row : Option ℕ → Result
  figures : Figures → Result
  replies : List Reply → Result
  bytes : List ℕ → Result
  count : ℕ → Result
  test : Bool → Result

-- ---- how a line is written

-- a record of edition 0 by its van, start, end, fuel and speed
abbrev pub in_edition0 : ℕ → ℕ → ℕ → ℕ → ℕ → Record
in_edition0 van start end fuel speed = record { van = van; start = start; end = end; fuel = fuel; speed = speed; sixth = 0 }

-- document 01's sample, and the block of its three vans
abbrev pub sample : List Record
sample = in_edition0 1 0 1000 500 90000 ∷ in_edition0 2 7 7 40 0 ∷ in_edition0 3 0 2000 500 90001 ∷ []

abbrev sample_block : List ℕ
sample_block = block_of 0 0 sample

-- n vans after the van v, each with 500 ml over a kilometre
abbrev alike : ℕ → ℕ → List Record
alike v zero = []
alike v (suc n) = in_edition0 (suc v) 5 1005 500 90001 ∷ alike (suc v) n

abbrev pub full_block : List ℕ
full_block = block_of 0 0 (alike 0 20)

-- the state after a block, and the row that a block is answered
abbrev pub with : Depot → List ℕ → Depot
with s block = (load_of s block).depot

abbrev pub answer : Depot → List ℕ → Result
answer s block = row (load_of s block).refusal

-- 0.375 and 0.75
abbrev pub three_eighths : Number
three_eighths = Finite false (minus 0 2) 0xC000000000000000

abbrev pub three_quarters : Number
three_quarters = Finite false (minus 0 1) 0xC000000000000000

abbrev ratio : ℕ → ℕ → Fraction
ratio a b = record { numerator = pos a; denominator = b }

-- a block with other bytes from `at` on, its check made again
abbrev changed : ℕ → List ℕ → List ℕ → List ℕ
changed at new block = let body = take at block ++ (new ++ drop (at + length new) (take 508 block)) in body ++ bytes_of 4 (check_of body)

-- the bytes of the sample, one by one and not made by `block_of`
abbrev pub sample_bytes : List ℕ
sample_bytes =
    (0 ∷ 0 ∷ 0 ∷ 0 ∷ 3 ∷ 0 ∷ 0 ∷ 0 ∷ [])
    ++ ((1 ∷ 0 ∷ 0 ∷ 0 ∷ 0 ∷ 0 ∷ 0 ∷ 0 ∷ 232 ∷ 3 ∷ 0 ∷ 0 ∷ 244 ∷ 1 ∷ 0 ∷ 0 ∷ 144 ∷ 95 ∷ 1 ∷ 0 ∷ 0 ∷ 0 ∷ 0 ∷ 0 ∷ [])
    ++ ((2 ∷ 0 ∷ 0 ∷ 0 ∷ 7 ∷ 0 ∷ 0 ∷ 0 ∷ 7 ∷ 0 ∷ 0 ∷ 0 ∷ 40 ∷ 0 ∷ 0 ∷ 0 ∷ 0 ∷ 0 ∷ 0 ∷ 0 ∷ 0 ∷ 0 ∷ 0 ∷ 0 ∷ [])
    ++ ((3 ∷ 0 ∷ 0 ∷ 0 ∷ 0 ∷ 0 ∷ 0 ∷ 0 ∷ 208 ∷ 7 ∷ 0 ∷ 0 ∷ 244 ∷ 1 ∷ 0 ∷ 0 ∷ 145 ∷ 95 ∷ 1 ∷ 0 ∷ 0 ∷ 0 ∷ 0 ∷ 0 ∷ [])
    ++ (replicate 428 0 ++ (255 ∷ 48 ∷ 253 ∷ 255 ∷ [])))))

-- a state with these blocks, closed or not, vans moved, parked and over, and sums
abbrev state : ℕ → Bool → ℕ → ℕ → ℕ → Number → Number → Depot
state blocks closed moved parked over low high =
    record { blocks = blocks; closed = closed; latest = 0; edition = 0; moved = moved; parked = parked; over = over; low = low; high = high }

-- 2^e, and its opposite
abbrev power : ℤ → Number
power e = Finite false e 0x8000000000000000

abbrev opposite : ℤ → Number
opposite e = Finite true e 0x8000000000000000

abbrev fits : Depot → Result
fits s = test (is_fit_depot s)

-- the calls: asked, loaded twice, asked
abbrev calls : List Call
calls = ask ∷ load sample_block (block_bytes 0 0 sample) ∷ load sample_block (block_bytes 0 0 sample) ∷ ask ∷ []

-- ---- the list

unfoldable pub values : List (Result × Result)
values =
    -- the sample: its bytes
    (bytes sample_block, bytes sample_bytes)
    -- loaded and asked: moved 2, parked 1, over 1, low and high 0.375
    ∷ (
      left (load_of fresh sample_bytes),
      left (record { refusal = none; depot = record { blocks = 1; closed = true; latest = 3; edition = 0; moved = 2; parked = 1; over = 1; low = three_quarters; high = three_quarters } }),
    )
    ∷ (figures (figures_of (with fresh sample_bytes)), figures (given three_eighths three_eighths))
    -- its exact mean is 3/8; a parked van counted as rate zero would make it 1/4
    ∷ (test (is_equal (exact_mean sample) (ratio 3 8)), test true)
    ∷ (test (is_equal (exact_mean sample) (ratio 1 4)), test false)
    -- by a list of calls, from the state and from the book
    ∷ (replies (replies_of fresh calls), replies (to_ask (refused 17) ∷ to_load none ∷ to_load (some 13) ∷ to_ask (given three_eighths three_eighths) ∷ []))
    ∷ (replies (replies_by [] calls), replies (to_ask (refused 17) ∷ to_load none ∷ to_load (some 13) ∷ to_ask (given three_eighths three_eighths) ∷ []))
    -- one van with 1 ml over 3 m: low is below a third, high above it; and one with no fuel
    ∷ (
      figures (figures_of (with fresh (block_of 0 0 (in_edition0 1 0 3 1 0 ∷ [])))),
      figures (given (Finite false (minus 0 2) 0xAAAAAAAAAAAAAAAA) (Finite false (minus 0 2) 0xAAAAAAAAAAAAAAAB)),
    )
    ∷ (figures (figures_of (with fresh (block_of 0 0 (in_edition0 1 0 3 0 0 ∷ [])))), figures (given Zero Zero))
    -- a parked van alone, over: counted, and no figures
    ∷ (count (with fresh (block_of 0 0 (in_edition0 1 5 5 9 90001 ∷ []))).parked, count 1)
    ∷ (count (with fresh (block_of 0 0 (in_edition0 1 5 5 9 90001 ∷ []))).over, count 1)
    ∷ (figures (figures_of (with fresh (block_of 0 0 (in_edition0 1 5 5 9 90001 ∷ [])))), figures (refused 17))
    -- a full block leaves the depot open, one of 19 closes it
    ∷ (test (with fresh full_block).closed, test false)
    ∷ (count (with fresh full_block).moved, count 20)
    ∷ (test (with fresh (block_of 0 0 (alike 0 19))).closed, test true)
    -- 9: one byte too few or too many, also where the depot is closed
    ∷ (answer fresh (take 511 sample_bytes), row (some 9))
    ∷ (answer (with fresh sample_bytes) (sample_bytes ++ (0 ∷ [])), row (some 9))
    -- 13: the depot is closed, whatever the block, also with a wrong check
    ∷ (answer (with fresh sample_bytes) (block_of 0 7 []), row (some 13))
    ∷ (answer (with fresh sample_bytes) (replicate 512 0), row (some 13))
    -- 14: a changed byte; the sum in place of its complement; in a block with a wrong number too
    ∷ (answer fresh (take 80 sample_bytes ++ (1 ∷ drop 81 sample_bytes)), row (some 14))
    ∷ (answer fresh (body_of 0 1 sample ++ bytes_of 4 (sum_of_words 127 (body_of 0 1 sample))), row (some 14))
    -- request E4: the largest sum, 127 × (2^32 − 1), and the least, with their checks; the check of the largest and one that is not
    ∷ (count (sum_of_words 127 (replicate 508 255)), count 545460846465)
    ∷ (count (check_of (replicate 508 255)), count 126)
    ∷ (count (sum_of_words 127 (replicate 508 0)), count 0)
    ∷ (count (check_of (replicate 508 0)), count 0xFFFFFFFF)
    ∷ (answer fresh (replicate 508 255 ++ (126 ∷ 0 ∷ 0 ∷ 0 ∷ [])), row (some 15))
    ∷ (answer fresh (replicate 512 255), row (some 14))
    -- 15: the number, also above 16 bits, the count 0, the count 21, an edition that is none by its low and by its high byte, the first and the last byte after
    -- the records
    ∷ (answer fresh (block_of 0 1 sample), row (some 15))
    ∷ (answer fresh (block_of 0 65536 sample), row (some 15))
    ∷ (answer fresh (block_of 0 0 []), row (some 15))
    ∷ (answer fresh (changed 4 (21 ∷ []) full_block), row (some 15))
    ∷ (answer fresh (changed 6 (2 ∷ []) sample_bytes), row (some 15))
    ∷ (answer fresh (changed 7 (1 ∷ []) sample_bytes), row (some 15))
    ∷ (answer fresh (changed 80 (1 ∷ []) sample_bytes), row (some 15))
    ∷ (answer fresh (changed 507 (1 ∷ []) sample_bytes), row (some 15))
    -- and before 16: a wrong number with van 0
    ∷ (answer fresh (block_of 0 1 (in_edition0 0 0 1 1 1 ∷ [])), row (some 15))
    -- block 204 takes 16 records and not 17
    ∷ (answer (state 204 false 4080 0 0 Zero Zero) (block_of 0 204 (alike 4080 16)), row none)
    ∷ (answer (state 204 false 4080 0 0 Zero Zero) (block_of 0 204 (alike 4080 17)), row (some 15))
    -- 16: van 0, a van twice, a van of an earlier block, a sixth field, its last byte too, an end before its start
    ∷ (answer fresh (block_of 0 0 (in_edition0 0 0 1 1 1 ∷ [])), row (some 16))
    ∷ (answer fresh (block_of 0 0 (in_edition0 5 0 1 1 1 ∷ in_edition0 5 0 1 1 1 ∷ [])), row (some 16))
    ∷ (answer (with fresh full_block) (block_of 0 1 (alike 19 1)), row (some 16))
    ∷ (answer fresh (changed 28 (1 ∷ []) sample_bytes), row (some 16))
    ∷ (answer fresh (changed 31 (1 ∷ []) sample_bytes), row (some 16))
    ∷ (answer fresh (block_of 0 0 (in_edition0 1 2 1 1 1 ∷ [])), row (some 16))
    -- zero in all four middle fields is lawful
    ∷ (answer fresh (block_of 0 0 (in_edition0 1 0 0 0 0 ∷ [])), row none)
    -- fit: each clause, on both sides
    ∷ (fits (state 0 false 4000 96 4096 Zero Zero), test true)
    ∷ (fits (state 0 false 4000 97 0 Zero Zero), test false)
    ∷ (fits (state 0 false 1 1 3 Zero Zero), test false)
    ∷ (fits (state 204 false 0 0 0 Zero Zero), test true)
    ∷ (fits (state 205 false 0 0 0 Zero Zero), test false)
    ∷ (fits (state 205 true 0 0 0 Zero Zero), test true)
    ∷ (fits (state 0 false 0 0 0 (power (minus 0 64)) (power (minus 64 0))), test true)
    ∷ (fits (state 0 false 0 0 0 (power (minus 0 65)) Zero), test false)
    ∷ (fits (state 0 false 0 0 0 Zero (power (minus 65 0))), test false)
    ∷ (fits (state 0 false 0 0 0 (opposite (minus 0 0)) Zero), test false)
    ∷ (fits (state 0 false 0 0 0 Zero (Finite false (minus 0 0) 0x7FFFFFFFFFFFFFFF)), test false)
    -- 3: an unfit state is told before a length and before 17
    ∷ (answer (state 205 false 0 0 0 Zero Zero) [], row (some 3))
    ∷ (figures (figures_of (state 205 false 0 0 0 Zero Zero)), figures (refused 3))
    ∷ []

pub known : map (λ (v : Result × Result). v.0) values ≡ map (λ (v : Result × Result). v.1) values
unfolding values little_endian bytes_of is_significand is_between is_fit signed value is_equal sum divided_by quotient settled exponent_of scaled_numerator scaled_denominator goes_up whole_of placed rounded_at is_negative round field block_number_of count_of edition_of record_at records_from records_of tail_of are_zero sum_of_words check_of has_check most_records is_count closes is_edition is_laid_out may_follow remembered is_larger_than_all sixth_of is_sound is_lawful are_lawful row_of is_moved rate with_rate whole mean_of more_if with_record with_records with_block is_negative_number is_fit_sum are_blocks_fit is_fit_depot load_row left_by load_of figures_by figures_of vans_of is_closed book_edition book_row added_by offered count_by rates_of moved_count exact_sum exact_mean total_from total_of vans_figures depot_after book_after replies_of replies_by record_bytes records_bytes body_of block_of size
known = refl
