-- Document 01, "Known values": what the report program prints, as lists of ASCII codes: the lines, and which of them an input gives.
use Rattle.std.specs.Prelude.{List, [], ◌∷◌, ◌++◌, ℕ, zero, suc, length, take, drop}
use Rattle.std.proofs.Math.Option.{Option, none, some}
use Rattle.numbers.specs.declared.number.Number.{Number}
use Rattle.depot.specs.Figures.{Figures, given, refused}
use Rattle.depot.specs.Depot.{fresh, load_of, figures_of}
use Rattle.depot.specs.declared.state.Depot.{Depot}
use Rattle.text.specs.Text.{ascii, decimal_of, figure_text}

-- ---- the lines

-- a line: a name with the space behind it, a value and the newline
unfoldable pub line_of : List ℕ → List ℕ → List ℕ
line_of name value = name ++ (value ++ ascii "\n")

-- "it prints all of: moved .. parked .. over .. low .. high .." "Counts in decimal; S in sixteen hexadecimal digits, e in decimal"
unfoldable pub report_text : ℕ → ℕ → ℕ → Number → Number → List ℕ
report_text moved parked over low high =
    line_of (ascii "moved ") (decimal_of moved)
    ++ (line_of (ascii "parked ") (decimal_of parked)
    ++ (line_of (ascii "over ") (decimal_of over)
    ++ (line_of (ascii "low ") (figure_text low)
    ++ line_of (ascii "high ") (figure_text high))))

-- "only `refused K block B` is printed, B being its position in the input from 0, decimal"
unfoldable pub refused_block_text : ℕ → ℕ → List ℕ
refused_block_text row position = line_of (ascii "refused ") (decimal_of row ++ (ascii " block " ++ decimal_of position))

-- "At the end a refusal prints only `refused 17 close`." The row is the one that refuses figures.
unfoldable pub refused_close_text : ℕ → List ℕ
refused_close_text row = line_of (ascii "refused ") (decimal_of row ++ ascii " close")

-- what is printed at the end of the input, by what asking for figures answers
unfoldable pub closing_by : Depot → Figures → List ℕ
closing_by s (given low high) = report_text s.moved s.parked s.over low high
closing_by s (refused row) = refused_close_text row

unfoldable pub closing_text : Depot → List ℕ
closing_text s = closing_by s (figures_of s)

-- ---- the run

-- An input in its pieces: each has 512 bytes but the last, which may have fewer, and none is empty. `most` only bounds the recursion; as many as the input has
-- bytes is enough.
unfoldable pub pieces_by : ℕ → List ℕ → List (List ℕ)
pieces_by zero input = []
pieces_by (suc most) [] = []
pieces_by (suc most) (byte ∷ input) = take 512 (byte ∷ input) ∷ pieces_by most (drop 512 (byte ∷ input))

unfoldable pub pieces_of : List ℕ → List (List ℕ)
pieces_of input = pieces_by (length input) input

-- "The first refused block ends the run": its row is printed, or else what the rest of the input gives
unfoldable pub after_block : Option ℕ → ℕ → List ℕ → List ℕ
after_block none position rest = rest
after_block (some row) position rest = refused_block_text row position

-- What the pieces of an input print, from a state and the position of the first of them. "A last piece under 512 bytes is refused 9": each piece is offered
-- to the depot as a block.
unfoldable pub report_from : Depot → ℕ → List (List ℕ) → List ℕ
report_from s position [] = closing_text s
report_from s position (piece ∷ pieces) = after_block (load_of s piece).refusal position (report_from (load_of s piece).depot (suc position) pieces)

-- what an input prints
unfoldable pub report_of : List ℕ → List ℕ
report_of input = report_from fresh 0 (pieces_of input)
