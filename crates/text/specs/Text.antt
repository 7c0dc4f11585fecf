-- Document 01, "Known values": how counts and figures are printed, as lists of ASCII codes. A text is the struct `Text` of src/text.rt.
use Rattle.std.specs.Prelude.{cond, List, [], ◌∷◌, ◌++◌, ℕ, zero, suc, ◌+◌, ◌/◌, ◌%◌, ltb, ℤ, pos, negsuc, take}
use Prim.Native.Char.{code}
use Prim.Native.String.{String}
use Prim.Native.String as string
use Rattle.numbers.specs.declared.number.Number.{Number}
use Rattle.numbers.specs.declared.number.Number.TheVariants.{Zero, Finite}
use Rattle.io.specs.Digits.{hex_digit_ascii, last_digits}
use Rattle.text.specs.declared.text.Text.{Text}

-- what is written of a text: the bytes before its length
unfoldable pub text_of : Text → List ℕ
text_of t = take t.length t.bytes

-- the most bytes of a text; what has no room is cut
abbrev pub capacity : ℕ
capacity = 192

unfoldable pub cut : List ℕ → List ℕ
cut bytes = take capacity bytes

-- the codes of some ASCII characters
unfoldable pub ascii : String → List ℕ
ascii string.[] = []
ascii (string.◌∷◌ c text) = code c ∷ ascii text

-- "Counts in decimal": a whole number with no zeros in front, in at most `most` digits
unfoldable pub decimal_by : ℕ → ℕ → List ℕ
decimal_by zero n = []
decimal_by (suc most) n = cond (ltb n 10) (hex_digit_ascii n ∷ []) (decimal_by most (n / 10) ++ (hex_digit_ascii (n % 10) ∷ []))

-- twenty digits hold every 64-bit word
unfoldable pub decimal_of : ℕ → List ℕ
decimal_of n = decimal_by 20 n

-- "S in sixteen hexadecimal digits", in lower case
unfoldable pub sixteen_digits : ℕ → List ℕ
sixteen_digits n = last_digits 16 16 n

-- "e in decimal", with a minus before it where it is negative
unfoldable pub integer_text : ℤ → List ℕ
integer_text (pos n) = decimal_of n
integer_text (negsuc n) = ascii "-" ++ decimal_of (n + 1)

-- "S in sixteen hexadecimal digits, e in decimal; `low zero` or `high zero` for zero." A figure is never negative, and the lines of the document
-- show no sign.
unfoldable pub figure_text : Number → List ℕ
figure_text Zero = ascii "zero"
figure_text (Finite negative e S) = sixteen_digits S ++ (ascii " " ++ integer_text e)
