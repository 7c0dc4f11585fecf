-- The definitions of `text`, computed: the counts and the figures that document 01's report shows, and the ends of the numbers.
use mathlib.Core.Bool.{false}
use mathlib.Core.List.{List, [], ◌∷◌, map}
use mathlib.Core.Path.{◌≡◌, refl}
use Prim.Native.Nat.{ℕ}
use lib.IntN.{pos, negsuc}
use Rattle.numbers.specs.declared.number.Number.TheVariants.{Zero, Finite}
use Rattle.text.specs.Text.{ascii, decimal_by, decimal_of, sixteen_digits, integer_text, figure_text}

-- what is printed, and what is expected
unfoldable pub values : List (List ℕ × List ℕ)
values =
    (decimal_of 0, ascii "0")
    ∷ (decimal_of 2, ascii "2")
    ∷ (decimal_of 90001, ascii "90001")
    ∷ (decimal_of 0xffffffffffffffff, ascii "18446744073709551615")
    ∷ (integer_text (negsuc 1), ascii "-2")
    ∷ (integer_text (pos 64), ascii "64")
    ∷ (figure_text (Finite false (negsuc 1) 0xc000000000000000), ascii "c000000000000000 -2")
    ∷ (figure_text Zero, ascii "zero")
    ∷ []

pub known_texts : map (λ (v : List ℕ × List ℕ). v.0) values ≡ map (λ (v : List ℕ × List ℕ). v.1) values
unfolding values ascii decimal_by decimal_of sixteen_digits integer_text figure_text
known_texts = refl
