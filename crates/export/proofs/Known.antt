-- The definitions of `export`, computed: the bytes of some numbers, and bytes that are no number.
use mathlib.Core.Bool.{true, false}
use mathlib.Core.List.{List, [], ◌∷◌, ◌++◌}
use Rattle.std.specs.Prelude.{Some, None}
use mathlib.Core.Path.{◌≡◌, refl}
use Prim.Native.Nat.{ℕ}
use lib.IntN.{pos, negsuc}
use lib.ListN.{replicate}
use Rattle.little_endian.specs.Bytes.{little_endian, bytes_of}
use Rattle.numbers.specs.declared.number.Number.TheVariants.{Zero, Finite}
use Rattle.export.specs.Layout.{word_of, exponent_in, layout_of, number_of, number_in}

-- sixteen bytes by their parts: the significand's top byte, the exponent's four, and the last four
abbrev parts : ℕ → List ℕ → List ℕ → List ℕ
parts top exponent kind = replicate 7 0 ++ (top ∷ (exponent ++ kind))

pub known :
    -- 1, −1, 1/2 and zero; 1/2 read
    (layout_of (Finite false (pos 0) 0x8000000000000000) ≡ parts 128 (0 ∷ 0 ∷ 0 ∷ 0 ∷ []) (1 ∷ 0 ∷ 0 ∷ 0 ∷ []))
    × (layout_of (Finite true (pos 0) 0x8000000000000000) ≡ parts 128 (0 ∷ 0 ∷ 0 ∷ 0 ∷ []) (2 ∷ 0 ∷ 0 ∷ 0 ∷ []))
    × (layout_of (Finite false (negsuc 0) 0x8000000000000000) ≡ parts 128 (255 ∷ 255 ∷ 255 ∷ 255 ∷ []) (1 ∷ 0 ∷ 0 ∷ 0 ∷ []))
    × (layout_of Zero ≡ replicate 16 0)
    × (number_in (parts 128 (255 ∷ 255 ∷ 255 ∷ 255 ∷ []) (1 ∷ 0 ∷ 0 ∷ 0 ∷ [])) ≡ Some (Finite false (negsuc 0) 0x8000000000000000))
    -- a kind of 3, a byte behind the kind, and a zero with a significand are no numbers
    × (number_in (parts 128 (0 ∷ 0 ∷ 0 ∷ 0 ∷ []) (3 ∷ 0 ∷ 0 ∷ 0 ∷ [])) ≡ None)
    × (number_in (parts 128 (0 ∷ 0 ∷ 0 ∷ 0 ∷ []) (1 ∷ 1 ∷ 0 ∷ 0 ∷ [])) ≡ None)
    × (number_in (parts 128 (0 ∷ 0 ∷ 0 ∷ 0 ∷ []) (0 ∷ 0 ∷ 0 ∷ 0 ∷ [])) ≡ None)
unfolding layout_of bytes_of word_of number_in number_of exponent_in little_endian
known = (refl, refl, refl, refl, refl, refl, refl, refl)
