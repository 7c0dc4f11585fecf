-- `export::layout::words_of` meets its contract: the kind stands above the exponent in the upper word.
use borrow.Author.Rules.{rules}
use mathlib.Core.Path.{◌≡◌, ◌∙◌}
use mathlib.Core.Bool.{Bool}
use mathlib.Core.List.{◌++◌}
use Prim.Native.Nat.{ℕ, ◌+◌, ◌*◌, ◌^◌}
use native.Mathlib.Omega.{arith}
use lib.IntN.{ℤ}
use mir.Facts.{to_z-of_z}
use mir.Syntax.{w32}
use mir.Val.{SFits, to_z, of_z}
use Rattle.little_endian.specs.Bytes.{bytes_of}
use Rattle.numbers.specs.declared.number.Number.{Number}
use Rattle.numbers.specs.declared.number.Number.TheVariants.{Finite}
use Rattle.export.specs.Layout.{word_of, kind_of, layout_of}
use Rattle.export.proofs.Laws.Exponents.{cast_word, word_below, kind_most}
use Rattle.export.proofs.Laws.Words.{upper_bytes}
use Rattle.export.proofs.layout.words_of.Goals as goal

finite_words : (x : Number) (negative : Bool) (e : ℤ) (S kind w : ℕ) → x ≡ Finite negative e S → SFits w32 e → kind ≡ kind_of negative → w ≡ word_of (to_z w32 (of_z w32 e))
    → bytes_of 8 S ++ bytes_of 8 (kind * 2 ^ 32 + w) ≡ layout_of x
unfolding layout_of
finite_words x negative e S kind w is fits ek ew =
    rw (is, ek, ew, to_z-of_z fits, upper_bytes (word_of e) (kind_of negative) (word_below e fits.sfits) (omega (arith, kind_most negative)))

pub overflow_mul-result : goal.overflow_mul-result
unfolding layout_of bytes_of
overflow_mul-result c = omega (arith, c.kind_of.ensures, kind_most c.in-Finite.negative)

pub overflow_add-result : goal.overflow_add-result
unfolding layout_of bytes_of
overflow_add-result c = omega (arith, c.kind_of.ensures, kind_most c.in-Finite.negative)

pub returns-in-Zero : goal.returns-in-Zero
unfolding layout_of bytes_of
returns-in-Zero c = rw c.in-Zero.is

pub returns-in-Finite : goal.returns-in-Finite
returns-in-Finite c =
    let fits : SFits w32 c.in-Finite.exponent = search rules in
    finite_words _ _ _ _ _ _ c.in-Finite.is fits c.kind_of.ensures (c.from.ensures ∙ c.cast_unsigned.ensures ∙ cast_word _)
