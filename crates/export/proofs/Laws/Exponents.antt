-- Exponents as words of 32 bits: each way undoes the other. And kinds are small.
use mathlib.Core.Bool.{Bool, true, false}
use mathlib.Core.Path.{◌≡◌, refl, ap, ◌∙◌}
use Prim.Native.Nat.{ℕ, suc, ◌-◌, ◌^◌, ◌≤◌, ◌<◌}
use native.Mathlib.Decide.{dec_le}
use native.Mathlib.Nat.{lt_of_not-le}
use native.Mathlib.Omega.{arith}
use lib.Dec.{lit≤}
use lib.IntN.{ℤ, pos, negsuc}
use lib.Signed.{mag}
use mir.Syntax.{w32}
use mir.Val.{to_z, of_z}
use borrow.Author.Tests.{lt-ltb, le-ltb, lt-leb}
use Rattle.export.specs.Layout.{word_of, exponent_in, kind_of}

-- a word below 2^31 is the exponent, and from there on it is negative
pub exponent_low : (w : ℕ) → w < 2 ^ 31 → exponent_in w ≡ pos w
unfolding exponent_in
exponent_low w h = rw (lt-ltb w (2 ^ 31) h)

pub exponent_high : (w : ℕ) → 2 ^ 31 ≤ w → w < 2 ^ 32 → exponent_in w ≡ negsuc (2 ^ 32 - suc w)
unfolding exponent_in
exponent_high w h k = rw (le-ltb w (2 ^ 31) h, lt-leb (2 ^ 32) w k)

-- the word of an exponent of 32 bits, read
pub exponent_word : (e : ℤ) → mag e < 2 ^ 31 → exponent_in (word_of e) ≡ e
unfolding word_of
exponent_word (pos n) h = exponent_low n h
exponent_word (negsuc n) h = exponent_high (2 ^ 32 - suc n) (omega arith) (omega arith) ∙ ap negsuc (omega arith)

-- the exponent in a word, written
pub word_exponent : (w : ℕ) → w < 2 ^ 32 → word_of (exponent_in w) ≡ w
unfolding word_of
word_exponent w h = go (dec_le (2 ^ 31) w)
  where
    go : Dec (2 ^ 31 ≤ w) → word_of (exponent_in w) ≡ w
    go (yes k) = ap word_of (exponent_high w k h) ∙ omega arith
    go (no n) = ap word_of (exponent_low w (lt_of_not-le n))

-- a word has 32 bits
pub word_below : (e : ℤ) → mag e < 2 ^ 31 → word_of e < 2 ^ 32
unfolding word_of
word_below (pos n) h = omega arith
word_below (negsuc n) h = omega arith

-- the machine's casts between the two
pub cast_word : (e : ℤ) → of_z w32 e ≡ word_of e
unfolding word_of
cast_word (pos n) = refl
cast_word (negsuc n) = refl

pub cast_exponent : (w : ℕ) → w < 2 ^ 32 → to_z w32 w ≡ exponent_in w
cast_exponent w h = go (dec_le (2 ^ 31) w)
  where
    go : Dec (2 ^ 31 ≤ w) → to_z w32 w ≡ exponent_in w
    go (yes k) = rw (exponent_high w k h, le-ltb w (2 ^ 31) k)
    go (no n) = rw (exponent_low w (lt_of_not-le n), lt-ltb w (2 ^ 31) (lt_of_not-le n))

pub kind_most : (negative : Bool) → kind_of negative ≤ 2
kind_most true = lit≤ tt
kind_most false = lit≤ tt
