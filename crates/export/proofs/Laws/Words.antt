-- Sixteen bytes as two words of eight: read, written, and where the fields of a number stand in them.
use mathlib.Core.Path.{◌≡◌, sym, ap, ap₂, ◌∙◌}
use mathlib.Core.List.{List, [], ◌∷◌, ◌++◌}
use Prim.Native.Nat.{ℕ, suc, ◌+◌, ◌-◌, ◌*◌, ◌/◌, ◌%◌, ◌^◌, ◌<◌}
use native.Mathlib.Nat.{le_of_eq, div-div-eq-div-mul}
use native.Mathlib.Omega.{arith}
use lib.Dec.{lit≤}
use lib.ListN.{length, get_or, take, drop, length-append, drop_of_length-le}
use lib.Seq.{drop-cons, drop-drop}
use Rattle.little_endian.specs.Bytes.{little_endian, bytes_of, IsBytes}
use Rattle.little_endian.proofs.Laws.Bytes.{little_endian_below, little_endian_append, little_endian_bytes, bytes_little_endian, bytes_length, bytes_are, bytes_take, bytes_drop, joined_bytes, rest_all, first_length, rest_length, whole}

-- ---- a word in eight bytes

-- the first byte of those from index i on
first_byte : (bytes : List ℕ) (i : ℕ) → i < length bytes → little_endian (drop i bytes) ≡ get_or bytes i 0 + 256 * little_endian (drop (suc i) bytes)
unfolding little_endian
first_byte bytes i h = ap little_endian (drop-cons bytes i 0 h)

none_left : (bytes : List ℕ) (n : ℕ) → length bytes ≡ n → little_endian (drop n bytes) ≡ 0
unfolding little_endian
none_left bytes n h = ap little_endian (drop_of_length-le bytes (le_of_eq h))

-- eight bytes, each at its place
pub eight_read : (bytes : List ℕ) → length bytes ≡ 8
    → get_or bytes 0 0 + get_or bytes 1 0 * 0x100 + get_or bytes 2 0 * 0x10000 + get_or bytes 3 0 * 0x1000000 + get_or bytes 4 0 * 0x100000000
    + get_or bytes 5 0 * 0x10000000000 + get_or bytes 6 0 * 0x1000000000000 + get_or bytes 7 0 * 0x100000000000000 ≡ little_endian bytes
eight_read bytes h =
    omega (
      arith,
      first_byte bytes 0 (omega arith),
      first_byte bytes 1 (omega arith),
      first_byte bytes 2 (omega arith),
      first_byte bytes 3 (omega arith),
      first_byte bytes 4 (omega arith),
      first_byte bytes 5 (omega arith),
      first_byte bytes 6 (omega arith),
      first_byte bytes 7 (omega arith),
      none_left bytes 8 h,
    )

-- the eight bytes of a word
abbrev places : ℕ → List ℕ
places w =
    w % 256 ∷ w / 0x100 % 256 ∷ w / 0x10000 % 256 ∷ w / 0x1000000 % 256 ∷ w / 0x100000000 % 256 ∷ w / 0x10000000000 % 256
    ∷ w / 0x1000000000000 % 256 ∷ w / 0x100000000000000 % 256 ∷ []

pub eight_places : (w : ℕ) → bytes_of 8 w ≡ places w
unfolding bytes_of
eight_places w = simp div-div-eq-div-mul

-- ---- two words in sixteen bytes

-- the word of an exponent and above it the kind are their bytes, one after the other
pub upper_bytes : (w k : ℕ) → w < 2 ^ 32 → k < 2 ^ 32 → bytes_of 8 (k * 2 ^ 32 + w) ≡ bytes_of 4 w ++ bytes_of 4 k
upper_bytes w k hw hk =
    let count : length (bytes_of 4 w ++ bytes_of 4 k) ≡ 8 = length-append (bytes_of 4 w) (bytes_of 4 k) ∙ ap₂ ◌+◌ (bytes_length 4 w) (bytes_length 4 k) in
    let value : little_endian (bytes_of 4 w ++ bytes_of 4 k) ≡ k * 2 ^ 32 + w =
    little_endian_append (bytes_of 4 w) (bytes_of 4 k) ∙ rw (bytes_length 4 w, little_endian_bytes 4 w hw, little_endian_bytes 4 k hk) (omega arith) in
    ap₂ bytes_of (sym count) (sym value) ∙ bytes_little_endian (bytes_of 4 w ++ bytes_of 4 k) (joined_bytes (bytes_of 4 w) (bytes_of 4 k) (bytes_are 4 w) (bytes_are 4 k))

-- the fields in sixteen bytes
module _ (bytes : List ℕ) (are : IsBytes bytes) (count : length bytes ≡ 16) where
  upper_eight : length (drop 8 bytes) ≡ 8
  upper_eight = rest_length 8 16 (lit≤ tt) bytes count

  pub middle_four : length (take 4 (drop 8 bytes)) ≡ 4
  middle_four = first_length 4 8 (lit≤ tt) (drop 8 bytes) upper_eight

  pub middle_below : little_endian (take 4 (drop 8 bytes)) < 2 ^ 32
  middle_below = rw middle_four at (little_endian_below (take 4 (drop 8 bytes)) (bytes_take 4 (drop 8 bytes) (bytes_drop 8 bytes are)))

  -- the upper word holds the kind above the word of the exponent
  pub upper_read : (high : ℕ) → high ≡ little_endian (take (length bytes - 8) (drop 8 bytes))
      → (high / 2 ^ 32 ≡ little_endian (drop 12 bytes)) × (high % 2 ^ 32 ≡ little_endian (take 4 (drop 8 bytes)))
  upper_read high is =
      let upper = (rw (rest_all 8 bytes) at is) ∙ sym (rw (drop-drop 4 8 bytes) at (whole 4 8 (lit≤ tt) (drop 8 bytes) upper_eight)) in
      let small = middle_below in
      (omega arith, omega arith)
