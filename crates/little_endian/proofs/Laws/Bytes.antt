-- Little-endian bytes: reading and writing undo each other, and a number in several parts.
use mathlib.Core.Path.{◌≡◌, refl, sym, ap, ◌∙◌}
use mathlib.Core.List.{List, [], ◌∷◌, ◌++◌, append-nil}
use Prim.Native.Nat.{ℕ, zero, suc, ◌+◌, ◌-◌, ◌*◌, ◌/◌, ◌%◌, ◌^◌, ◌≤◌, ◌<◌}
use native.Mathlib.Nat.{lt_of_lt_of_le, mod-eq_of_lt, pow-le-pow_right, suc-add, zero-add, add-sub_of_le, le_of_eq, mod-lt, div-one, div-div-eq-div-mul, pow-suc, pow-succ'}
use native.Mathlib.Omega.{arith}
use lib.Arith.{digits_div}
use lib.Dec.{lit<}
use lib.Pow.{pow-add}
use lib.ListN.{length, take, drop, replicate, length-drop, take-append-drop, drop_of_length-le}
use lib.Seq.{length-take-le, take_all, take_at, drop_at, get_or-drop}
use Rattle.little_endian.specs.Bytes.{little_endian, bytes_of, IsBytes}

-- 256^n is 2^(8 × n)
pub byte_power : (n : ℕ) → 256 ^ n ≡ 2 ^ (8 * n)
byte_power zero = refl
byte_power (suc n) =
    pow-succ' 256 n
    ∙ ap (λ (m : ℕ). 256 * m) (byte_power n)
    ∙ sym (pow-add 2 8 (8 * n))
    ∙ ap (λ (m : ℕ). 2 ^ m) (let e : 8 + 8 * n ≡ 8 * suc n = omega arith in e)

-- the first byte and those after it
bytes_tail : (b : ℕ) (bytes : List ℕ) → IsBytes (b ∷ bytes) → (b < 256) × IsBytes bytes
unfolding IsBytes
bytes_tail b bytes h = (h 0, (λ (i : ℕ). h (suc i)))

-- n bytes hold a number below 256^n
pub little_endian_below : (bytes : List ℕ) → IsBytes bytes → little_endian bytes < 256 ^ length bytes
unfolding little_endian
little_endian_below [] h = lit< tt
little_endian_below (b ∷ bytes) h =
    rw (pow-succ' 256 (length bytes)) (omega (arith, (bytes_tail b bytes h).0, little_endian_below bytes (bytes_tail b bytes h).1))

-- a number is written as n bytes, and read back where they have room for it
pub bytes_length : (n w : ℕ) → length (bytes_of n w) ≡ n
unfolding bytes_of
bytes_length zero w = refl
bytes_length (suc n) w = ap suc (bytes_length n (w / 256))

pub bytes_are : (n w : ℕ) → IsBytes (bytes_of n w)
unfolding bytes_of IsBytes
bytes_are zero w i = lit< tt
bytes_are (suc n) w zero = mod-lt w (lit< tt)
bytes_are (suc n) w (suc i) = bytes_are n (w / 256) i

pub little_endian_bytes : (n w : ℕ) → w < 256 ^ n → little_endian (bytes_of n w) ≡ w
unfolding little_endian bytes_of
little_endian_bytes zero w h = let small : w < 1 = h in omega arith
little_endian_bytes (suc n) w h =
    let less : w < 256 * 256 ^ n = rw (pow-succ' 256 n) at h in
    omega (arith, little_endian_bytes n (w / 256) (omega arith))

-- bytes are read, and written as they were
pub bytes_little_endian : (bytes : List ℕ) → IsBytes bytes → bytes_of (length bytes) (little_endian bytes) ≡ bytes
unfolding little_endian bytes_of
bytes_little_endian [] h = refl
bytes_little_endian (b ∷ bytes) h =
    let parts = bytes_tail b bytes h in
    let low : (b + 256 * little_endian bytes) % 256 ≡ b = omega (arith, parts.0) in
    let high : (b + 256 * little_endian bytes) / 256 ≡ little_endian bytes = omega (arith, parts.0) in
    rw (low, high, bytes_little_endian bytes parts.1)

-- a number in two parts, read and written
pub little_endian_append : (xs ys : List ℕ) → little_endian (xs ++ ys) ≡ little_endian xs + 256 ^ length xs * little_endian ys
unfolding little_endian
little_endian_append [] ys = omega arith
little_endian_append (x ∷ xs) ys = rw (little_endian_append xs ys, pow-succ' 256 (length xs)) (omega arith)

pub bytes_append : (m n w : ℕ) → bytes_of (m + n) w ≡ bytes_of m w ++ bytes_of n (w / 256 ^ m)
unfolding bytes_of
bytes_append zero n w = rw (zero-add n, div-one w)
bytes_append (suc m) n w = rw (suc-add m n, pow-succ' 256 m, ← div-div-eq-div-mul w 256 (256 ^ m), ← bytes_append m n (w / 256))

-- one more byte, written at the end
pub bytes_more : (n w : ℕ) → bytes_of (n + 1) w ≡ bytes_of n w ++ (w / 256 ^ n % 256 ∷ [])
unfolding bytes_of
bytes_more n w = bytes_append n 1 w

-- a word has room for eight bytes
pub read_whole : (bytes : List ℕ) → IsBytes bytes → length bytes ≤ 8 → little_endian bytes % 2 ^ 64 ≡ little_endian bytes
read_whole bytes are h =
    let most : 256 ^ length bytes ≤ 2 ^ 64 = pow-le-pow_right (lit< tt) h in
    mod-eq_of_lt (lt_of_lt_of_le (little_endian_below bytes are) most)

-- the first bytes are bytes, and so are the last ones
pub bytes_take : (n : ℕ) (bytes : List ℕ) → IsBytes bytes → IsBytes (take n bytes)
unfolding IsBytes
bytes_take zero bytes h i = lit< tt
bytes_take (suc n) [] h i = h i
bytes_take (suc n) (b ∷ bytes) h zero = h 0
bytes_take (suc n) (b ∷ bytes) h (suc i) = bytes_take n bytes (λ (j : ℕ). h (suc j)) i

pub bytes_drop : (n : ℕ) (bytes : List ℕ) → IsBytes bytes → IsBytes (drop n bytes)
unfolding IsBytes
bytes_drop n bytes h i = rw (get_or-drop n bytes i 0) (h (n + i))

-- bytes after bytes are bytes, and so are zeros
pub joined_bytes : (xs ys : List ℕ) → IsBytes xs → IsBytes ys → IsBytes (xs ++ ys)
unfolding IsBytes
joined_bytes [] ys p q i = q i
joined_bytes (x ∷ xs) ys p q zero = p 0
joined_bytes (x ∷ xs) ys p q (suc i) = joined_bytes xs ys (λ (j : ℕ). p (suc j)) q i

pub zero_bytes : (n : ℕ) → IsBytes (replicate n 0)
unfolding IsBytes
zero_bytes zero i = lit< tt
zero_bytes (suc n) zero = lit< tt
zero_bytes (suc n) (suc i) = zero_bytes n i

-- they hold zero
pub bytes_zero : (n : ℕ) → bytes_of n 0 ≡ replicate n 0
unfolding bytes_of
bytes_zero zero = refl
bytes_zero (suc n) = rw (bytes_zero n)

-- what the n lowest bytes do not hold has no effect on them
bytes_low : (n v w : ℕ) → bytes_of n (v * 256 ^ n + w) ≡ bytes_of n w
unfolding bytes_of
bytes_low zero v w = refl
bytes_low (suc n) v w =
    let p : v * 256 ^ suc n ≡ v * 256 ^ n * 256 = omega (arith, ap (λ (k : ℕ). v * k) (pow-suc 256 n)) in
    let low : (v * 256 ^ suc n + w) % 256 ≡ w % 256 = omega arith in
    let high : (v * 256 ^ suc n + w) / 256 ≡ v * 256 ^ n + w / 256 = omega arith in
    rw (low, high, bytes_low n v (w / 256))

-- as many as follow the first n are all that follow them
pub rest_all : (n : ℕ) (bytes : List ℕ) → take (length bytes - n) (drop n bytes) ≡ drop n bytes
rest_all n bytes = take_all (length bytes - n) (drop n bytes) (le_of_eq (length-drop n bytes))

-- the first n bytes are written over, and then all that follow them
pub both_over : (n : ℕ) (all first old rest front back : List ℕ) → all ≡ first ++ old → first ≡ front → rest ≡ back → length front ≡ n
    → take n all ++ (rest ++ drop (length all - n) (drop n all)) ≡ front ++ back
both_over n all first old rest front back is first-is rest-is short =
    let begun : take n all ≡ front = rw (is, first-is) (take_at front old n short) in
    rw (begun, rest-is, drop_of_length-le (drop n all) (le_of_eq (length-drop n all)), append-nil)

-- m bytes in two parts, the first n of them and the rest
module _ (n m : ℕ) (h : n ≤ m) (bytes : List ℕ) (count : length bytes ≡ m) where
  pub first_length : length (take n bytes) ≡ n
  first_length = length-take-le n bytes (rw count h)

  pub rest_length : length (drop n bytes) ≡ m - n
  rest_length = rw (length-drop n bytes, count)

  pub whole : little_endian (take n bytes) + 256 ^ n * little_endian (drop n bytes) ≡ little_endian bytes
  whole = sym (rw first_length at (little_endian_append (take n bytes) (drop n bytes))) ∙ ap little_endian (take-append-drop n bytes)

  -- the parts are read one after the other, each into a word
  pub read_parts : (low high : ℕ) → IsBytes bytes → n ≤ 8 → m - n ≤ 8
      → low ≡ little_endian (take n bytes) % 2 ^ 64 → high ≡ little_endian (take (length bytes - n) (drop n bytes)) % 2 ^ 64
      → (high * 256 ^ n + low ≡ little_endian bytes) × (high < 256 ^ (m - n))
  read_parts low high are n8 r8 el eh =
      let first = el ∙ read_whole (take n bytes) (bytes_take n bytes are) (rw first_length n8) in
      let rest = (rw (rest_all n bytes) at eh) ∙ read_whole (drop n bytes) (bytes_drop n bytes are) (rw rest_length r8) in
      (rw (first, rest) (omega (arith, whole)), rw (rest, ← rest_length) (little_endian_below (drop n bytes) (bytes_drop n bytes are)))

  -- the parts are written one after the other
  pub write_parts : (all first rest : List ℕ) (low high : ℕ) → low < 256 ^ n
      → all ≡ first ++ drop n bytes → first ≡ bytes_of (length (take n bytes)) low → rest ≡ bytes_of (length (take (length all - n) (drop n all))) high
      → take n all ++ (rest ++ drop (length all - n) (drop n all)) ≡ bytes_of m (high * 256 ^ n + low)
  write_parts all first rest low high small ea ef er =
      let front : first ≡ bytes_of n low = rw first_length at ef in
      let short : length first ≡ n = rw front (bytes_length n low) in
      let back : rest ≡ bytes_of (m - n) high = rw (rest_all n all, ea, drop_at first (drop n bytes) n short, rest_length) at er in
      both_over n all first (drop n bytes) rest (bytes_of n low) (bytes_of (m - n) high) ea front back (bytes_length n low)
      ∙ sym (rw (add-sub_of_le h, bytes_low, digits_div high small) at (bytes_append n (m - n) (high * 256 ^ n + low)))
