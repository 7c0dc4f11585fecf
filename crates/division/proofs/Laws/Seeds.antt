-- Document 01's seed table: an entry has eight bits, is the nearest whole number, and times the divisor lies near 1.
use Rattle.std.proofs.Common.{◌≡◌, ℕ, ◌+◌, ◌*◌, ◌/◌, ◌%◌, ◌^◌, ◌<◌, ◌≤◌, Bool, true, ◌&&◌, ltb, leb, refl, mod-lt, mul-le-mul_left, div-add-mod', arith, lit<, ltb-true, leb-true}
use mathlib.Core.Bool.{and-eq-true_iff}
use Rattle.numbers.proofs.Laws.Ratio.{gap}
use Rattle.numbers.proofs.Laws.Table.{every, every_at}
use Rattle.division.specs.Seed.{nearest, entry_of, index_of}

-- The entry T at k has eight bits, and T × D is near enough to 2^71 at both ends, 128 + k and 129 + k times 2^56, of the significands D that k stands for.
is_close : ℕ → ℕ → Bool
is_close k T = (leb 128 T && ltb T 256) && (ltb (2 ^ 15) (T * (128 + k) + 3 * 2 ^ 6) && leb (T * (129 + k)) (2 ^ 15 + 3 * 2 ^ 6))

record IsClose (k T : ℕ) : Type 0 where
  top_bit : 128 ≤ T
  byte : T < 256
  first : 2 ^ 15 < T * (128 + k) + 3 * 2 ^ 6
  last : T * (129 + k) ≤ 2 ^ 15 + 3 * 2 ^ 6

close_test : (k T : ℕ) → is_close k T ≡ true → IsClose k T
unfolding is_close
close_test k T h =
    let both = (and-eq-true_iff _ _).0 h in
    let range = (and-eq-true_iff _ _).0 both.0 in
    let ends = (and-eq-true_iff _ _).0 both.1 in
    record {
      top_bit = leb-true 128 T range.0;
      byte = ltb-true T 256 range.1;
      first = ltb-true (2 ^ 15) (T * (128 + k) + 3 * 2 ^ 6) ends.0;
      last = leb-true (T * (129 + k)) (2 ^ 15 + 3 * 2 ^ 6) ends.1;
    }

all_close : every (λ (k : ℕ). is_close k (entry_of k)) 128 ≡ true
unfolding every is_close entry_of nearest
all_close = refl

entry_close : (k : ℕ) → k < 128 → IsClose k (entry_of k)
entry_close k h = close_test k (entry_of k) (every_at (λ (j : ℕ). is_close j (entry_of j)) 128 all_close k h)

-- an entry has eight bits
pub entry_range : (k : ℕ) → k < 128 → (128 ≤ entry_of k) × (entry_of k < 256)
entry_range k h = let c : IsClose k (entry_of k) = entry_close k h in (c.top_bit, c.byte)

-- the entry of a significand
abbrev pub entry_for : ℕ → ℕ
entry_for D = entry_of (index_of D)

pub index_below : (D : ℕ) → index_of D < 128
unfolding index_of
index_below D = mod-lt (D / 2 ^ 56) (lit< tt)

module _ (D : ℕ) (top : 2 ^ 63 ≤ D) (word : D < 2 ^ 64) where
  index_ends : ((128 + index_of D) * 2 ^ 56 ≤ D) × (D < (129 + index_of D) * 2 ^ 56)
  unfolding index_of
  index_ends = omega arith

  -- seed × d differs from 1 by less than 2^−8 + 2^−9, in units of 2^−71
  pub seed_close : (entry_for D * D < 2 ^ 71 + 3 * 2 ^ 62) × (2 ^ 71 < entry_for D * D + 3 * 2 ^ 62)
  seed_close = between (index_of D) (entry_for D) index_ends.0 index_ends.1 (entry_close (index_of D) (index_below D))
    where
      between : (k T : ℕ) → (128 + k) * 2 ^ 56 ≤ D → D < (129 + k) * 2 ^ 56 → IsClose k T → (T * D < 2 ^ 71 + 3 * 2 ^ 62) × (2 ^ 71 < T * D + 3 * 2 ^ 62)
      between k T l h c = (omega (arith, mul-le-mul_left T h, c.last, c.top_bit), omega (arith, mul-le-mul_left T l, c.first))

-- ---- the sentences of document 01

module _ (k : ℕ) where
  -- "No tie can occur."
  pub no_tie : 2 * (65536 % (257 + 2 * k)) ≡ 257 + 2 * k → ⊥
  no_tie h = omega arith

  -- "T(k) is the whole number nearest 65,536 / (257 + 2k)": it differs by less than a half
  pub entry_nearest : 2 * gap (entry_of k * (257 + 2 * k)) 65536 < 257 + 2 * k
  unfolding entry_of nearest
  entry_nearest = go (257 + 2 * k) refl
    where
      go : (n : ℕ) → n ≡ 257 + 2 * k → 2 * gap ((2 * 65536 + n) / (2 * n) * n) 65536 < n
      go n e = omega (arith, div-add-mod' (2 * 65536 + n) (2 * n), mod-lt (2 * 65536 + n) {m = 2 * n} (omega arith))
