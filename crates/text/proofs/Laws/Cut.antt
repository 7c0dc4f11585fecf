-- What is cut from a text: a part that was cut before makes no difference, and what has room is not cut.
use mathlib.Core.Path.{◌≡◌, refl, sym, ap, ◌∙◌}
use mathlib.Core.List.{List, [], ◌∷◌, ◌++◌}
use Prim.Native.Nat.{ℕ, zero, suc, ◌+◌, ◌≤◌, ◌<◌}
use native.Mathlib.Numerals.{add-one}
use native.Mathlib.Omega.{arith}
use lib.ListN.{length, take, set, length-append, length-take}
use lib.Seq.{take_all, take_at, take-suc-set, length-take-le}
use Rattle.text.specs.Text.{capacity, cut}

-- ---- lists

take_append_take : (n : ℕ) (xs ys : List ℕ) → take n (take n xs ++ ys) ≡ take n (xs ++ ys)
take_append_take zero xs ys = refl
take_append_take (suc n) [] ys = refl
take_append_take (suc n) (x ∷ xs) ys = ap (λ (l : List ℕ). x ∷ l) (take_append_take n xs ys)

-- ---- what is cut

-- a list with room is not cut
pub uncut : (xs : List ℕ) → length xs ≤ capacity → cut xs ≡ xs
unfolding cut
uncut xs h = take_all capacity xs h

-- one addition after others is one addition of all of them
pub cut_append : (xs ys : List ℕ) → cut (cut xs ++ ys) ≡ cut (xs ++ ys)
unfolding cut
cut_append xs ys = take_append_take capacity xs ys

-- ---- the array of a text, and the bytes before its length

module _ (bytes : List ℕ) (at : ℕ) (whole : length bytes ≡ capacity) where
  -- they have room
  pub within : take at bytes ≡ cut (take at bytes)
  within = sym (uncut (take at bytes) (rw (length-take at bytes) (omega arith)))

  -- a full array takes no more
  pub full : (more : List ℕ) → capacity ≤ at → take at bytes ≡ cut (take at bytes ++ more)
  unfolding cut
  full more h = rw (take_all at bytes (omega arith)) (sym (take_at bytes more capacity whole))

  -- one byte stored behind them
  pub stored : (byte : ℕ) → at < capacity → take (at + 1) (set bytes at byte) ≡ cut (take at bytes ++ (byte ∷ []))
  stored byte h =
      let room : length (take at bytes ++ (byte ∷ [])) ≤ capacity = rw (length-append (take at bytes) (byte ∷ []), length-take-le at bytes (omega arith)) (omega arith) in
      rw add-one (take-suc-set bytes at byte (omega arith)) ∙ sym (uncut (take at bytes ++ (byte ∷ [])) room)
