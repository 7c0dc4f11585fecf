-- The table of a rule: what is computed over the whole table is carried to each entry.
use mathlib.Core.Path.{◌≡◌, sym, ap, ◌∙◌}
use mathlib.Core.Bool.{Bool, true, ◌&&◌, and-eq-true_iff}
use mathlib.Core.List.{List, [], ◌∷◌}
use Prim.Native.Nat.{ℕ, zero, suc, ◌+◌, ◌<◌}
use native.Mathlib.Decide.{dec_lt}
use native.Mathlib.Nat.{add-zero, zero-add, add-suc, suc-add, le_of_suc-le-suc, not-suc-le-zero}
use native.Mathlib.Omega.{arith}
use lib.ListN.{get_or}

-- n entries by the rule, the first for i
abbrev pub table_of : (ℕ → ℕ) → ℕ → ℕ → List ℕ
table_of rule i zero = []
table_of rule i (suc n) = rule i ∷ table_of rule (suc i) n

from : (rule : ℕ → ℕ) (n i k : ℕ) → k < n → get_or (table_of rule i n) k 0 ≡ rule (i + k)
from rule zero i k h = absurd (not-suc-le-zero h)
from rule (suc n) i zero h = ap rule (sym (add-zero i))
from rule (suc n) i (suc k) h = from rule n (suc i) k (le_of_suc-le-suc h) ∙ ap rule (suc-add i k ∙ sym (add-suc i k))

-- the entry at k is the rule's
pub at_entry : (rule : ℕ → ℕ) (n k : ℕ) → k < n → get_or (table_of rule 0 n) k 0 ≡ rule k
at_entry rule n k h = from rule n 0 k h ∙ ap rule (zero-add k)

-- the test passes at each place below n
unfoldable pub every : (ℕ → Bool) → ℕ → Bool
every test zero = true
every test (suc n) = every test n && test n

pub every_at : (test : ℕ → Bool) (n : ℕ) → every test n ≡ true → (k : ℕ) → k < n → test k ≡ true
unfolding every
every_at test zero h k l = absurd (not-suc-le-zero l)
every_at test (suc n) h k l = go (dec_lt k n) (every_at test n ((and-eq-true_iff (every test n) (test n)).0 h).0 k)
  where
    go : Dec (k < n) → (k < n → test k ≡ true) → test k ≡ true
    go (yes below) before = before below
    go (no last) before = ap test (let e : k ≡ n = omega arith in e) ∙ ((and-eq-true_iff (every test n) (test n)).0 h).1
