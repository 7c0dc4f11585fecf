-- Document 01, "The thirty-two steps": the rule of the seed table, which the quotient and the steps share.
use Rattle.std.specs.Prelude.{ℕ, ◌+◌, ◌*◌, ◌/◌, ◌%◌, ◌^◌}

-- the whole number nearest a / b. "No tie can occur."
unfoldable pub nearest : ℕ → ℕ → ℕ
nearest a b = (2 * a + b) / (2 * b)

-- "T(k) is the whole number nearest 65,536 / (257 + 2k)"
unfoldable pub entry_of : ℕ → ℕ
entry_of k = nearest 65536 (257 + 2 * k)

-- "with k the seven bits after the leading one of S"
unfoldable pub index_of : ℕ → ℕ
index_of S = S / 2 ^ 56 % 128
