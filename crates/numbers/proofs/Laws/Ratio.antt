-- Two numbers in the ratio of two others have their order, and the gap between them is in that ratio too.
use mathlib.Core.Path.{◌≡◌, sym, ap, ap₂, ◌∙◌}
use mathlib.Core.Bool.{Bool, true, false}
use Prim.Native.Nat.{ℕ, ◌+◌, ◌-◌, ◌*◌, ◌≤◌, ◌<◌}
use native.Mathlib.Omega.{arith}
use native.Mathlib.Nat.{mul-sub, mul-le-mul_right, le_of_mul-le-mul_right, eq_of_mul-eq-mul_right}

-- how far apart two numbers are
abbrev pub gap : ℕ → ℕ → ℕ
gap u v = (u - v) + (v - u)

-- two magnitudes in the order that they have with a sign
abbrev pub Ordered : Bool → ℕ → ℕ → Type 0
Ordered false u v = u ≤ v
Ordered true u v = v ≤ u

-- u is to v as p is to q: c times the two are d times the others
pub record Ratio (u v c p q d : ℕ) : Type 0 where
  pub scale : 0 < c
  pub first : u * c ≡ p * d
  pub second : v * c ≡ q * d

pub ratio_swap : {u v c p q d : ℕ} → Ratio u v c p q d → Ratio v u c q p d
ratio_swap r = record { scale = r.scale; first = r.second; second = r.first }

pub ratio_below : {u v c p q d : ℕ} → Ratio u v c p q d → p ≤ q → u ≤ v
ratio_below {c = c} {d = d} r h = le_of_mul-le-mul_right {k = c} (omega (arith, mul-le-mul_right d h)) r.scale

pub ratio_order : {u v c p q d : ℕ} → Ratio u v c p q d → (s : Bool) → Ordered s p q → Ordered s u v
ratio_order r false h = ratio_below r h
ratio_order r true h = ratio_below (ratio_swap r) h

pub ratio_same : {u v c p q d : ℕ} → Ratio u v c p q d → p ≡ q → u ≡ v
ratio_same {u} {v} {c} {d = d} r h = eq_of_mul-eq-mul_right c r.scale u v (r.first ∙ ap (λ (m : ℕ). m * d) h ∙ sym r.second)

pub gap_times : (u v c : ℕ) → gap u v * c ≡ gap (u * c) (v * c)
gap_times u v c = omega (arith, mul-sub c u v, mul-sub c v u)

pub ratio_gap : {u v c p q d : ℕ} → Ratio u v c p q d → gap u v * c ≡ gap p q * d
ratio_gap {u} {v} {c} {p} {q} {d} r = gap_times u v c ∙ ap₂ gap r.first r.second ∙ sym (gap_times p q d)
