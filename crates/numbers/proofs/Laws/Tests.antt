-- Two tests are the same where each one's fact gives the other's; and what the test of a range says.
use mathlib.Core.Path.{◌≡◌, refl, sym, ◌∙◌}
use mathlib.Core.Bool.{cond, Bool, true, false, ◌&&◌, and-eq-true_iff}
use Prim.Native.Nat.{ℕ, zero, suc, ◌≤◌, ◌<◌}
use native.Mathlib.Omega.{arith}
use native.Mathlib.Decide.{dec_le, ℕ_discrete}
use native.Mathlib.Nat.{lt_of_not-le}
use lib.Dec.{leb, ltb, eqb}
use borrow.Author.Tests.{leb-true, ltb-true, lt-ltb, le-leb, lt-leb, eq-eqb, ne_eqb}

pub leb_same : (a b c d : ℕ) → (a ≤ b → c ≤ d) → (c ≤ d → a ≤ b) → leb a b ≡ leb c d
leb_same a b c d there back = go (dec_le a b)
  where
    go : Dec (a ≤ b) → leb a b ≡ leb c d
    go (yes h) = le-leb a b h ∙ sym (le-leb c d (there h))
    go (no h) = lt-leb a b (lt_of_not-le h) ∙ sym (lt-leb c d (lt_of_not-le (λ (k : c ≤ d). h (back k))))

pub ltb_same : (a b c d : ℕ) → (a < b → c < d) → (c < d → a < b) → ltb a b ≡ ltb c d
ltb_same a b c d there back = leb_same _ b _ d there back

pub eqb_same : (a b c d : ℕ) → (a ≡ b → c ≡ d) → (c ≡ d → a ≡ b) → eqb a b ≡ eqb c d
eqb_same a b c d there back = go (ℕ_discrete a b)
  where
    go : Dec (a ≡ b) → eqb a b ≡ eqb c d
    go (yes h) = eq-eqb a b h ∙ sym (eq-eqb c d (there h))
    go (no h) = ne_eqb a b h ∙ sym (ne_eqb c d (λ (k : c ≡ d). h (back k)))

-- two numbers that are above 0 together are 0 together
pub zero_same : (x y : ℕ) → ltb 0 x ≡ ltb 0 y → eqb x 0 ≡ eqb y 0
zero_same zero zero e = refl
zero_same zero (suc y) e = absurd (omega (arith, ltb-true 0 0 (e ∙ lt-ltb 0 (suc y) (omega arith))))
zero_same (suc x) zero e = absurd (omega (arith, ltb-true 0 0 (sym e ∙ lt-ltb 0 (suc x) (omega arith))))
zero_same (suc x) (suc y) e = ne_eqb (suc x) 0 (λ (k : suc x ≡ 0). omega arith) ∙ sym (ne_eqb (suc y) 0 (λ (k : suc y ≡ 0). omega arith))

-- n is from a to b
pub range_true : (a b n : ℕ) → leb a n && leb n b ≡ true → (a ≤ n) × (n ≤ b)
range_true a b n h = let both = (and-eq-true_iff (leb a n) (leb n b)).0 h in (leb-true a n both.0, leb-true n b both.1)

-- two tests that hold together are one
pub one_test : (a b : Bool) → (a ≡ true → b ≡ true) → (b ≡ true → a ≡ true) → a ≡ b
one_test true b h k = sym (h refl)
one_test false true h k = k refl
one_test false false h k = refl

-- a flag counts at most one
pub at_most_one : (b : Bool) → cond b 1 0 ≤ 1
at_most_one true = omega arith
at_most_one false = omega arith

-- Two constructors are never equal: `never cc` where the equations in scope say that they are.
pub never : {A : Type 0} → ◌≡◌ {A = ℕ} 0 1 → A
never e = absurd (omega arith)
