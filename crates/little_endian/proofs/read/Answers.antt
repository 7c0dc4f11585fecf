-- `little_endian::read` meets its contract. The loop goes down: w is the number in the bytes behind those that are left, as far as a word has room for it.
use mathlib.Core.Path.{◌≡◌, refl, sym, ap, ◌∙◌}
use mathlib.Core.List.{List, [], ◌∷◌, ◌++◌, append-nil, append_assoc}
use Prim.Native.Nat.{ℕ, ◌+◌, ◌*◌, ◌%◌, ◌^◌, ◌<◌}
use native.Mathlib.Omega.{arith}
use lib.ListN.{length}
use Rattle.little_endian.specs.Bytes.{little_endian}
use Rattle.little_endian.proofs.read.Invariants.{Above}
use Rattle.little_endian.proofs.read.Goals as goal

-- no byte is read, then one more in each turn, until none is left
begins : (bytes rest : List ℕ) → rest ≡ bytes → Above bytes rest 0
unfolding little_endian
begins bytes rest e = record { behind = []; parts = append-nil rest ∙ e; holds = refl }

next : (bytes rest left : List ℕ) (w b : ℕ) → Above bytes rest w → rest ≡ left ++ (b ∷ []) → b < 256 → Above bytes left (w % 2 ^ 56 * 256 + b)
unfolding little_endian
next bytes rest left w b a e small = record {
  behind = b ∷ a.behind;
  parts = sym (append_assoc left (b ∷ []) a.behind) ∙ ap (λ (l : List ℕ). l ++ a.behind) (sym e) ∙ a.parts;
  holds = rw a.holds (omega arith);
}

ends : (bytes rest : List ℕ) (w : ℕ) → Above bytes rest w → length rest ≡ 0 → w ≡ little_endian bytes % 2 ^ 64
ends bytes [] w a e = a.holds ∙ ap (λ (l : List ℕ). little_endian l % 2 ^ 64) a.parts
ends bytes (b ∷ rest) w a e = absurd (let z : ◌≡◌ {A = ℕ} 0 1 = omega arith in omega arith)

pub loop-byte-init : goal.loop-byte-init
loop-byte-init c = begins _ _ (cc)

pub loop-byte-preserved : goal.loop-byte-preserved
loop-byte-preserved c = rw c.from.ensures (next _ _ _ _ _ c.loop-byte.invariant c.in-Some.ensures.steps (omega arith))

pub returns : goal.returns
returns c = ends _ _ _ c.loop-byte.invariant c.in-None.ensures.steps.0
