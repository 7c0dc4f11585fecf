-- `little_endian::write` meets its contract. The loop goes up: the first bytes are those of w, and `left` is what they do not hold.
use mathlib.Core.Path.{◌≡◌, refl, sym, ap, ◌∙◌}
use mathlib.Core.List.{List}
use Prim.Native.Nat.{ℕ, ◌+◌, ◌/◌, ◌%◌, ◌^◌, ◌≤◌, ◌<◌}
use native.Mathlib.Nat.{div-one, div-div-eq-div-mul, pow-suc}
use native.Mathlib.Numerals.{add-one}
use native.Mathlib.Omega.{arith}
use lib.ListN.{length, set}
use lib.Seq.{take_all, take-suc-set}
use Rattle.little_endian.specs.Bytes.{bytes_of}
use Rattle.little_endian.proofs.Laws.Bytes.{bytes_more}
use Rattle.little_endian.proofs.write.Invariants.{Written}
use Rattle.little_endian.proofs.write.Goals as goal

-- no byte is written, then one more in each turn, until all are
begins : (bytes : List ℕ) (w : ℕ) → Written w bytes w 0
unfolding bytes_of
begins bytes w = record { holds = refl; rest = sym (div-one w) }

next : (w : ℕ) (bytes : List ℕ) (left i : ℕ) → Written w bytes left i → i < length bytes → Written w (set bytes i (left % 256)) (left / 256) (i + 1)
next w bytes left i a h = record {
  holds = rw (bytes_more i w, add-one, take-suc-set bytes i (left % 256) h, a.holds, a.rest);
  rest = rw (a.rest, add-one, pow-suc) (div-div-eq-div-mul w (256 ^ i) 256);
}

ends : (w : ℕ) (bytes : List ℕ) (left n : ℕ) → Written w bytes left n → length bytes ≤ n → bytes ≡ bytes_of n w
ends w bytes left n a h = sym (take_all n bytes h) ∙ a.holds

pub loop-byte-init : goal.loop-byte-init
loop-byte-init c = begins _ _

pub loop-byte-preserved : goal.loop-byte-preserved
loop-byte-preserved c = next _ _ _ _ c.loop-byte.invariant (omega arith)

pub returns : goal.returns
returns c =
    let all : c.loop-byte.byte-index ≡ length c.args.bytes.now = omega arith in
    ends _ _ _ _ c.loop-byte.invariant (omega arith) ∙ ap (λ (n : ℕ). bytes_of n c.args.w) all
