-- What a call of an exported function answers and leaves. One definition serves all four; it takes what the operation answers for two numbers.
use Rattle.std.specs.Prelude.{Bool, ◌&&◌, cond, List, ℕ, eqb, length, ℤ, pos, neg_ℤ, Option, None, Some}
use Rattle.numbers.specs.Accuracy.{Marked, marked_as, refused_by}
use Rattle.numbers.specs.declared.answer.Accuracy.{Accuracy}
use Rattle.numbers.specs.declared.answer.Accuracy.TheVariants as accuracy
use Rattle.numbers.specs.declared.number.Number.{Number}
use Rattle.export.specs.Layout.{layout_of, number_in}

-- the mark that C gets of an accuracy: −1 below, 0 exact, 1 above
unfoldable pub ternary_of : Accuracy → ℤ
ternary_of accuracy.Below = neg_ℤ (pos 1)
ternary_of accuracy.Exact = pos 0
ternary_of accuracy.Above = pos 1

-- what a call leaves: its answer, and at its exit the bytes of `res` and the mark in `accuracy`
pub record Call : Type 0 where
  pub answer : ℕ
  pub bytes : List ℕ
  pub accuracy : ℤ

-- an answer with the bytes and the mark at exit
unfoldable pub call : ℕ → List ℕ → ℤ → Call
call answer bytes accuracy = record { answer = answer; bytes = bytes; accuracy = accuracy }

-- What a marked outcome leaves of the bytes `old` and the mark `was`: 0 with the number's bytes and the mark of its accuracy, or the row that refused with both
-- as they were.
unfoldable pub left_by : Marked → List ℕ → ℤ → Call
left_by (marked_as x mark) old was = call 0 (layout_of x) (ternary_of mark)
left_by (refused_by row) old was = call row old was

-- What two operands leave, by their operation: 64 where one of them is no number.
unfoldable pub operated : (Number → Number → Marked) → Option Number → Option Number → List ℕ → ℤ → Call
operated operation (Some x) (Some y) old was = left_by (operation x y) old was
operated operation (Some x) None old was = call 64 old was
operated operation None y old was = call 64 old was

-- are there sixteen bytes?
unfoldable pub is_sixteen : ℕ → Bool
is_sixteen n = eqb n 16

-- What a call leaves, of the bytes of its operands, the old bytes of `res` and the old mark: 9 where one of the three has not sixteen bytes.
unfoldable pub call_of : (Number → Number → Marked) → List ℕ → List ℕ → List ℕ → ℤ → Call
call_of operation a b old was =
    cond (is_sixteen (length a) && (is_sixteen (length b) && is_sixteen (length old)))
    (operated operation (number_in a) (number_in b) old was)
    (call 9 old was)
