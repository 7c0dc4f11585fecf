-- The exact difference of two numbers: a − b is a + (−b).
use Rattle.std.proofs.Common.{◌≡◌, true, ap, ◌∙◌}
use Rattle.numbers.specs.Fraction.{value, sum, difference}
use Rattle.numbers.specs.Number.{is_working, negated}
use Rattle.numbers.specs.declared.number.Number.{Number}
use Rattle.numbers.proofs.Laws.Negated.{negated_working, difference_is}
use Rattle.arithmetic.specs.Private.{IsExact}
use Rattle.arithmetic.specs.declared.rounding.Exact.{Exact}
use Rattle.arithmetic.proofs.Laws.Entries.{sum_same}
use Rattle.arithmetic.proofs.exact.DifferenceExactly.exact.Goals as goal

still_working : (b c : Number) → c ≡ negated b → is_working b ≡ true → is_working c ≡ true
still_working b c e h = ap is_working e ∙ negated_working b ∙ h

less : (r : Exact) (a b c : Number) → c ≡ negated b → IsExact r (sum (value a) (value c)) → IsExact r (difference (value a) (value b))
less r a b c e h = rw (← difference_is (value a) b, ← e) h

pub of-requires-2 : goal.of-requires-2
of-requires-2 c = still_working _ _ c.negated.ensures (search (c.requires.0, c.requires.1))

pub returns : goal.returns
returns c =
    less _ _ _ _ c.negated.ensures
    (sum_same _ _ _ _ _ c.of.ensures c.of-2.ensures (rw c.of-3.ensures at c.sum.ensures))
