-- The operands of a division: an admissible number's parts, and that it is working.
use Rattle.std.proofs.Common.{◌≡◌, true, arith}
use Rattle.numbers.specs.Biased.{bias}
use Rattle.numbers.specs.Number.{is_admissible_exponent, is_working, is_admissible}
use Rattle.numbers.specs.declared.number.Number.{Number}
use Rattle.numbers.specs.declared.number.Number.TheVariants.{Zero, Finite}
use Rattle.numbers.proofs.Laws.Bias.{biased}
use Rattle.numbers.proofs.Laws.Fits.{zero_working}
use Rattle.numbers.proofs.Laws.Working.{fit_parts, finite_working}
use Rattle.division.proofs.Laws.Range.{IsBounded, lowest_admissible}

-- An admissible number is zero, or has a biased exponent and a significand in range.
pub admissible_parts : (x : Number) → is_admissible x ≡ true → IsBounded lowest_admissible x
unfolding is_admissible_exponent
admissible_parts Zero h = tt
admissible_parts (Finite s e S) h =
    let parts = fit_parts is_admissible_exponent s e S h in
    let b = biased 16446 16384 bias (omega arith) e parts.0 in
    (b.0, b.3, record { lowest = omega (arith, b.1); highest = b.2; top = parts.1; word = parts.2 })

pub admissible_working : (x : Number) → is_admissible x ≡ true → is_working x ≡ true
admissible_working Zero h = zero_working
admissible_working (Finite s e S) h = go (admissible_parts (Finite s e S) h)
  where
    go : IsBounded lowest_admissible (Finite s e S) → is_working (Finite s e S) ≡ true
    go (b, is, range) = rw is (finite_working s b S (omega arith) range.top range.word)
