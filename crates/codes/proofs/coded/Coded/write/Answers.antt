-- `codes::coded::Coded::write` meets its contract: a refusal leaves the bytes alone, and a code is put into them.
use mathlib.Core.Path.{refl}
use Rattle.std.proofs.lemmas.Result.{err_from_is_err_and}
use Rattle.refusals.specs.Row.{refusal_row}
use Rattle.codes.specs.Codes.{unwritten, packed, writing}
use Rattle.codes.specs.Layout.{laid}
use Rattle.codes.proofs.coded.Coded.write.Goals as goal

pub returns-in_err-code : goal.returns-in_err-code
unfolding writing refusal_row laid unwritten
returns-in_err-code g c =
    let e = err_from_is_err_and c.from_residual.result c.from_residual.ensures.1 in
    rw (e.1, e.2) (c.in_err-code.ensures.leaves _ refl)

pub returns : goal.returns
unfolding laid packed writing refusal_row
returns g c = rw (c.write_bytes.ensures (c.in_ok-code.ensures.long _ refl), c.from_parts.ensures) (c.in_ok-code.ensures.leaves _ refl)
