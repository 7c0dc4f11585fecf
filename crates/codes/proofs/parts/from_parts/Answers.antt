-- `codes::parts::from_parts` meets its contract: the sign and the field have room above the stored bits.
use mathlib.Core.Path.{◌∙◌}
use Rattle.codes.specs.Codes.{join}
use Rattle.codes.proofs.Laws.Leading.{sign_bit_read, upper_below}
use Rattle.codes.proofs.parts.from_parts.Goals as goal

pub returns : goal.returns
unfolding join
returns g c =
    let sign = c.from.ensures ∙ sign_bit_read c.args.code.negative in
    let bits = c.from_upper.ensures (rw (c.FIELDS.ensures, g.met.F.Layout.fields_are) (upper_below _ _ _ c.requires sign)) in
    rw (bits, sign, c.FIELDS.ensures, g.met.F.Layout.fields_are)
