-- `codes::parts::parts` meets its contract: the field and the sign are a remainder and a quotient, and the stored bits have room with their leading one.
use Prim.Native.Nat.{◌%◌, ◌^◌}
use native.Mathlib.Nat.{lt_of_lt_of_le, mod-lt}
use lib.Pow.{pow_mono, pow_pos}
use Rattle.codes.specs.Codes.{split}
use Rattle.codes.proofs.Laws.Leading.{leading_room}
use Rattle.codes.proofs.parts.parts.Goals as goal

pub overflow_add-result : goal.overflow_add-result
overflow_add-result g c =
    let formed = g.met.F.Layout.formed in
    let w = g.F.Layout.bits c.args.code in
    let room = (leading_room g.F.Layout.FORMAT formed (c.upper-upper.result % c.FIELDS.result) (w % 2 ^ g.F.Layout.FORMAT.stored) (mod-lt w (pow_pos g.F.Layout.FORMAT.stored))).0 in
    rw (c.stored.ensures, c.leading_one.ensures) (record { fits = lt_of_lt_of_le room (pow_mono formed.word_bits) })

pub returns : goal.returns
unfolding split
returns g c =
    rw (c.stored.ensures, c.leading_one.ensures, c.upper-upper.ensures, c.FIELDS.ensures, c.FIELDS-2.ensures, g.met.F.Layout.fields_are)
