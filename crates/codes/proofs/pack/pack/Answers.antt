-- `codes::pack::pack` meets its contract: the refusals in their order, and then the code that equals the number.
use mathlib.Core.Path.{sym, ◌∙◌}
use Rattle.codes.proofs.Laws.Entries.{pack_unfit, pack_wrong_length, pack_code}
use Rattle.codes.proofs.pack.pack.Goals as goal

pub returns-then-not-fit : goal.returns-then-not-fit
returns-then-not-fit g c = pack_unfit _ _ _ (sym c.is_working-fit.ensures ∙ c.if-not-fit.true)

pub returns-then-length-room : goal.returns-then-length-room
returns-then-length-room g c =
    rw (← c.FORMAT-room.ensures) (pack_wrong_length _ _ _ (sym c.is_working-fit.ensures ∙ (assumption)) c.if-length-room.true)

pub returns : goal.returns
returns g c =
    let fit = sym c.is_working-fit.ensures ∙ c.if-not-fit.false in
    pack_code _ _ _ fit g.met.F.Layout.formed (rw c.FORMAT-room.ensures at c.if-length-room.false) _ c.equal_code.ensures
