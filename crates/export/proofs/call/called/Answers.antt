-- `export::call::called` meets its contract: a number is put into the bytes and its accuracy beside them, and a refusal leaves both alone.
use Rattle.std.proofs.Common.{sym, ap, ◌∙◌}
use mir.Facts.{to_z-of_z}
use Rattle.numbers.specs.Accuracy.{marked_answer}
use Rattle.export.specs.Calls.{left_by}
use Rattle.export.proofs.Laws.Calls.{carried, carried_call, operands_room}
use Rattle.export.proofs.call.called.Goals as goal

pub write-requires : goal.write-requires
write-requires g c = operands_room _ _ _ _ _ (sym c.operands_in.ensures ∙ c.in-Ok.is)

pub returns-in-Err : goal.returns-in-Err
unfolding carried
returns-in-Err g c = λ gives law.
    let operands = sym c.operands_in.ensures ∙ c.in-Err.is in
    let left = rw operands at (carried_call gives c.args.a.now c.args.b.now c.args.res.now c.args.accuracy.now) in
    rw c.code.ensures left

pub returns-in-Ok-operation : goal.returns-in-Ok-operation
unfolding carried left_by marked_answer
returns-in-Ok-operation g c = λ gives law.
    let answer = sym (law _ _ _ c.operation.ensures) ∙ ap marked_answer c.in-Ok-operation.is in
    let operands = sym c.operands_in.ensures ∙ c.in-Ok.is in
    let left = rw operands at (carried_call gives c.args.a.now c.args.b.now c.args.res.now c.args.accuracy.now) in
    rw (c.write.ensures, to_z-of_z (record { sfits = c.ternary_of.type_inv }), c.ternary_of.ensures) (rw answer at left)

pub returns : goal.returns
unfolding carried left_by marked_answer
returns g c = λ gives law.
    let answer = sym (law _ _ _ c.operation.ensures) ∙ ap marked_answer c.in-Err-operation.is in
    let operands = sym c.operands_in.ensures ∙ c.in-Ok.is in
    let left = rw operands at (carried_call gives c.args.a.now c.args.b.now c.args.res.now c.args.accuracy.now) in
    rw c.row.ensures (rw answer at left)
