-- `report::input::read_blocks` meets its contract. The invariant: the bytes read are whole blocks, all taken.
use mathlib.Core.Path.{◌≡◌, refl}
use Prim.Native.Nat.{◌+◌, ◌*◌, ◌-◌, ◌≤◌}
use native.Mathlib.Omega.{arith}
use lib.ListN.{length}
use Rattle.report.specs.Program.{bytes_read, LeadsTo, Decides}
use Rattle.report.proofs.Laws.Awaited.{awaits_due}
use Rattle.report.proofs.Laws.Read.{AreRead, none_read, after_length, block_read, one_more, block_decides, full_decides, part_size}
use Rattle.report.proofs.input.read_blocks.Goals as goal
use Rattle.report.proofs.input.read_blocks.Goals.{After-after, After-loop-number, Else-size-lt-BLOCK_BYTES, In_ok-size}

-- a block has room behind those that were read, and its bytes are what was read into
room : (c : In_ok-size) → c.loop-number.number * 512 + 512 ≤ length c.loop-number.buffer
room c = omega (arith, c.loop-number.invariant.length_is, c.told-buffer, c.loop-number-test.true)

lent : (c : In_ok-size) → length c.read.new.buffer ≡ 512
lent c = part_size (c.loop-number.number * 512) c.loop-number.buffer c.read.new.buffer (omega (arith, room c)) c.read.auto.buffer

-- what was asked is what it leads to
leads : (c : After-after) → LeadsTo c.loop-number.awaited c.read.new.buffer c.after.result
leads c =
    let read = (goal.at-After-after c).In_ok-size in
    let count = c.loop-number.number * 512 in
    rw (block_read _ _ _ _ c.loop-number.invariant (room read) c.read.new.buffer (lent read) count (count + 512 - count) refl (omega arith)) at c.after.ensures

-- at the end all blocks were read
full : (c : After-loop-number) → AreRead c.args.buffer.now c.loop-number.buffer c.loop-number.awaited 105472
full c =
    let e : c.loop-number.number * 512 ≡ 105472 = omega (arith, c.loop-number-test.false, c.loop-number.auto.number-end) in
    rw e at c.loop-number.invariant

pub loop-number-init : goal.loop-number-init
loop-number-init c = none_read _ _ c.first-awaited.ensures

pub returns-then-size-lt-BLOCK_BYTES-clause-within : goal.returns-then-size-lt-BLOCK_BYTES-clause-within
unfolding bytes_read
returns-then-size-lt-BLOCK_BYTES-clause-within c =
    let read = (goal.at-returns-then-size-lt-BLOCK_BYTES-clause-within c).In_ok-size in
    rw (after_length _ _ _ _ c.loop-number.invariant (room read) _ (lent read)) (omega (arith, c.if-size-lt-BLOCK_BYTES.true, room read))

pub returns-then-size-lt-BLOCK_BYTES-clause-decides : goal.returns-then-size-lt-BLOCK_BYTES-clause-decides
unfolding Decides
returns-then-size-lt-BLOCK_BYTES-clause-decides c = tt

pub after-requires : goal.after-requires
after-requires c = awaits_due _ _ c.loop-number.invariant.awaits

pub returns-in_default-clause-within : goal.returns-in_default-clause-within
unfolding bytes_read
returns-in_default-clause-within c =
    let read = (goal.at-returns-in_default-clause-within c).In_ok-size in
    rw (after_length _ _ _ _ c.loop-number.invariant (room read) _ (lent read)) (room read)

pub returns-in_default-clause-decides : goal.returns-in_default-clause-decides
unfolding Decides
returns-in_default-clause-decides c =
    let read = (goal.at-returns-in_default-clause-decides c).In_ok-size in
    block_decides _ _ _ _ c.loop-number.invariant (room read) _ (lent read) _ _ refl
    (rw c.in_default.is at (leads (goal.at-returns-in_default-clause-decides c).After-after))

pub loop-number-preserved : goal.loop-number-preserved
loop-number-preserved c =
    let read = (goal.at-loop-number-preserved c).In_ok-size in
    one_more _ _ _ _ c.loop-number.invariant (room read) _ (lent read) _ _ (omega arith)
    (rw c.in-Ok.is at (leads (goal.at-loop-number-preserved c).After-after))

pub returns-clause-within : goal.returns-clause-within
unfolding bytes_read
returns-clause-within c = (full (goal.at-returns-clause-within c).After-loop-number).within

pub returns-clause-decides : goal.returns-clause-decides
unfolding Decides
returns-clause-decides c = full_decides _ _ _ (full (goal.at-returns-clause-decides c).After-loop-number)
