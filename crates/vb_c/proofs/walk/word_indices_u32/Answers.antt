-- Written by tools/write-lists from tools/families/indices.txt.
use Rattle.std.proofs.Common.{◌<◌, arith}
use Rattle.vb_c.proofs.OnesLemmas.{writes_none, writes_one, writes_all, room_for_one}
use Rattle.vb_c.proofs.walk.word_indices_u32.Goals as goal

pub loop-left-init : goal.loop-left-init
loop-left-init c = writes_none c.args.word c.args.len c.args.out.now c.requires.clear

pub loop-left-preserved : goal.loop-left-preserved
loop-left-preserved c =
    let some : 0 < c.loop-left.left = omega (arith, c.loop-left-test.true) in
    writes_one c.args.word c.args.len c.loop-left.left c.args.out.now c.loop-left.out
    c.loop-left.written c.loop-left.invariant some c.requires.few c.requires.room

pub bounds-out-written : goal.bounds-out-written
bounds-out-written c =
    let some : 0 < c.loop-left.left = omega (arith, c.loop-left-test.true) in
    room_for_one c.args.word c.args.len c.loop-left.left c.args.out.now c.loop-left.out
    c.loop-left.written c.loop-left.invariant some c.requires.few c.requires.room

pub returns : goal.returns
returns c =
    writes_all c.args.word c.args.len c.loop-left.left c.args.out.now c.loop-left.out
    c.loop-left.written c.loop-left.invariant (omega (arith, c.loop-left-test.false))
    c.requires.room
