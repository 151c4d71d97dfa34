use Rattle.std.proofs.Common.{◌≡◌, ◌-◌, ◌≤◌, length, take, drop, arith}
use Rattle.std.proofs.Math.Seq.{take-add}
use Rattle.std.proofs.lemmas.List.{take_all, length-drop}
use Rattle.std.proofs.KnownBytes.{Appends-nil, Appends-trans}
use Rattle.vb_script.proofs.sink.write_all.Goals as goal

pub loop-start-init : goal.loop-start-init
loop-start-init g c = record {
  within = omega arith;
  written = Appends-nil _;
}

pub loop-start-preserved : goal.loop-start-preserved
loop-start-preserved g c =
    let l = c.loop-start in
    let n = c.in-Ok.count in
    let bytes = c.args.bytes.now in
    let told = c.in-Ok.ensures in
    let rest = drop l.start bytes in
    let left : length rest ≡ length bytes - l.start = length-drop l.start bytes in
    let all : take (length bytes - l.start) rest ≡ rest = take_all _ rest (omega (arith, left)) in
    let few : n ≤ length rest = rw all at told.bound in
    let more = Appends-trans _ _ _ _ _ l.invariant.written (rw all at told.bytes) in
    record {
      within = omega (arith, few, left, l.invariant.within);
      written = rw (take-add l.start n bytes) more;
    }

pub returns : goal.returns
returns g c =
    let l = c.loop-start in
    let bytes = c.args.bytes.now in
    let past : length bytes ≤ l.start = c.loop-start-test.false in
    rw (take_all l.start bytes past) at l.invariant.written
