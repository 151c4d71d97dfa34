use Rattle.std.proofs.Common.{◌≡◌, ◌+◌, ◌-◌, ◌++◌, take, drop, ap, ◌∙◌, arith, rules}
use Rattle.std.specs.List.{flat_map}
use Rattle.std.proofs.Math.Seq.{take-add}
use Rattle.std.proofs.lemmas.Grind.{flat_map-append}
use Rattle.vb_command.specs.Printed.{digit_of}
use Rattle.std.proofs.KnownBytes.{Appends-trans}
use Rattle.vb_script.proofs.outbox.OutboxPrinter.put_digits.Goals as goal

pub loop-start-preserved : goal.loop-start-preserved
loop-start-preserved g c =
    let l = c.loop-start in
    let n = c.min.result in
    let bits = c.args.bits.now in
    let text : flat_map digit_of (take (l.start + n) bits) ≡ flat_map digit_of
    (take l.start bits) ++ flat_map digit_of (take n (drop l.start bits)) =
    ap (flat_map digit_of) (take-add l.start n bits) ∙ flat_map-append digit_of (take l.start bits)
    (take n (drop l.start bits)) in
    let size : l.start + n - l.start ≡ n = omega arith in
    record {
      within = omega arith;
      told = rw text (Appends-trans _ _ _ _ _ l.invariant.told
          (rw size at c.in_ok-put_block.ensures.told));
      writes = search rules;
    }
