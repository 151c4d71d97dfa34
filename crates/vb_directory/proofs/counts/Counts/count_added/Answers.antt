use Rattle.std.proofs.Common.{◌≡◌, ℕ, Bool, List, ◌+◌, ◌-◌, ◌*◌, ◌<◌, take, length, ap, ◌∙◌, arith}
use Rattle.std.proofs.lemmas.List.{length-take, take-take}
use Rattle.vb_bits.specs.Bits.{bits, count}
use Rattle.vb_bits.proofs.BitsLemmas.{count-le, count-bits-le, count-bits-add, length-bits}
use Rattle.vb_bits.proofs.BitsLemmas.{take-bits}
use Rattle.vb_directory.proofs.counts.Counts.count_added.Goals as goal

pub overflow_add-ones : goal.overflow_add-ones
overflow_add-ones g c =
    let n : ℕ = c.args.bits.len in
    let s : ℕ = c.loop-block.start in
    let l : List Bool = bits c.args.bits.bytes.now c.args.bits.offset n in
    record {
      fits = omega (
        arith,
        c.loop-block.invariant.ones,
        c.loop-block.invariant.start,
        count-le (take s l),
        length-take s l,
        c.count_ones-ones.ensures,
        count-bits-le c.inner.result.now (c.offset.result + s) (512 * c.loop-block.block - s),
        c.loop-block-test.true,
        c.loop-block.auto.block-end,
        c.div_ceil-blocks.ensures,
        c.len.ensures,
        length-bits c.args.bits.bytes.now c.args.bits.offset n,
        c.args.bits.fits,
      );
    }

pub loop-block-preserved : goal.loop-block-preserved
loop-block-preserved g c =
    let inv = c.loop-block.invariant in
    let b : List ℕ = c.args.bits.bytes.now in let o : ℕ = c.args.bits.offset in
    let n : ℕ = c.args.bits.len in let k : ℕ = c.loop-block.block in
    let s : ℕ = c.loop-block.start in
    let l : List Bool = bits b o n in
    let size : length l ≡ n = length-bits b o n in
    let inside : 512 * k < n = omega (
      arith,
      c.loop-block-test.true,
      c.loop-block.auto.block-end,
      c.div_ceil-blocks.ensures,
      c.len.ensures,
      size,
    ) in
    let m : ℕ = 512 * k - s in
    let step : s + m ≡ 512 * k = omega (arith, inv.start) in
    let read : count (bits c.inner.result.now (c.offset.result + s) m)
    ≡ count (bits b (o + s) m) =
    ap (λ x. count (bits x (c.offset.result + s) m)) c.inner.ensures.bytes
    ∙ ap (λ x. count (bits b (x + s) m)) c.offset.ensures.value in
    let ones : c.loop-block.ones + c.count_ones-ones.result ≡ count (take (512 * k) l) = omega (
      arith,
      inv.ones,
      c.count_ones-ones.ensures,
      read,
      ap count (take-bits b o n s (omega (arith, inside, inv.start))),
      ap count (take-bits b o n (512 * k) (omega (arith, inside))),
      count-bits-add b o s m,
      ap (λ x. count (bits b o x)) step,
    ) in
    let long : length (take (512 * k) l) ≡ 512 * k =
    omega (arith, length-take (512 * k) l, size, inside) in
    let more = length-take (512 * (k + 1)) l in
    record {
      start = omega arith;
      ones = ones;
      counts = c.push.ensures.pushed (take (512 * k) l) (take (512 * (k + 1)) l) inv.counts long
          ones (omega (arith, long, inside, c.args.bits.fits))
          (ap (λ x. take x (take (512 * (k + 1)) l)) long
          ∙ take-take (512 * k) (512 * (k + 1)) l (omega arith))
          (omega (arith, long, more, size, inside)) (omega (arith, long, more));
      room = c.push.ensures.room ∙ inv.room;
    }
