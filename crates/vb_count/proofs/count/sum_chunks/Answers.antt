use Rattle.std.proofs.Common.{◌+◌, ◌*◌, ℕ, List, true, arith, ◌∙◌}
use Rattle.vb_bits.proofs.BytesLemmas.{bits_of_read}
use Rattle.vb_count.proofs.HitsLemmas.{count_unit_more}
use Rattle.vb_count.proofs.count.sum_chunks.Goals as goal

pub loop-k-preserved : goal.loop-k-preserved
loop-k-preserved g c =
    let b : List ℕ = (g.G.Glance.seen c.args.src.now).bytes in
    let o : ℕ = 8 * c.args.at in
    let m : ℕ = 512 * c.loop-k.k in
    let one = bits_of_read b
    (g.G.Glance.seen c.loop-k.src).bytes c.chunk.result (c.args.at + 64 * c.loop-k.k) 64
    (o + m) c.loop-k.invariant.looks.same c.chunk.ensures.value (omega arith) in
    record {
      value = omega (
        arith,
        c.loop-k.invariant.value,
        c.add-sum.ensures,
        count_unit_more true b c.chunk.result o m (512 * (c.loop-k.k + 1)) 64 (omega arith) one,
      );
      looks = record {
        same = c.chunk.ensures.look.same ∙ c.loop-k.invariant.looks.same;
        looks = omega (arith, c.loop-k.invariant.looks.looks, c.chunk.ensures.look.looks);
      };
    }
