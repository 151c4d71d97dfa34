use Rattle.std.proofs.Common.{◌+◌, ◌*◌, ◌/◌, ◌%◌, ℕ, List, true, ap, arith, ◌∙◌}
use Rattle.vb_bits.specs.Bits.{bits, count}
use Rattle.vb_count.proofs.HitsLemmas.{count-hits-bits_split}
use Rattle.vb_count.proofs.count.add_few.Goals as goal

pub loop-k-preserved : goal.loop-k-preserved
loop-k-preserved g c =
    let b : List ℕ = (g.G.Glance.seen c.args.src.now).bytes in
    let m : ℕ = 1024 * c.loop-k.k in
    let place : ℕ = 8 * (c.args.at + 128 * c.loop-k.k) in
    record {
      value = omega (
        arith,
        c.plus-sum.ensures,
        c.loop-k.invariant.value,
        c.sum_chunks.ensures.value,
        ap (λ x. count (bits x place 1024)) c.loop-k.invariant.looks.same,
        count-hits-bits_split true b
            (8 * c.args.at) m (1024 * (c.loop-k.k + 1)) place 1024 (omega arith) (omega arith),
      );
      looks = record {
        same = c.sum_chunks.ensures.looks.same ∙ c.loop-k.invariant.looks.same;
        looks = omega (arith, c.loop-k.invariant.looks.looks, c.sum_chunks.ensures.looks.looks);
      };
    }

pub returns-clause-value : goal.returns-clause-value
returns-clause-value g c =
    let b : List ℕ = (g.G.Glance.seen c.args.src.now).bytes in
    let m : ℕ = 1024 * c.loop-k.k in
    let place : ℕ = 8 * (c.args.at + c.args.n / 2 * 128) in
    let rest : ℕ = 512 * (c.args.n % 2) in
    omega (
      arith,
      c.total.ensures,
      c.plus.ensures,
      c.loop-k.invariant.value,
      c.sum_chunks-2.ensures.value,
      ap (λ x. count (bits x place rest)) c.loop-k.invariant.looks.same,
      count-hits-bits_split true b
          (8 * c.args.at) m (512 * c.args.n) place rest (omega arith) (omega arith),
    )
