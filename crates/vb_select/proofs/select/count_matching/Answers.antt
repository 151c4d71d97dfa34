use Rattle.std.proofs.Common.{◌*◌, arith}
use Rattle.vb_count.proofs.HitsLemmas.{count-hits-bits_true, count-hits-bits_false}
use Rattle.vb_select.proofs.select.count_matching.Goals as goal

pub returns-then-value-clause-value : goal.returns-then-value-clause-value
returns-then-value-clause-value g c =
    omega (
      arith,
      c.add_chunks-ones.ensures.value,
      count-hits-bits_true c.args.value
          (g.G.Glance.seen c.args.src.now).bytes (8 * c.args.at) (512 * c.args.n) c.if-value.true,
    )

pub returns-else-value-clause-value : goal.returns-else-value-clause-value
returns-else-value-clause-value g c =
    omega (
      arith,
      c.add_chunks-ones.ensures.value,
      count-hits-bits_false c.args.value
          (g.G.Glance.seen c.args.src.now).bytes (8 * c.args.at) (512 * c.args.n) c.if-value.false,
    )
