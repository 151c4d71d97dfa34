use Rattle.std.proofs.Common.{arith}
use Rattle.vb_bits.proofs.BitsLemmas.{count-bits-le}
use Rattle.vb_count.proofs.HitsLemmas.{count-hits-bits_true, count-hits-bits_false}
use Rattle.vb_select.proofs.chunk.ArrayU864Searchable.count.Goals as goal

pub overflow_sub-result : goal.overflow_sub-result
overflow_sub-result c = omega (arith, c.chunk_ones-ones.ensures, count-bits-le c.args.self 0 512)

pub returns-then-value : goal.returns-then-value
returns-then-value c = omega (
  arith,
  c.chunk_ones-ones.ensures,
  count-hits-bits_true c.args.value c.args.self 0 512 c.if-value.true,
)

pub returns-else-value : goal.returns-else-value
returns-else-value c = omega (
  arith,
  c.chunk_ones-ones.ensures,
  count-hits-bits_false c.args.value c.args.self 0 512 c.if-value.false,
)
