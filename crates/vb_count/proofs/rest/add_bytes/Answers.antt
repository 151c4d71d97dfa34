use Rattle.std.proofs.Common.{◌-◌, ◌+◌, ◌*◌, ◌/◌, ◌%◌, ℕ, List, true, arith, ◌∙◌}
use Rattle.vb_bits.proofs.BitsLemmas.{count-bits-le}
use Rattle.vb_count.proofs.RestLemmas.{ones_of_byte}
use Rattle.vb_count.proofs.HitsLemmas.{count-hits-bits_split}
use Rattle.vb_count.proofs.rest.add_bytes.Goals as goal

pub returns-then-n-eq0-clause-value : goal.returns-then-n-eq0-clause-value
returns-then-n-eq0-clause-value g c =
    let b : List ℕ = (g.G.Glance.seen c.args.src.now).bytes in
    let n : ℕ = c.args.n in
    let at : ℕ = c.args.at in
    omega (
      arith,
      c.add_four_bytes-four.ensures.value,
      rw c.add_four_bytes-four.ensures.looks.same at c.add_two_bytes-six.ensures.value,
      count-hits-bits_split true b (8 * at) (32 * (n / 4))
          (8 * n) (8 * (at + n / 4 * 4)) (16 * (n % 4 / 2)) (omega arith) (omega arith),
    )

pub returns-else-n-eq0-clause-value : goal.returns-else-n-eq0-clause-value
returns-else-n-eq0-clause-value g c =
    let b : List ℕ = (g.G.Glance.seen c.args.src.now).bytes in
    let n : ℕ = c.args.n in
    let at : ℕ = c.args.at in
    let same1 = c.add_four_bytes-four.ensures.looks.same in
    let same2 = c.add_two_bytes-six.ensures.looks.same ∙ same1 in
    omega (
      arith,
      c.add_four_bytes-four.ensures.value,
      rw same1 at c.add_two_bytes-six.ensures.value,
      ones_of_byte b c.byte.result (at + n - 1) (rw same2 at c.byte.ensures.value) c.byte.type_inv,
      count-hits-bits_split true b (8 * at) (32 * (n / 4)) (8 * (n - 1))
          (8 * (at + n / 4 * 4)) (16 * (n % 4 / 2)) (omega arith) (omega arith),
      count-hits-bits_split true b
          (8 * at) (8 * (n - 1)) (8 * n) (8 * (at + n - 1)) 8 (omega arith) (omega arith),
    )

pub overflow_add-result : goal.overflow_add-result
overflow_add-result g c =
    let b : List ℕ = (g.G.Glance.seen c.args.src.now).bytes in
    let n : ℕ = c.args.n in
    let at : ℕ = c.args.at in
    let same1 = c.add_four_bytes-four.ensures.looks.same in
    let same2 = c.add_two_bytes-six.ensures.looks.same ∙ same1 in
    let last = rw same2 at c.byte.ensures.value in
    record {
      fits = omega (
        arith,
        c.add_four_bytes-four.ensures.value,
        rw same1 at c.add_two_bytes-six.ensures.value,
        ones_of_byte b c.byte.result (at + n - 1) last c.byte.type_inv,
        count-bits-le b (8 * at) (32 * (n / 4)),
        count-bits-le b (8 * (at + n / 4 * 4)) (16 * (n % 4 / 2)),
        count-bits-le b (8 * (at + n - 1)) 8,
      );
    }
