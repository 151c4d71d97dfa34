use Rattle.std.proofs.Common.{◌+◌, ◌*◌, ℕ, List, arith, ◌∙◌}
use Rattle.vb_bits.proofs.BitsLemmas.{count-bits-le}
use Rattle.vb_count.proofs.counter.Counter.add.Goals as goal

pub plus-requires : goal.plus-requires
plus-requires g c =
    let b : List ℕ = (g.G.Glance.seen c.args.src.now).bytes in
    let same1 = c.add_four-ones.ensures.looks.same in
    let same2 = c.add_four-ones-2.ensures.looks.same ∙ same1 in
    let same3 = c.add_four-ones-3.ensures.looks.same ∙ same2 in
    omega (
      arith,
      c.self.view_is,
      c.sums.ensures,
      c.full_add-fours.ensures,
      c.full_add-fours-2.ensures,
      c.full_add-eights.ensures,
      c.add_four-ones.ensures.value,
      rw same1 at c.add_four-ones-2.ensures.value,
      rw same2 at c.add_four-ones-3.ensures.value,
      rw same3 at c.add_four-ones-4.ensures.value,
      c.requires.room,
      count-bits-le b (8 * c.args.at) 2048,
      count-bits-le b (8 * (c.args.at + c.args.apart)) 2048,
      count-bits-le b (8 * (c.args.at + 2 * c.args.apart)) 2048,
      count-bits-le b (8 * (c.args.at + 3 * c.args.apart)) 2048,
    )

pub returns-clause-value : goal.returns-clause-value
returns-clause-value g c =
    let same1 = c.add_four-ones.ensures.looks.same in
    let same2 = c.add_four-ones-2.ensures.looks.same ∙ same1 in
    let same3 = c.add_four-ones-3.ensures.looks.same ∙ same2 in
    omega (
      arith,
      c.self.view_is,
      c.plus.ensures,
      c.sums.ensures,
      c.full_add-fours.ensures,
      c.full_add-fours-2.ensures,
      c.full_add-eights.ensures,
      c.add_four-ones.ensures.value,
      rw same1 at c.add_four-ones-2.ensures.value,
      rw same2 at c.add_four-ones-3.ensures.value,
      rw same3 at c.add_four-ones-4.ensures.value,
    )
