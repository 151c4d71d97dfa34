use Rattle.std.proofs.Common.{◌+◌, ◌*◌, ℕ, List, true, refl, arith, ◌∙◌}
use Rattle.vb_count.proofs.HitsLemmas.{count-hits-bits_split}
use Rattle.vb_count.proofs.counter.add_four.Goals as goal

pub returns-clause-value : goal.returns-clause-value
returns-clause-value g c =
    let b : List ℕ = (g.G.Glance.seen c.args.src.now).bytes in let at : ℕ = c.args.at in
    let same1 = c.ones_at-first.ensures.look.same in
    let same2 = c.ones_at-second.ensures.look.same ∙ same1 in
    let same3 = c.ones_at-third.ensures.look.same ∙ same2 in
    omega (
      arith,
      c.full_add-ones.ensures,
      c.full_add-ones-2.ensures,
      c.full_add-twos.ensures,
      c.ones_at-first.ensures.value,
      rw same1 at c.ones_at-second.ensures.value,
      rw same2 at c.ones_at-third.ensures.value,
      rw same3 at c.ones_at-fourth.ensures.value,
      count-hits-bits_split true b (8 * at) 512 1024 (8 * (at + 64)) 512 (omega arith) refl,
      count-hits-bits_split true b (8 * at) 1024 1536 (8 * (at + 128)) 512 (omega arith) refl,
      count-hits-bits_split true b (8 * at) 1536 2048 (8 * (at + 192)) 512 (omega arith) refl,
    )
