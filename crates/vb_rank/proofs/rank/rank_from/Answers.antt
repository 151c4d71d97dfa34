use Rattle.std.proofs.Common.{◌≡◌, ◌+◌, ◌-◌, ◌*◌, ℕ, List, ap, arith}
use Rattle.vb_bits.specs.Bits.{bits, count}
use Rattle.vb_bits.proofs.BitsLemmas.{count-bits-add, count-bits-le}
use Rattle.vb_rank.proofs.rank.rank_from.Goals as goal

pub returns-clause-value : goal.returns-clause-value
returns-clause-value g c = λ before.
    let b : List ℕ = (g.G.Glance.seen c.args.src.now).bytes in
    let o : ℕ = c.args.offset in let i : ℕ = c.args.i in let start : ℕ = 512 * c.args.block in
    let whole : start + (i - start) ≡ i = omega (arith, c.requires.begins) in
    omega (
      arith,
      before,
      c.count_in_block.ensures.value,
      count-bits-add b o start (i - start),
      ap (λ x. count (bits b o x)) whole,
      count-bits-le b o i,
      c.requires.window.fits,
    )
