use Rattle.std.proofs.Common.{◌≡◌, ℕ, Bool, List, ◌-◌, ◌*◌, ◌/◌, ◌<◌, refl, sym, ap, ◌∙◌, arith}
use Rattle.vb_bits.specs.Bits.{bits, count}
use Rattle.vb_bits.proofs.BitsLemmas.{length-bits, take-bits}
use Rattle.vb_directory.specs.Counts.{numbers_for}
use Rattle.vb_directory.proofs.groups.rank_in_groups.Goals as goal

pub ones_before-before-requires-clause-size : goal.ones_before-before-requires-clause-size
ones_before-before-requires-clause-size g c = c.requires.counts.long ∙ ap numbers_for
    (length-bits (g.G.Glance.seen c.args.src.now).bytes c.args.offset c.args.len)

-- a single block has no bits before it
pub returns-then-len-le-BLOCK_BITS-clause-value : goal.returns-then-len-le-BLOCK_BITS-clause-value
unfolding bits
returns-then-len-le-BLOCK_BITS-clause-value g c =
    let b : List ℕ = (g.G.Glance.seen c.args.src.now).bytes in
    c.rank_from.ensures.value refl
    ∙ sym (ap count (take-bits b c.args.offset c.args.len c.args.i c.requires.within))

pub returns-clause-value : goal.returns-clause-value
returns-clause-value g c =
    let b : List ℕ = (g.G.Glance.seen c.args.src.now).bytes in
    let o : ℕ = c.args.offset in let n : ℕ = c.args.len in let i : ℕ = c.args.i in
    let l : List Bool = bits b o n in
    let j : ℕ = (i - 1) / 512 in
    let begins : 512 * j < n = omega (arith, c.requires.within, c.requires.some) in
    let before : c.ones_before-before.result ≡ count (bits b o (512 * j)) =
    c.ones_before-before.ensures.value l c.requires.counts (length-bits b o n)
    ∙ ap count (take-bits b o n (512 * j) (omega (arith, begins))) in
    c.rank_from-2.ensures.value before ∙ sym (ap count (take-bits b o n i c.requires.within))
