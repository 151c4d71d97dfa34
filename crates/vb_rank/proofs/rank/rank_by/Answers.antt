use Rattle.std.proofs.Common.{◌≡◌, ◌-◌, ◌*◌, ◌/◌, ℕ, List, get_or, sym, ap, ◌∙◌, arith}
use Rattle.vb_bits.specs.Bits.{bits, count}
use Rattle.vb_bits.proofs.BitsLemmas.{take-bits}
use Rattle.vb_rank.proofs.TablesLemmas.{at-block_counts-bits}
use Rattle.vb_rank.proofs.rank.rank_by.Goals as goal

pub entry-before-requires : goal.entry-before-requires
entry-before-requires g c = omega (arith, c.requires.size)

pub returns-clause-value : goal.returns-clause-value
returns-clause-value g c = λ e.
    let b : List ℕ = (g.G.Glance.seen c.args.src.now).bytes in
    let o : ℕ = c.args.offset in let n : ℕ = c.args.len in let i : ℕ = c.args.i in
    let j : ℕ = (i - 1) / 512 in
    let before : c.entry-before.result ≡ count (bits b o (512 * j)) =
    c.entry-before.ensures.value ∙ ap (λ t. get_or t j 0) e
    ∙ at-block_counts-bits b o n j (omega (arith, c.requires.within, c.if-i-eq0.false)) in
    c.rank_from.ensures.value before ∙ sym (ap count (take-bits b o n i c.requires.within))
