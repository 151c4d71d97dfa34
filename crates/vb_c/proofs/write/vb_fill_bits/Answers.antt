use Rattle.std.proofs.Common.{◌≡◌, ◌+◌, ◌-◌, ◌%◌, replicate, subst, arith}
use Rattle.std.proofs.lemmas.List.{length-replicate}
use Rattle.vb_bits.specs.Writes.{Writes}
use Rattle.vb_bits.proofs.WritesLemmas.{Writes_none}
use Rattle.vb_c_core.proofs.PartLemmas.{part, Writes_in_part}
use Rattle.vb_c.proofs.write.vb_fill_bits.Goals as goal

pub returns-then-len-gt0 : goal.returns-then-len-gt0
returns-then-len-gt0 c =
    let b = c.args.bytes.now in let o = c.args.offset in let n = c.args.len in
    let e = c.div_ceil.result in
    let same : o % 8 + n - o % 8 ≡ n = omega arith in
    Writes_in_part b c.fill_bits.new.bytes o e n (replicate n c.args.v)
    (length-replicate n c.args.v) c.requires.window c.div_ceil.ensures
    (subst (λ k. Writes (part b o e) c.fill_bits.new.bytes (o % 8) (replicate k c.args.v)) same
    c.fill_bits.ensures)

pub returns-else-len-gt0 : goal.returns-else-len-gt0
returns-else-len-gt0 c =
    Writes_none _ _ _ (omega (arith, c.if-len-gt0.false, length-replicate c.args.len c.args.v))
