use Rattle.std.proofs.Common.{ℕ, ◌≡◌, ◌+◌, ◌-◌, ◌*◌, ◌/◌, ◌%◌, Bool, List, ◌++◌, length, take, drop}
use Rattle.std.proofs.Common.{subst, arith}
use Rattle.std.proofs.lemmas.List.{length-take-le}
use Rattle.vb_bits.specs.Writes.{Writes}
use Rattle.vb_bits.proofs.WritesLemmas.{Writes-add}
use Rattle.vb_compare.proofs.TruthLemmas.{with_rest, length_begun}
use Rattle.vb_compare.proofs.write.write_many.Goals as goal

pub returns : goal.returns
returns g c =
    let l : List Bool = g.S.Truths.truths c.args.source.now in
    let o : ℕ = c.args.offset in let n : ℕ = c.len-len.result in
    let h : ℕ = (8 - o % 8) % 8 in let q : ℕ = 64 * ((n - h) / 64) in
    let r : ℕ = (n - h) % 64 in
    let len : n ≡ length l = c.len-len.ensures in
    let a = c.args.out.now in let b = c.write_head.new.out in
    let d = c.write_words.new.out in let e = c.write_rest.new.out in
    let front : length (take h l) ≡ h = length-take-le h l (omega arith) in
    let before = Writes-add a b d o (o + h) (take h l) (take q (drop h l)) (omega arith)
    c.write_head.ensures c.write_words.ensures in
    let long = length_begun l h q (omega arith) in
    subst (Writes a e o) (with_rest l h q r (omega arith))
    (Writes-add a d e o (o + (length l - r)) (take h l ++ take q (drop h l))
    (drop (length l - r) l) (omega (arith, long)) before c.write_rest.ensures)
