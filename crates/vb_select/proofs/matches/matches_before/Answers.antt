use Rattle.std.proofs.Common.{ℕ, ◌-◌, ◌*◌, ◌%◌, ◌^◌, sym, subst, arith}
use Rattle.vb_bits.proofs.ReadLemmas.{digits_of_word}
use Rattle.vb_select.specs.Matches.{ShowsBefore}
use Rattle.vb_select.proofs.NearestLemmas.{ShowsBefore-shifted}
use Rattle.vb_select.proofs.matches.matches_before.Goals as goal

pub returns : goal.returns
returns c =
    let b = c.args.bytes.now in let v = c.args.value in let e : ℕ = c.args.end in
    let f : ℕ = c.div_ceil.result - 8 in let t : ℕ = (8 - e % 8) % 8 in
    subst (λ w. ShowsBefore v b e t (w * 2 ^ t % 2 ^ 64)) (sym c.others.ensures)
    (ShowsBefore-shifted v b e f t c.word_at.result
    (digits_of_word b c.word_at.result f c.word_at.ensures) c.word_at.type_inv
    (omega (arith, c.div_ceil.ensures, c.requires.eight)) (omega arith))
