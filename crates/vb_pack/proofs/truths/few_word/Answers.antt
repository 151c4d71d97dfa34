use Rattle.std.proofs.Common.{arith, ◌≡◌, ℕ, ◌<◌, [], ◌∷◌, ◌++◌, length, map, take, get_or}
use Rattle.std.proofs.Common.{sym, ap, ◌∙◌, lit<, false}
use mir.Val.{bool_byte}
use Rattle.std.proofs.lemmas.List.{length-map, get_or-map, take_more}
use Rattle.vb_bits.proofs.DigitsLemmas.{digits_none}
use Rattle.vb_bits.proofs.PackedLemmas.{digits_packed, packed_below}
use Rattle.vb_pack.proofs.truths.few_word.Goals as goal

pub loop-i-init : goal.loop-i-init
loop-i-init g c = record { digits = digits_none 0 0; clear = lit< tt }

pub loop-i-preserved : goal.loop-i-preserved
loop-i-preserved g c =
    let i : ℕ = c.loop-i.i in let l = c.args.values.now in
    let m = map g.T.Truth.truth l in
    let b = c.is_true.result in
    let inv = c.loop-i.invariant in
    let within : i < 64 = omega arith in
    let inside : i < length m = omega (arith, length-map l g.T.Truth.truth) in
    let byte : c.from.result ≡ bool_byte b = c.from.ensures in
    let told : get_or m i false ≡ b =
    get_or-map g.T.Truth.truth l i c.index-values-i.result false c.loop-i-test.true
    ∙ ap g.T.Truth.truth (sym c.index-values-i.is) ∙ sym c.is_true.ensures in
    record {
      digits = rw byte (digits_packed c.loop-i.packed i b within inv.clear
          ∙ ap (λ x. x ++ b ∷ []) inv.digits ∙ ap (λ x. take i m ++ x ∷ []) (sym told)
          ∙ sym (take_more m i false inside));
      clear = rw byte (packed_below c.loop-i.packed i b within inv.clear);
    }
