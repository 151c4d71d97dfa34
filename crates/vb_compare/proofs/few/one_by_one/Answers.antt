use Rattle.std.proofs.Common.{arith, ◌≡◌, ℕ, ◌<◌, Bool, List, [], ◌∷◌, ◌++◌, length, take}
use Rattle.std.proofs.Common.{drop, get_or}
use Rattle.std.proofs.Common.{sym, ap, ◌∙◌, lit<, false}
use mir.Val.{bool_byte}
use Rattle.std.proofs.lemmas.List.{length-drop, get_or-drop, take_more}
use Rattle.vb_bits.proofs.DigitsLemmas.{digits_none}
use Rattle.vb_bits.proofs.PackedLemmas.{digits_packed, packed_below}
use Rattle.vb_compare.proofs.few.one_by_one.Goals as goal

pub loop-k-init : goal.loop-k-init
loop-k-init g c = record { digits = digits_none 0 0; clear = lit< tt }

pub loop-k-preserved : goal.loop-k-preserved
loop-k-preserved g c =
    let k : ℕ = c.loop-k.k in let all : List Bool = g.S.Truths.truths c.args.source.now in
    let l : List Bool = drop c.args.from all in let b : Bool = c.one.result in
    let inv = c.loop-k.invariant in
    let within : k < 64 = omega arith in
    let inside : k < length l = omega (arith, length-drop c.args.from all) in
    let byte : c.from.result ≡ bool_byte b = c.from.ensures in
    let told : get_or l k false ≡ b = get_or-drop c.args.from all k false ∙ sym c.one.ensures in
    record {
      digits = rw byte (digits_packed c.loop-k.word k b within inv.clear
          ∙ ap (λ x. x ++ b ∷ []) inv.digits ∙ ap (λ x. take k l ++ x ∷ []) (sym told)
          ∙ sym (take_more l k false inside));
      clear = rw byte (packed_below c.loop-k.word k b within inv.clear);
    }
