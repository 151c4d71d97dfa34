use Rattle.std.proofs.Common.{ℕ, ◌≡◌, ◌+◌, ◌<◌, Bool, List, map, Option, Some, sym}
use Rattle.std.proofs.Common.{◌∙◌, arith}
use mir.Val.{bool_byte}
use Rattle.std.specs.Option.{option_map}
use Rattle.vb_bits.proofs.PackedLemmas.{packed_below}
use Rattle.vb_view.specs.View.{bits_of}
use Rattle.vb_take.specs.Takes.{taken_at}
use Rattle.vb_take.proofs.TakesLemmas.{taken_here, TakenTo-digit}
use Rattle.vb_take.proofs.take.take_few.Goals as goal

pub loop-k-preserved : goal.loop-k-preserved
loop-k-preserved g c =
    let f = g.I.BitIndex.number in
    let l : List Bool = bits_of c.args.bits in
    let xs = c.args.indices.now in
    let v : Option (List Bool) = option_map bits_of c.args.validity in
    let k : ℕ = c.loop-k.k in
    let i : ℕ = c.args.at + k in
    let b : Bool = c.in-Some.value in
    let within : k < 64 = omega (arith, c.requires.few) in
    let byte : c.from.result ≡ bool_byte b = c.from.ensures in
    let here : taken_at l (map f xs) v i ≡ Some b =
    taken_here f l xs v i c.index-indices-at.result (Some b) c.digit.result
    (omega (arith, c.requires.inside)) c.index-indices-at.is
    (c.digit.ensures ∙ c.valid_word-valid.ensures k (omega arith))
    (sym c.in-Some.is ∙ c.taken_value.ensures) in
    record {
      taken = rw byte (TakenTo-digit k c.loop-k.word (λ k. taken_at l (map f xs) v (c.args.at + k))
          b within c.loop-k.invariant.clear c.loop-k.invariant.taken here);
      clear = rw byte (packed_below c.loop-k.word k b within c.loop-k.invariant.clear);
    }
