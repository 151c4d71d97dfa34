use Rattle.std.proofs.Common.{◌≡◌, ℕ, ◌<◌, List, length, ap, sym, subst, ◌∙◌, arith}
use Rattle.std.specs.List.{All}
use Rattle.vb_bits.specs.Bits.{bits, places}
use Rattle.vb_bits.proofs.BitsLemmas.{length-bits}
use Rattle.vb_bits.proofs.PlacesLemmas.{length-places, places_few, places_below}
use Rattle.vb_walk.proofs.WalkLemmas.{places_left_front}
use Rattle.vb_walk.proofs.index.BitIndexIterator.new.Goals as goal

pub returns : goal.returns
returns c =
    let l = bits c.args.bytes.now c.args.offset c.args.len in
    let all = places_left_front c.args.bytes.now c.new.result c.args.offset
    c.args.len c.new.ensures.base c.new.ensures.stop c.new.ensures.bits in
    let len : length l ≡ c.args.len = length-bits c.args.bytes.now c.args.offset c.args.len in
    let Below : List ℕ → ℕ → Type 0 = λ ps n. All (λ i. i < n) ps in
    record {
      value = all;
      below = subst (λ ps. Below ps c.args.len)
          (sym all) (subst (Below (places l)) len (places_below l));
      count = ap length all ∙ length-places l;
      few = omega (arith, ap length all, places_few l);
    }
