use Rattle.std.proofs.Common.{◌≡◌, List, ℕ, take, length, w8, ap, arith, ◌∙◌}
use Rattle.std.specs.Simd.Lanes.{chunk}
use Rattle.std.proofs.lemmas.List.{take_all}
use Rattle.std.proofs.lemmas.Simd.{chunk-fits, below_from_Fits}
use Rattle.vb_bits.specs.Bits.{bits, count}
use Rattle.vb_count.proofs.LanesLemmas.{ones-words}
use Rattle.vb_count.proofs.ones.Ones.of.Goals as goal

pub returns : goal.returns
returns c =
    let b : List ℕ = c.args.chunk.now in
    let whole : take 64 b ≡ b = take_all 64 b (omega arith) in
    ones-words (chunk 0 64 b) (omega (arith, ap length whole)) (below_from_Fits w8 (chunk 0 64 b)
    (chunk-fits w8 0 64 b c.type_inv.chunk)) ∙ ap (λ l. count (bits l 0 512)) whole
