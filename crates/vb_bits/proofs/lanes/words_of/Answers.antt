use Rattle.std.proofs.Common.{◌≡◌, ℕ, List, take, w8, ◌^◌, ap, sym, ◌∙◌, arith, zero-add}
use Rattle.std.specs.Simd.Lanes.{chunk, number_l, digits_l}
use Rattle.std.proofs.lemmas.List.{take_all}
use Rattle.std.proofs.lemmas.Simd.{chunk-fits, below_from_Fits}
use Rattle.vb_bits.specs.Bits.{bit_of, bits}
use Rattle.vb_bits.proofs.LanesLemmas.{lane_bits-bits, lane_bit_of_bytes, parts_below}
use Rattle.vb_bits.proofs.lanes.words_of.Goals as goal

pub returns-clause-digits : goal.returns-clause-digits
returns-clause-digits c =
    let b : List ℕ = c.args.bytes.now in
    let xs : List ℕ = chunk 0 32 b in
    let whole : take 32 b ≡ b = take_all 32 b (omega arith) in
    let small = below_from_Fits w8 xs (chunk-fits w8 0 32 b c.type_inv.bytes) in
    lane_bits-bits (digits_l (2 ^ 64) 4 (number_l 256 xs)) xs 0
    (λ i h. lane_bit_of_bytes xs i small h ∙ ap (bit_of xs) (sym (zero-add i)))
    ∙ ap (λ l. bits l 0 256) whole

pub returns-clause-words : goal.returns-clause-words
returns-clause-words c = parts_below 64 4 (number_l 256 (chunk 0 32 c.args.bytes.now))
