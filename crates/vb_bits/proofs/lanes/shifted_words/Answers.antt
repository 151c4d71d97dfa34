use Rattle.std.proofs.Common.{ℕ, List, ◌-◌, ◌*◌, ◌/◌, ◌%◌, ◌^◌, replicate, ◌∙◌, arith}
use Rattle.std.proofs.lemmas.Simd.{length-zip2}
use Rattle.std.specs.Simd.Lanes.{zip2}
use Rattle.std.specs.Prelude.{bit_or}
use Rattle.vb_bits.proofs.LanesLemmas.{lane_bits-overlapped}
use Rattle.vb_bits.proofs.lanes.shifted_words.Goals as goal

pub returns-clause-len : goal.returns-clause-len
returns-clause-len c =
    let first = c.words_at in let second = c.words_at-2 in let s = c.args.shift in
    let low : List ℕ = zip2 (λ x k. x / 2 ^ k) first.result (replicate 4 s) in
    let high : List ℕ = zip2 (λ x k. x * 2 ^ k % 2 ^ 64) second.result (replicate 4 (8 - s)) in
    let len_low = length-zip2 (λ x k. x / 2 ^ k) first.result (replicate 4 s) first.ensures.len
    ∙ first.ensures.len in
    let len_high =
    length-zip2 (λ x k. x * 2 ^ k % 2 ^ 64) second.result (replicate 4 (8 - s)) second.ensures.len
    ∙ second.ensures.len in
    length-zip2 bit_or low high (omega (arith, len_low, len_high)) ∙ len_low

pub returns-clause-digits : goal.returns-clause-digits
returns-clause-digits c =
    let first = c.words_at in let second = c.words_at-2 in
    lane_bits-overlapped first.result second.result c.args.bytes.now c.args.first c.args.shift
    first.ensures.len second.ensures.len first.ensures.words first.ensures.digits
    second.ensures.digits c.requires.in_byte
