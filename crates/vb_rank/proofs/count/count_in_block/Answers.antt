use Rattle.std.proofs.Common.{◌≡◌, ℕ, List, ◌*◌, ◌+◌, ◌-◌, ◌/◌, ◌%◌, ◌≤◌, min}
use Rattle.std.proofs.Common.{take, refl, ap, sym, ◌∙◌}
use Rattle.std.proofs.Common.{arith}
use Rattle.std.specs.Prelude.{slice_range}
use Rattle.vb_bits.specs.Bits.{bits, count}
use Rattle.vb_bits.proofs.BitsLemmas.{count-bits-add, take-bits}
use Rattle.vb_bits.proofs.BytesLemmas.{bits_of_read}
use Rattle.vb_rank.proofs.count.count_in_block.Goals as goal

-- the first bits of a chunk are those of the bytes from its first byte on
front : (b xs : List ℕ) (a k : ℕ)
    → xs ≡ slice_range b a (a + 64) → k ≤ 512 → bits xs 0 k ≡ bits b (8 * a) k
front b xs a k read h = sym (take-bits xs 0 512 k h)
    ∙ ap (take k) (bits_of_read b b xs a 64 (8 * a) refl read refl) ∙ take-bits b (8 * a) 512 k h

-- the set bits of a window in a chunk, plus those before it in its first byte
window : (b xs : List ℕ) (o n : ℕ) → xs ≡ slice_range b (o / 8) (o / 8 + 64) → o % 8 + n ≤ 512
    → count (bits xs 0 (o % 8 + n)) ≡ count (bits xs 0 (o % 8)) + count (bits b o n)
window b xs o n read h =
    let place : 8 * (o / 8) + o % 8 ≡ o = omega arith in
    let whole = ap count (front b xs (o / 8) (o % 8 + n) read h)
    ∙ count-bits-add b (8 * (o / 8)) (o % 8) n in
    omega (
      arith,
      whole,
      ap count (front b xs (o / 8) (o % 8) read (omega (arith, h))),
      ap (λ x. count (bits b x n)) place,
    )

-- the bits before the window are in the first word
before : (xs : List ℕ) (o : ℕ)
    → count (bits xs (64 * 0) (min (o % 8 - 64 * 0) 64)) ≡ count (bits xs 0 (o % 8))
before xs o =
    let all : min (o % 8 - 64 * 0) 64 ≡ o % 8 = omega arith in
    ap (λ k. count (bits xs 0 k)) all

pub overflow_sub-result : goal.overflow_sub-result
overflow_sub-result g c =
    let parts = window (g.G.Glance.seen c.args.src.now).bytes c.chunk-chunk.result c.args.at
    c.args.len c.chunk-chunk.ensures.value (omega (arith, c.if-skip-len-gt512.false)) in
    omega (
      arith,
      parts,
      c.front_ones.ensures,
      c.front_ones_of_word.ensures,
      before c.chunk-chunk.result c.args.at,
    )

pub returns-clause-value : goal.returns-clause-value
returns-clause-value g c =
    let parts = window (g.G.Glance.seen c.args.src.now).bytes c.chunk-chunk.result c.args.at
    c.args.len c.chunk-chunk.ensures.value (omega (arith, c.if-skip-len-gt512.false)) in
    omega (
      arith,
      parts,
      c.front_ones.ensures,
      c.front_ones_of_word.ensures,
      before c.chunk-chunk.result c.args.at,
    )
