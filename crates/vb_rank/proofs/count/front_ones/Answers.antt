use Rattle.std.proofs.Common.{◌≡◌, ℕ, zero, suc, List, ◌-◌, ◌*◌, ◌+◌, ◌<◌, min, ap, sym, ◌∙◌, arith}
use Rattle.std.proofs.Common.{zero-add}
use Rattle.vb_bits.specs.Bits.{bits, count}
use Rattle.vb_bits.proofs.BitsLemmas.{count-bits_none, count-bits-add, count-bits-le}
use Rattle.vb_rank.proofs.count.front_ones.Goals as goal

-- the count of a front is that of a shorter front and of the part after it, which may be empty
front-more : (b : List ℕ) (m d z p : ℕ)
    → z ≡ m + d → (0 < d → p ≡ m) → count (bits b 0 z) ≡ count (bits b 0 m) + count (bits b p d)
front-more b m zero z p e here =
    let same : z ≡ m = omega (arith, e) in
    omega (arith, ap (λ x. count (bits b 0 x)) same, count-bits_none b p)
front-more b m (suc d) z p e here =
    let after : p ≡ 0 + m = here (omega arith) ∙ sym (zero-add m) in
    ap (λ x. count (bits b 0 x)) e ∙ count-bits-add b 0 m (suc d)
    ∙ sym (ap (λ x. count (bits b 0 m) + count (bits b x (suc d))) after)

pub loop-word-init : goal.loop-word-init
loop-word-init c =
    let none : min c.args.n (64 * 0) ≡ 0 = omega arith in
    sym (ap (λ x. count (bits c.args.chunk.now 0 x)) none ∙ count-bits_none c.args.chunk.now 0)

pub overflow_add-ones : goal.overflow_add-ones
overflow_add-ones c =
    let b : List ℕ = c.args.chunk.now in
    let k : ℕ = c.loop-word.word in let n : ℕ = c.args.n in
    record {
      fits = omega (
        arith,
        c.loop-word.invariant,
        count-bits-le b 0 (min n (64 * k)),
        c.front_ones_of_word-ones.ensures,
        count-bits-le b (64 * k) (min (n - 64 * k) 64),
      );
    }

pub loop-word-preserved : goal.loop-word-preserved
loop-word-preserved c =
    let b : List ℕ = c.args.chunk.now in let k : ℕ = c.loop-word.word in let n : ℕ = c.args.n in
    let more = front-more b (min n (64 * k)) (min (n - 64 * k) 64)
    (min n (64 * (k + 1))) (64 * k) (omega arith) (λ some. omega (arith, some)) in
    omega (arith, more, c.loop-word.invariant, c.front_ones_of_word-ones.ensures)
