use Rattle.std.proofs.Common.{◌≡◌, ℕ, ◌+◌, ◌-◌, ◌*◌, ◌<◌, Bool, List, [], ◌∷◌, ◌++◌, length, take}
use Rattle.std.proofs.Common.{drop, get_or, min, sym, ap, ◌∙◌, arith}
use Rattle.std.proofs.Math.Seq.{take-length}
use Rattle.std.proofs.lemmas.List.{take_more, length-set, length-take, drop_all, append-nil}
use Rattle.vb_bits.proofs.BitsLemmas.{length-bits, count-le, count-take-le}
use Rattle.vb_bits.proofs.WindowLemmas.{bits-part}
use Rattle.vb_bits.specs.Bits.{bits, count}
use Rattle.vb_rank.specs.Tables.{block_counts, blocks}
use Rattle.vb_rank.proofs.TablesLemmas.{length-block_counts, length-block_counts-bits}
use Rattle.vb_rank.proofs.TablesLemmas.{at-block_counts}
use Rattle.vb_rank.proofs.EditsLemmas.{count-take_block}
use Rattle.vb_bits.proofs.FillsLemmas.{set_next}
use Rattle.vb_rank.proofs.table.write_block_counts.Goals as goal

-- the counts of the fronts before and after a block, by the bits of the block
block_more : (b : List ℕ) (o n k m : ℕ) → k < blocks n → m ≡ min (n - 512 * k) 512
    → count (take (512 * (k + 1)) (bits b o n))
    ≡ count (take (512 * k) (bits b o n)) + count (bits b (o + 512 * k) m)
block_more b o n k m inside cut =
    let size : length (bits b o n) ≡ n = length-bits b o n in
    let long : m ≡ 512 * k + m - 512 * k = omega arith in
    let part = ap (bits b (o + 512 * k)) long ∙ bits-part b o n (512 * k) (512 * k + m)
    (omega arith) (omega (arith, cut, inside)) in
    let counted = count-take_block (bits b o n) k (512 * k + m) (omega (arith, inside, size))
    (omega (arith, cut, size)) in
    omega (arith, counted, ap count part)

pub loop-block-preserved : goal.loop-block-preserved
loop-block-preserved c =
    let b : List ℕ = c.args.bytes.now in
    let l : List Bool = bits b c.args.offset c.args.len in
    let k : ℕ = c.loop-block.block in
    let m : ℕ = c.min.result in
    let t : List ℕ = block_counts l in
    let old : List ℕ = c.args.table.now in
    let size : length l ≡ c.args.len = length-bits b c.args.offset c.args.len in
    let inside : k < blocks (length l) =
    omega (arith, size, c.loop-block-test.true, c.min-written.ensures, c.div_ceil.ensures) in
    let room : k < length old = omega (arith, c.loop-block-test.true, c.min-written.ensures) in
    let front : k ≡ length (take k t) =
    omega (arith, inside, length-take k t, length-block_counts l) in
    let next : get_or t k 0 ≡ c.loop-block.before =
    at-block_counts l k inside ∙ sym c.loop-block.invariant.before in
    let more = take_more t k 0 (omega (arith, inside, length-block_counts l)) in
    let counted = block_more b c.args.offset c.args.len k m
    (omega (arith, inside, size)) c.min.ensures in
    record {
      len = length-set c.loop-block.table k _ ∙ c.loop-block.invariant.len;
      items = set_next (take k t) old c.loop-block.table c.loop-block.before k front room
          c.loop-block.invariant.items
          ∙ ap (λ v. (take k t ++ v ∷ []) ++ drop (k + 1) old) (sym next)
          ∙ ap (λ front. front ++ drop (k + 1) old) (sym more);
      before = omega (
        arith,
        counted,
        c.loop-block.invariant.before,
        c.count_ones-before.ensures,
      );
    }

pub returns-clause-fills : goal.returns-clause-fills
returns-clause-fills c =
    let l : List Bool = bits c.args.bytes.now c.args.offset c.args.len in
    let t : List ℕ = block_counts l in
    let size : length l ≡ c.args.len =
    length-bits c.args.bytes.now c.args.offset c.args.len in
    let all : c.loop-block.block ≡ c.min-written.result =
    omega (arith, c.loop-block-test.false, c.loop-block.auto.block-end) in
    record {
      count = omega (arith, c.min-written.ensures, c.div_ceil.ensures, size, length-block_counts l);
      items = c.loop-block.invariant.items ∙ ap (λ n. take n t ++ drop n c.args.table.now) all;
    }

pub overflow_add-before : goal.overflow_add-before
overflow_add-before c =
    let b : List ℕ = c.args.bytes.now in
    let l : List Bool = bits b c.args.offset c.args.len in
    let k : ℕ = c.loop-block.block in
    let size : length l ≡ c.args.len = length-bits b c.args.offset c.args.len in
    let inside : k < blocks c.args.len =
    omega (arith, c.loop-block-test.true, c.min-written.ensures, c.div_ceil.ensures) in
    record {
      fits = omega (
        arith,
        block_more b c.args.offset c.args.len k c.min.result inside c.min.ensures,
        c.loop-block.invariant.before,
        c.count_ones-before.ensures,
        count-take-le (512 * (k + 1)) l,
        count-le l,
        size,
        c.ranges.len.fits,
      );
    }

pub returns-clause-whole : goal.returns-clause-whole
returns-clause-whole c = λ e.
    let t : List ℕ = block_counts (bits c.args.bytes.now c.args.offset c.args.len) in
    let old : List ℕ = c.args.table.now in
    let long : length t ≡ blocks c.args.len =
    length-block_counts-bits c.args.bytes.now c.args.offset c.args.len in
    let all : c.loop-block.block ≡ length t = omega (
      arith,
      long,
      e,
      c.loop-block-test.false,
      c.loop-block.auto.block-end,
      c.min-written.ensures,
      c.div_ceil.ensures,
    ) in
    c.loop-block.invariant.items ∙ ap (λ n. take n t ++ drop n old) all
    ∙ ap (λ x. x ++ drop (length t) old) (take-length t)
    ∙ ap (λ x. t ++ x) (drop_all (length t) old (omega (arith, e, long))) ∙ append-nil t
