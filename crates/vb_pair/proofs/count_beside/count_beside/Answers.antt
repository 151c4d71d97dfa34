use Rattle.std.proofs.Common.{◌+◌, ◌-◌, ◌*◌, ◌/◌, ◌%◌, ℕ, List, ap, arith, ◌∙◌}
use Rattle.vb_pair.specs.Merged.{merged_ones}
use Rattle.vb_pair.proofs.MergedLemmas.{merged_ones_split}
use Rattle.vb_pair.proofs.BesideLemmas.{merged_ones_same, looks_beside-le}
use Rattle.vb_pair.proofs.BesideLemmas.{looks_beside-most, looks_beside-short}
use Rattle.vb_pair.proofs.count_beside.count_beside.Goals as goal

pub returns-clause-value : goal.returns-clause-value
returns-clause-value g c =
    let f = g.M.Merge.bit in
    let a : List ℕ = (g.L.Glance.seen c.args.left.now).bytes in
    let b : List ℕ = (g.R.Glance.seen c.args.right.now).bytes in
    let l : ℕ = c.args.l in let r : ℕ = c.args.r in let len : ℕ = c.args.len in
    let head : ℕ = (8 - l % 8) % 8 in
    let bytes : ℕ = (len - head) / 8 in
    let done : ℕ = head + 8 * bytes in
    let k : ℕ = bytes / 64 in let w : ℕ = bytes % 64 / 8 in
    let chunk_bits : ℕ = 8 * (64 * k) in let word_bits : ℕ = 8 * (8 * w) in
    let byte_bits : ℕ = 8 * (1 * (bytes % 8)) in
    let at1 : ℕ = (l + head) / 8 in let from1 : ℕ = r + head in
    let at2 : ℕ = at1 + 64 * k in let from2 : ℕ = from1 + 512 * k in
    let at3 : ℕ = at2 + 8 * w in let from3 : ℕ = from2 + 64 * w in
    let l1 = c.count_part-first.ensures.looks.same in
    let r0 = c.next_byte.ensures.looks.same in
    let r1 = c.count_part-first.ensures.beside.same ∙ r0 in
    let l2 = c.count_units-by_chunks.ensures.looks.same ∙ l1 in
    let r2 = c.count_units-by_chunks.ensures.beside.same ∙ r1 in
    let l3 = c.count_units-by_words.ensures.looks.same ∙ l2 in
    let r3 = c.count_units-by_words.ensures.beside.same ∙ r2 in
    let l4 = c.count_units-by_bytes.ensures.looks.same ∙ l3 in
    let r4 = c.count_units-by_bytes.ensures.beside.same ∙ r3 in
    let first = c.count_part-first.ensures.value
    ∙ ap (λ x. merged_ones f a l x r head) r0 in
    let by_chunks = c.count_units-by_chunks.ensures.value
    ∙ merged_ones_same f a b _ _ (8 * at1) from1 chunk_bits l1 r1 in
    let by_words = c.count_units-by_words.ensures.value
    ∙ merged_ones_same f a b _ _ (8 * at2) from2 word_bits l2 r2 in
    let by_bytes = c.count_units-by_bytes.ensures.value
    ∙ merged_ones_same f a b _ _ (8 * at3) from3 byte_bits l3 r3 in
    let last = c.count_part-last.ensures.value
    ∙ merged_ones_same f a b _ _ (l + done) (r + done) (len - done) l4 r4 in
    omega (
      arith,
      first,
      by_chunks,
      by_words,
      by_bytes,
      last,
      merged_ones_split f a b l r head (head + 512 * k) (8 * at1) from1 chunk_bits
          (omega arith) (omega arith) (omega arith),
      merged_ones_split f a b l r (head + 512 * k) (head + 512 * k + 64 * w) (8 * at2) from2
          word_bits (omega arith) (omega arith) (omega arith),
      merged_ones_split f a b l r (head + 512 * k + 64 * w) done (8 * at3) from3
          byte_bits (omega arith) (omega arith) (omega arith),
      merged_ones_split f a b l r done len (l + done) (r + done) (len - done)
          (omega arith) (omega arith) (omega arith),
    )

pub returns-then-len-head-clause-one_more : goal.returns-then-len-head-clause-one_more
returns-then-len-head-clause-one_more g c = looks_beside-le c.args.l c.args.r c.args.len

pub returns-clause-one_more : goal.returns-clause-one_more
returns-clause-one_more g c = looks_beside-le c.args.l c.args.r c.args.len

pub returns-then-len-head-clause-most : goal.returns-then-len-head-clause-most
returns-then-len-head-clause-most g c = looks_beside-most c.args.l c.args.r c.args.len

pub returns-clause-most : goal.returns-clause-most
returns-clause-most g c = looks_beside-most c.args.l c.args.r c.args.len

pub returns-then-len-head-clause-short : goal.returns-then-len-head-clause-short
returns-then-len-head-clause-short g c = looks_beside-short c.args.l c.args.r c.args.len

pub returns-clause-short : goal.returns-clause-short
returns-clause-short g c = looks_beside-short c.args.l c.args.r c.args.len
