use Rattle.std.proofs.Common.{◌≡◌, ℕ, List, ◌+◌, ◌-◌, ◌*◌, ◌/◌, ◌<◌, min, length, refl, sym, ap}
use Rattle.std.proofs.Common.{◌∙◌, arith}
use Rattle.std.specs.Int.{div_ceil}
use Rattle.vb_directory.proofs.CountsLemmas.{BeginsBefore-group, BeginsBefore-single}
use Rattle.vb_directory.proofs.CountsLemmas.{length_counts_within}
use Rattle.vb_rank.proofs.TablesLemmas.{digits-of_group-le}
use Rattle.vb_directory.specs.Counts.{counts_within}
use Rattle.vb_rank.specs.Tables.{blocks, binary_digits}
use Rattle.vb_directory.proofs.groups.find_in_groups.Goals as goal

pub returns-then-len-le-BLOCK_BITS-clause-block : goal.returns-then-len-le-BLOCK_BITS-clause-block
returns-then-len-le-BLOCK_BITS-clause-block g c = λ l size p up down.
    BeginsBefore-single c.args.value l c.args.n (omega (arith, size, c.requires.some))
    (omega (arith, size, c.if-len-le-BLOCK_BITS.true))

pub find_block-block-requires-clause-size : goal.find_block-block-requires-clause-size
find_block-block-requires-clause-size g c =
    let e : List ℕ = (g.S.ProbeGroups.seen c.args.groups.now).entries in
    let k : ℕ = c.find_group-group.result.0 in
    let b : ℕ = c.min-blocks.result in
    let long : length (counts_within e k b) ≡ b =
    length_counts_within e c.args.len k b c.requires.size
    c.find_group-group.ensures.within
    (omega (arith, c.min-blocks.ensures, c.div_ceil.ensures)) in
    sym (ap (λ x. length (counts_within x k b)) c.find_group-group.ensures.probes.same ∙ long)

pub returns-clause-block : goal.returns-clause-block
returns-clause-block g c = λ l size p up down.
    let e : List ℕ = (g.S.ProbeGroups.seen c.args.groups.now).entries in
    let k : ℕ = c.find_group-group.result.0 in
    let b : ℕ = c.min-blocks.result in
    BeginsBefore-group c.args.value l e (counts_within e k b) c.args.n k
    c.find_group-group.result.1 b
    c.find_block-block.result.0 c.find_block-block.result.1 p up down
    c.find_group-group.ensures.block refl
    (omega (arith, c.min-blocks.ensures, c.div_ceil.ensures, size))
    (rw c.find_group-group.ensures.probes.same at c.find_block-block.ensures.block)

-- the number of probes of the two searches
sum : goal.returns-clause-probes
sum g c =
    let e : List ℕ = (g.S.ProbeGroups.seen c.args.groups.now).entries in
    let digits : ℕ → ℕ = λ n. binary_digits (n - 1) in
    let k : ℕ = c.find_group-group.result.0 in
    let b : ℕ = c.min-blocks.result in
    let inside : 65536 * k < c.args.len =
    c.find_group-group.ensures.within in
    let long : length (counts_within e k b) ≡ b =
    length_counts_within e c.args.len k b c.requires.size inside
    (omega (arith, c.min-blocks.ensures, c.div_ceil.ensures)) in
    let j : ℕ = 128 * k + c.find_block-block.result.0 in
    let part : b ≡ min (blocks c.args.len - 128 * (j / 128)) 128 = omega (
      arith,
      c.min-blocks.ensures,
      c.div_ceil.ensures,
      c.find_block-block.ensures.within,
    ) in
    record {
      same = c.find_block-block.ensures.same ∙ c.find_group-group.ensures.probes.same;
      probes = omega (
        arith,
        c.find_group-group.ensures.probes.probes,
        c.find_block-block.ensures.probes.probes,
        ap (λ x. digits (length (counts_within x k b))) c.find_group-group.ensures.probes.same,
        ap digits long,
        ap digits part,
      );
    }

pub returns-clause-probes : goal.returns-clause-probes
returns-clause-probes g c = sum g c

pub returns-clause-most : goal.returns-clause-most
returns-clause-most g c =
    let j : ℕ = 128 * c.find_group-group.result.0 + c.find_block-block.result.0 in
    let b : ℕ = min (blocks c.args.len - 128 * (j / 128)) 128 in
    record {
      same = (sum g c).same;
      probes = omega (
        arith,
        (sum g c).probes,
        digits-of_group-le c.args.len (div_ceil c.args.len 65536) b refl (omega arith)
            (omega arith),
      );
    }
