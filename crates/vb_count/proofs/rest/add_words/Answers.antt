use Rattle.std.proofs.Common.{◌≡◌, ◌+◌, ◌-◌, ◌*◌, ◌/◌, ℕ, List, true, min, ap, arith, ◌∙◌}
use Rattle.vb_bits.specs.Bits.{bits, count}
use Rattle.vb_bits.proofs.BitsLemmas.{count-bits_none}
use Rattle.vb_count.proofs.HitsLemmas.{count-hits-bits_split}
use Rattle.vb_count.proofs.rest.add_words.Goals as goal

pub returns-else-n-eq0-clause-value : goal.returns-else-n-eq0-clause-value
returns-else-n-eq0-clause-value g c =
    let b : List ℕ = (g.G.Glance.seen c.args.src.now).bytes in
    let n : ℕ = c.args.n in
    let o : ℕ = 8 * c.args.at in
    let same1 = c.add_pair-first.ensures.looks.same in
    let same2 = c.add_pair-second.ensures.looks.same ∙ same1 in
    let same3 = c.add_pair-pairs.ensures.looks.same ∙ same2 in
    let none : 128 * min 0 (n / 2) ≡ 0 = omega arith in
    let all : 128 * min 3 (n / 2) ≡ 64 * (n - 1) = omega arith in
    omega (
      arith,
      c.add_pair-first.ensures.value,
      rw same1 at c.add_pair-second.ensures.value,
      rw same2 at c.add_pair-pairs.ensures.value,
      rw same3 at c.count_word.ensures.value,
      ap (λ m. count (bits b o m)) none,
      count-bits_none b o,
      ap (λ m. count (bits b o m)) all,
      count-hits-bits_split true b o
          (64 * (n - 1)) (64 * n) (8 * (c.args.at + 8 * n - 8)) 64 (omega arith) (omega arith),
    )
