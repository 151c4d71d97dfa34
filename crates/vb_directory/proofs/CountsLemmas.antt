-- Counts of blocks by their groups: reads and searches.
use Rattle.std.proofs.Common.{◌≡◌, ℕ, zero, suc, ◌+◌, ◌-◌, ◌*◌, ◌/◌, ◌%◌, ◌<◌, ◌≤◌, Bool, true}
use Rattle.std.proofs.Common.{false, List, length, get_or, take, min, refl, sym, ap, ◌∙◌, arith}
use Rattle.std.proofs.Common.{subst, ⊎_elim}
use Rattle.std.specs.Int.{div_ceil}
use Rattle.std.proofs.lemmas.Bool.{cases_lt}
use Rattle.std.proofs.lemmas.List.FromFn.{length-map-range_with_len, get_or-map-range_with_len}
use Rattle.vb_bits.specs.Bits.{count}
use Rattle.vb_directory.specs.Counts.{AreCounts, numbers_for, count_before_group, count_in_group}
use Rattle.vb_directory.specs.Counts.{counts_before, counts_within}
use Rattle.vb_rank.specs.Tables.{blocks, block_counts, count_before, Rises, BeginsBefore}
use Rattle.vb_rank.proofs.TablesLemmas.{length-block_counts, at-block_counts}

-- ---- reads
-- a block that isn't the first of its group has a number
pub at-count_in_group : (c : List ℕ) (k i : ℕ)
    → 0 < i → count_in_group c k i ≡ get_or c (131 * k + 3 + i) 0
at-count_in_group c k zero h = absurd (omega arith)
at-count_in_group c k (suc i) h =
    let e : 131 * k + 4 + i ≡ 131 * k + 3 + suc i = omega arith in
    ap (λ n. get_or c n 0) e

-- lists with the same digits have the same count before a group
pub before-same : (c d : List ℕ) (k : ℕ)
    → ((n : ℕ) → 131 * k ≤ n → n < 131 * k + 4 → get_or d n 0 ≡ get_or c n 0)
    → count_before_group d k ≡ count_before_group c k
before-same c d k same = omega (
  arith,
  same (131 * k) (omega arith) (omega arith),
  same (131 * k + 1) (omega arith) (omega arith),
  same (131 * k + 2) (omega arith) (omega arith),
  same (131 * k + 3) (omega arith) (omega arith),
)

-- and lists with the same number have the same count of a block
pub within-same : (c d : List ℕ) (k i : ℕ)
    → (0 < i → get_or d (131 * k + 3 + i) 0 ≡ get_or c (131 * k + 3 + i) 0)
    → count_in_group d k i ≡ count_in_group c k i
within-same c d k zero same = refl
within-same c d k (suc i) same = at-count_in_group d k (suc i) (omega arith)
    ∙ same (omega arith) ∙ sym (at-count_in_group c k (suc i) (omega arith))

-- there is one count for each group
pub length_counts_before : (c : List ℕ) (n : ℕ)
    → length c ≡ numbers_for n → length (counts_before c) ≡ div_ceil n 65536
length_counts_before c n e = omega (
  arith,
  length-map-range_with_len (λ k. count_before_group c k) 0 ((length c + 127) / 131),
  e,
)

pub at_counts_before : (c : List ℕ) (k : ℕ)
    → 131 * k + 4 ≤ length c → get_or (counts_before c) k 0 ≡ count_before_group c k
at_counts_before c k h = get_or-map-range_with_len (λ j. count_before_group c j) 0
    ((length c + 127) / 131) k k 0 (omega (arith, h)) (omega arith)

-- each has its digits
pub before-inside : (c : List ℕ) (k : ℕ) → k < length (counts_before c) → 131 * k + 4 ≤ length c
before-inside c k h = omega (
  arith,
  h,
  length-map-range_with_len (λ j. count_before_group c j) 0 ((length c + 127) / 131),
)

-- a group has one count for each of its blocks
pub length_counts_within : (c : List ℕ) (n k b : ℕ) → length c ≡ numbers_for n → 65536 * k < n
    → b ≡ min (div_ceil (n - 65536 * k) 512) 128 → length (counts_within c k b) ≡ b
length_counts_within c n k b e h cut = omega (
  arith,
  length-map-range_with_len (λ i. count_in_group c k i) 0 (min b (length c - (131 * k + 3))),
  e,
  h,
  cut,
)

-- each count but the first has its number
pub within-inside : (c : List ℕ) (k b i : ℕ)
    → i < length (counts_within c k b) → 131 * k + 4 + i ≤ length c
within-inside c k b i h = omega (
  arith,
  h,
  length-map-range_with_len (λ j. count_in_group c k j) 0 (min b (length c - (131 * k + 3))),
)

pub at_counts_within : (c : List ℕ) (k b i : ℕ) → i < length (counts_within c k b)
    → get_or (counts_within c k b) i 0 ≡ count_in_group c k i
at_counts_within c k b i h =
    let size : ℕ = min b (length c - (131 * k + 3)) in
    get_or-map-range_with_len (λ j. count_in_group c k j) 0 size i i 0
    (omega (arith, h, length-map-range_with_len (λ j. count_in_group c k j) 0 size)) (omega arith)

-- the count before a block, by its group
pub ones-of_group : (l : List Bool) (c : List ℕ) (j : ℕ) → AreCounts l c → 512 * j < length l
    → count_before_group c (j / 128) + count_in_group c (j / 128) (j % 128)
    ≡ count (take (512 * j) l)
ones-of_group l c j p h =
    let place : 65536 * (j / 128) + 512 * (j % 128) ≡ 512 * j = omega arith in
    p.each (j / 128) (j % 128) (omega arith) (omega (arith, h, place))
    ∙ ap (λ x. count (take x l)) place

-- the count before a group
pub before-of_group : (l : List Bool) (c : List ℕ) (k : ℕ) → AreCounts l c → 65536 * k < length l
    → count_before_group c k ≡ count (take (65536 * k) l)
before-of_group l c k p h =
    let place : 65536 * k + 512 * 0 ≡ 65536 * k = omega arith in
    omega (
      arith,
      p.each k 0 (omega arith) (omega (arith, h, place)),
      ap (λ x. count (take x l)) place,
    )

-- it is the count before the first block of the group
before-of_table : (l : List Bool) (c : List ℕ) (k : ℕ) → AreCounts l c → 65536 * k < length l
    → count_before_group c k ≡ get_or (block_counts l) (128 * k) 0
before-of_table l c k p h =
    let place : 65536 * k ≡ 512 * (128 * k) = omega arith in
    before-of_group l c k p h ∙ ap (λ x. count (take x l)) place
    ∙ sym (at-block_counts l (128 * k) (omega (arith, h)))

-- the count before a block, by the count before its group
part-of_group : (l : List Bool) (c : List ℕ) (k i : ℕ)
    → AreCounts l c → i < 128 → 128 * k + i < length (block_counts l)
    → get_or (block_counts l) (128 * k + i) 0
    ≡ get_or (block_counts l) (128 * k) 0 + count_in_group c k i
part-of_group l c k i p small inside =
    let long = length-block_counts l in
    let place : 512 * (128 * k + i) ≡ 65536 * k + 512 * i = omega arith in
    omega (
      arith,
      at-block_counts l (128 * k + i) (omega (arith, inside, long)),
      ap (λ x. count (take x l)) place,
      p.each k i small (omega (arith, inside, long)),
      before-of_table l c k p (omega (arith, inside, long)),
    )

-- the values before a block are those before its group and those of the group before the block
count_before-split : (v : Bool) (t w : List ℕ) (k i : ℕ) → Rises 512 true t → Rises 512 false t
    → 128 * k + i < length t → get_or t (128 * k + i) 0 ≡ get_or t (128 * k) 0 + get_or w i 0
    → (get_or w i 0 ≤ 512 * i)
    × (count_before 512 v t (128 * k + i) ≡ count_before 512 v t (128 * k) + count_before 512 v w i)
count_before-split true t w k i up down inside part = (
  omega (
    arith,
    part,
    down.rising (128 * k) (128 * k + i) (omega arith) inside,
    down.small (128 * k) (omega (arith, inside)),
    down.small (128 * k + i) inside,
  ),
  part,
)
count_before-split false t w k i up down inside part = (
  omega (
    arith,
    part,
    down.rising (128 * k) (128 * k + i) (omega arith) inside,
    down.small (128 * k) (omega (arith, inside)),
    down.small (128 * k + i) inside,
  ),
  omega (
    arith,
    part,
    down.rising (128 * k) (128 * k + i) (omega arith) inside,
    down.small (128 * k) (omega (arith, inside)),
    down.small (128 * k + i) inside,
  ),
)

-- if the counts of both values rise, so do those of v
either_rises : (v : Bool) (t : List ℕ) → Rises 512 true t → Rises 512 false t → Rises 512 v t
either_rises true t up down = up
either_rises false t up down = down

-- the counts of a group can be searched
Rises-group : (v : Bool) (t w : List ℕ) (k : ℕ) → Rises 512 true t → Rises 512 false t
    → ((i : ℕ) → i < length w → 128 * k + i < length t)
    → ((i : ℕ) → i < length w → get_or t (128 * k + i) 0 ≡ get_or t (128 * k) 0 + get_or w i 0)
    → Rises 512 v w
Rises-group v t w k up down within part = record {
  small = λ i h. (count_before-split v t w k i up down (within i h) (part i h)).0;
  rising = λ i j order h.
      let low : i < length w = omega (arith, order, h) in
      omega (
        arith,
        (count_before-split v t w k i up down (within i low) (part i low)).1,
        (count_before-split v t w k j up down (within j h) (part j h)).1,
        (either_rises v t up down).rising (128 * k + i) (128 * k + j) (omega (arith, order))
            (within j h),
      );
}

-- ---- the groups are sought
-- the count before a group is that of the table for its first block
count_before-groups : (v : Bool) (l : List Bool) (c : List ℕ) (k : ℕ) → AreCounts l c
    → 65536 * k < length l
    → count_before 65536 v (counts_before c) k ≡ count_before 512 v (block_counts l) (128 * k)
count_before-groups true l c k p h =
    at_counts_before c k (omega (arith, h, p.long)) ∙ before-of_table l c k p h
count_before-groups false l c k p h = omega (
  arith,
  at_counts_before c k (omega (arith, h, p.long)),
  before-of_table l c k p h,
)

-- they can be searched, since the table can
Rises-groups : (v : Bool) (l : List Bool) (c : List ℕ) → AreCounts l c
    → Rises 512 v (block_counts l) → Rises 65536 v (counts_before c)
Rises-groups v l c p rises =
    let wide = length_counts_before c (length l) p.long in
    let size = length-block_counts l in
    record {
      small = λ j h.
          let here : 65536 * j < length l = omega (arith, h, wide) in
          omega (
            arith,
            rises.small (128 * j) (omega (arith, here, size)),
            before-of_table l c j p here,
            at_counts_before c j (omega (arith, here, p.long)),
          );
      rising = λ i j order h.
          let here : 65536 * j < length l = omega (arith, h, wide) in
          omega (
            arith,
            rises.rising (128 * i) (128 * j) (omega (arith, order)) (omega (arith, here, size)),
            count_before-groups v l c i p (omega (arith, order, here)),
            count_before-groups v l c j p here,
          );
    }

-- the block that is found among the counts of a group is the one of the table
pub BeginsBefore-group : (v : Bool) (l : List Bool) (c w : List ℕ)
    (n k m b j r : ℕ) → AreCounts l c
    → Rises 512 true (block_counts l) → Rises 512 false (block_counts l)
    → (Rises 65536 v (counts_before c) → BeginsBefore 65536 v (counts_before c) n k m)
    → w ≡ counts_within c k b → b ≡ min (div_ceil (length l - 65536 * k) 512) 128
    → (Rises 512 v w → BeginsBefore 512 v w (n - m) j r)
    → BeginsBefore 512 v (block_counts l) n (128 * k + j) (m + r)
BeginsBefore-group v l c w n k m b j r p up down seek cut end find =
    let t : List ℕ = block_counts l in
    let size : length t ≡ blocks (length l) = length-block_counts l in
    let wide = length_counts_before c (length l) p.long in
    let group = seek (Rises-groups v l c p (either_rises v t up down)) in
    let h : 65536 * k < length l = omega (arith, group.within, wide) in
    let start : count_before 65536 v (counts_before c) k ≡ count_before 512 v t (128 * k) =
    count_before-groups v l c k p h in
    let long : length w ≡ b =
    ap length cut ∙ length_counts_within c (length l) k b p.long h end in
    let within : (i : ℕ) → i < length w → 128 * k + i < length t =
    λ i inside. omega (arith, inside, long, end, size) in
    let part : (i : ℕ) → i < length w
    → get_or t (128 * k + i) 0 ≡ get_or t (128 * k) 0 + get_or w i 0 =
    λ i inside. omega (
      arith,
      part-of_group l c k i p (omega (arith, inside, long, end)) (within i inside),
      ap (λ x. get_or x i 0) cut,
      at_counts_within c k b i (omega (arith, inside, ap length cut)),
    ) in
    let f = find (Rises-group v t w k up down within part) in
    let split : (i : ℕ) → i < length w
    → count_before 512 v t (128 * k + i) ≡ count_before 512 v t (128 * k) + count_before 512 v w i =
    λ i inside. (count_before-split v t w k i up down (within i inside) (part i inside)).1 in
    record {
      within = within j f.within;
      before = omega (arith, split j f.within, f.before, group.before, start);
      low = omega (arith, group.low, f.low);
      high = λ more. ⊎_elim
          (λ (inner : j + 1 < length w).
          let next : 128 * k + j + 1 ≡ 128 * k + (j + 1) = omega arith in
          omega (
            arith,
            split (j + 1) inner,
            f.high inner,
            group.before,
            start,
            ap (count_before 512 v t) next,
          ))
          (λ (last : length w ≤ j + 1).
          let next : 128 * k + j + 1 ≡ 128 * (k + 1) =
          omega (arith, last, f.within, long, end, more, size) in
          let last_group : 65536 * (k + 1) < length l = omega (arith, next, more, size) in
          omega (
            arith,
            group.high (omega (arith, last_group, wide)),
            count_before-groups v l c (k + 1) p last_group,
            ap (count_before 512 v t) next,
          ))
          (cases_lt (j + 1) (length w));
    }

-- a single block has all values
pub BeginsBefore-single : (v : Bool) (l : List Bool) (n : ℕ)
    → 0 < length l → length l ≤ 512 → BeginsBefore 512 v (block_counts l) n 0 0
BeginsBefore-single v l n some small =
    let long = length-block_counts l in
    let first : get_or (block_counts l) 0 0 ≡ 0 = at-block_counts l 0 (omega (arith, some)) in
    record {
      within = omega (arith, some, long);
      before = single v first;
      low = omega arith;
      high = λ more. absurd (omega (arith, more, small, long));
    }
  where
    single : (v : Bool) → get_or (block_counts l) 0 0 ≡ 0
        → 0 ≡ count_before 512 v (block_counts l) 0
    single true e = sym e
    single false e = omega (arith, e)

-- in the first group the number before a block is the count, also for the first block
pub number-of_first : (l : List Bool) (c : List ℕ) (j : ℕ) → AreCounts l c
    → 512 * j < length l → j < 128 → get_or c (3 + j) 0 ≡ count (take (512 * j) l)
number-of_first l c j p begins small =
    let none : count_before_group c 0 ≡ 0 =
    omega (arith, p.each 0 0 (omega arith) (omega (arith, begins))) in
    ⊎_elim
    (λ (some : 0 < j).
    let number : 131 * 0 + 3 + j ≡ 3 + j = omega arith in
    let front : 65536 * 0 + 512 * j ≡ 512 * j = omega arith in
    omega (
      arith,
      p.each 0 j small (omega (arith, begins)),
      none,
      at-count_in_group c 0 j some,
      ap (λ n. get_or c n 0) number,
      ap (λ n. count (take n l)) front,
    ))
    (λ (first : j ≤ 0).
    let e : j ≡ 0 = omega (arith, first) in
    let digit : get_or c 3 0 ≡ 0 = omega (arith, none) in
    subst (λ x. get_or c (3 + x) 0 ≡ count (take (512 * x) l)) (sym e) digit)
    (cases_lt 0 j)

-- if there is one group, it has all values
pub BeginsBefore-one_group : (v : Bool) (t : List ℕ) (n : ℕ)
    → length t ≡ 1 → Rises 65536 v t → BeginsBefore 65536 v t n 0 0
BeginsBefore-one_group v t n one rises =
    let some : 0 < length t = omega (arith, one) in
    record {
      within = some;
      before = none v (omega (arith, rises.small 0 some));
      low = omega arith;
      high = λ more. absurd (omega (arith, more, one));
    }
  where
    none : (v : Bool) → get_or t 0 0 ≡ 0 → 0 ≡ count_before 65536 v t 0
    none true e = sym e
    none false e = omega (arith, e)
