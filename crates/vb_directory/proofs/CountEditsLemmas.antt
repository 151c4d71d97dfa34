-- Counts of lists that are edited.
use Rattle.std.proofs.Common.{◌≡◌, ◌≢◌, ℕ, zero, suc, ◌+◌, ◌-◌, ◌*◌, ◌/◌, ◌%◌, ◌^◌, ◌<◌, ◌≤◌, Bool}
use Rattle.std.proofs.Common.{true, false, not, cond, List, [], ◌∷◌, ◌++◌, length, get_or, take}
use Rattle.std.proofs.Common.{drop, set, slice_range, refl, sym, ap, ◌∙◌, arith, ⊎_elim}
use Rattle.std.proofs.Math.Seq.{take-length}
use Rattle.std.proofs.lemmas.Bool.{cases_lt}
use Rattle.std.proofs.lemmas.List.{length-set, length-append, length-take, take-append-le}
use Rattle.std.proofs.lemmas.List.{take-take, get_or_append_left, get_or-append-add}
use Rattle.vb_bits.specs.Bits.{at, count}
use Rattle.vb_bits.proofs.BitsLemmas.{count-le, count-take-le, count-take_more, count-take-mono}
use Rattle.vb_directory.specs.Counts.{AreCounts, numbers_for, count_before_group, count_in_group}
use Rattle.vb_directory.proofs.CountsLemmas.{at-count_in_group, before-of_group}
use Rattle.vb_rank.proofs.EditsLemmas.{bump, count-take_range, count-take-set_before}
use Rattle.vb_rank.proofs.EditsLemmas.{count-take-set_after}

-- ---- a longer front
-- it has at most one more true value for each further value
pub count-take_near : (l : List Bool) (a b : ℕ)
    → a ≤ b → count (take b l) ≤ count (take a l) + (b - a)
count-take_near l a b h = omega (
  arith,
  count-take_range l a b h,
  count-le (slice_range l a b),
  length-take (b - a) (drop a l),
)

-- ---- a bit that is written
-- a count that changes by one, wrapping
narrow-step : (v : Bool) (s a b : ℕ) → s ≡ cond v 1 65535 → a < 2 ^ 16 → b < 2 ^ 16
    → (v ≡ false → 0 < a) → b ≡ bump v a → (a + s) % 2 ^ 16 ≡ b
narrow-step true s a b step low high pos moved = omega (arith, step, low, high, moved)
narrow-step false s a b step low high pos moved = omega (arith, step, low, high, moved, pos refl)

wide-step : (v : Bool) (s a b : ℕ) → s ≡ cond v 1 (2 ^ 64 - 1) → a < 2 ^ 64 → b < 2 ^ 64
    → (v ≡ false → 0 < a) → b ≡ bump v a → (a + s) % 2 ^ 64 ≡ b
wide-step true s a b step low high pos moved = omega (arith, step, low, high, moved)
wide-step false s a b step low high pos moved = omega (arith, step, low, high, moved, pos refl)

-- a sum changes as one of its parts does
first_moves : (v : Bool) (a b w c d : ℕ) → (v ≡ false → 0 < a)
    → b ≡ bump v a → a + w ≡ c → d ≡ bump v c → b + w ≡ d
first_moves true a b w c d pos moved sum total = omega (arith, moved, sum, total)
first_moves false a b w c d pos moved sum total = omega (arith, moved, sum, total, pos refl)

last_moves : (v : Bool) (a w c d : ℕ) → (v ≡ false → 0 < w)
    → a + w ≡ c → d ≡ bump v c → d - a ≡ bump v w
last_moves true a w c d pos sum total = omega (arith, sum, total)
last_moves false a w c d pos sum total = omega (arith, sum, total, pos refl)

-- the front that ends after a true bit has more true values than the front that ends before it
true-between : (l : List Bool) (i a b : ℕ) (v : Bool) → i < length l → at l i ≡ not v → a ≤ i
    → i < b → v ≡ false → count (take a l) < count (take b l)
true-between l i a b v within was low high e = omega (
  arith,
  count-take-mono l a i low,
  count-take_more l i within (was ∙ ap not e),
  count-take-mono l (i + 1) b (omega (arith, high)),
)

-- the count before a group that is after the bit
before-set_behind : (l : List Bool) (c : List ℕ) (k i w : ℕ) (v : Bool) → AreCounts l c
    → i < length l → at l i ≡ not v → length l < 2 ^ 64 → i / 65536 < k → 65536 * k < length l
    → w ≡ cond v 1 (2 ^ 64 - 1)
    → (v ≡ false → 0 < count_before_group c k)
    × (((count_before_group c k + w) % 2 ^ 64 ≡ count (take (65536 * k) (set l i v)))
    × (count (take (65536 * k) (set l i v)) ≡ bump v (count_before_group c k)))
before-set_behind l c k i w v p bit was fits h some step =
    let after : i < 65536 * k = omega (arith, h) in
    let before : count_before_group c k ≡ count (take (65536 * k) l) =
    before-of_group l c k p some in
    let moved : count (take (65536 * k) (set l i v)) ≡ bump v (count_before_group c k) =
    count-take-set_after l i (65536 * k) v after (omega (arith, some)) was
    ∙ ap (bump v) (sym before) in
    let pos : v ≡ false → 0 < count_before_group c k = λ e. omega (
      arith,
      true-between l i 0 (65536 * k) v bit was (omega arith) after e,
      before,
    ) in (
      pos,
      (
        wide-step v w (count_before_group c k) _ step
            (omega (arith, before, count-take-le (65536 * k) l, count-le l, fits))
            (omega (
              arith,
              count-take-le (65536 * k) (set l i v),
              count-le (set l i v),
              length-set l i v,
              fits,
            )) pos moved,
        moved,
      ),
    )

-- a count in the group of the bit, after its block
within-set_own : (l : List Bool) (c : List ℕ) (k j i s : ℕ) (v : Bool) → AreCounts l c
    → i < length l → at l i ≡ not v → k ≡ i / 65536 → s ≡ cond v 1 65535 → j < 128
    → i / 512 % 128 < j → 65536 * k + 512 * j < length l
    → count_before_group c k + (count_in_group c k j + s) % 2 ^ 16
    ≡ count (take (65536 * k + 512 * j) (set l i v))
within-set_own l c k j i s v p bit was here step small behind old =
    let begins : 65536 * k ≤ i = omega (arith, here) in
    let after : i < 65536 * k + 512 * j = omega (arith, here, behind) in
    let before : count_before_group c k ≡ count (take (65536 * k) l) =
    before-of_group l c k p (omega (arith, old)) in
    let same : count (take (65536 * k) (set l i v)) ≡ count (take (65536 * k) l) =
    count-take-set_before l i (65536 * k) v begins in
    let sum = p.each k j small old in
    let total = count-take-set_after l i
    (65536 * k + 512 * j) v after (omega (arith, old)) was in
    let pos : v ≡ false → 0 < count_in_group c k j = λ e. omega (
      arith,
      sum,
      before,
      true-between l i (65536 * k) (65536 * k + 512 * j) v bit was begins after e,
    ) in
    let near = count-take_near l (65536 * k) (65536 * k + 512 * j) (omega arith) in
    let near_new = count-take_near (set l i v) (65536 * k) (65536 * k + 512 * j) (omega arith) in
    let more = count-take-mono (set l i v) (65536 * k) (65536 * k + 512 * j) (omega arith) in
    let narrow = narrow-step v s (count_in_group c k j)
    (count (take (65536 * k + 512 * j) (set l i v)) - count_before_group c k) step
    (omega (arith, sum, before, near, small))
    (omega (arith, before, same, near_new, small)) pos
    (last_moves v (count_before_group c k) (count_in_group c k j) _ _ pos sum total) in
    omega (arith, narrow, before, same, more)

-- all counts
pub AreCounts-set : (l : List Bool) (c d : List ℕ) (i s w : ℕ) (v : Bool) → AreCounts l c
    → i < length l → at l i ≡ not v → length l < 2 ^ 64 → s ≡ cond v 1 65535
    → w ≡ cond v 1 (2 ^ 64 - 1) → length d ≡ length c
    → ((k : ℕ) → k ≤ i / 65536 → count_before_group d k ≡ count_before_group c k)
    → ((k : ℕ) → i / 65536 < k → 131 * k + 4 ≤ length c
    → count_before_group d k ≡ (count_before_group c k + w) % 2 ^ 64)
    → ((k j : ℕ) → j < 128 → k ≢ i / 65536 → count_in_group d k j ≡ count_in_group c k j)
    → ((k j : ℕ) → k ≡ i / 65536 → j ≤ i / 512 % 128
    → count_in_group d k j ≡ count_in_group c k j)
    → ((k j : ℕ) → k ≡ i / 65536 → i / 512 % 128 < j → j < 128 → 131 * k + 3 + j < length c
    → count_in_group d k j ≡ (count_in_group c k j + s) % 2 ^ 16)
    → AreCounts (set l i v) d
AreCounts-set l c d i s w v p bit was fits narrow wide long before behind other low high = record {
  long = omega (arith, long, p.long, length-set l i v);
  each = λ k j small inside.
      let old : 65536 * k + 512 * j < length l = omega (arith, inside, length-set l i v) in
      ⊎_elim
      (λ (front : k < i / 65536). omega (
        arith,
        before k (omega (arith, front)),
        other k j small (λ e. omega (arith, e, front)),
        p.each k j small old,
        count-take-set_before l i (65536 * k + 512 * j) v (omega (arith, front, small)),
      ))
      (λ (from : i / 65536 ≤ k). ⊎_elim
      (λ (back : i / 65536 < k).
      let moves = before-set_behind l c k i w v p bit was fits back (omega (arith, old)) wide in
      omega (
        arith,
        first_moves v (count_before_group c k) _ (count_in_group c k j) _ _ moves.0 moves.1.1
            (p.each k j small old)
            (count-take-set_after l i (65536 * k + 512 * j) v (omega (arith, back))
            (omega (arith, old)) was),
        behind k back (omega (arith, old, p.long)),
        moves.1.0,
        other k j small (λ e. omega (arith, e, back)),
      ))
      (λ (to : k ≤ i / 65536).
      let here : k ≡ i / 65536 = omega (arith, from, to) in
      ⊎_elim
      (λ (after : i / 512 % 128 < j). omega (
        arith,
        before k to,
        high k j here after small (omega (arith, old, small, p.long)),
        within-set_own l c k j i s v p bit was here narrow small after old,
      ))
      (λ (own : j ≤ i / 512 % 128). omega (
        arith,
        before k to,
        low k j here own,
        p.each k j small old,
        count-take-set_before l i (65536 * k + 512 * j) v (omega (arith, here, own)),
      ))
      (cases_lt (i / 512 % 128) j))
      (cases_lt (i / 65536) k))
      (cases_lt k (i / 65536));
}

-- ---- a bit that is appended
-- it is in no front of the list
count-push : (l : List Bool) (n : ℕ) (v : Bool)
    → n ≤ length l → count (take n (l ++ v ∷ [])) ≡ count (take n l)
count-push l n v h = ap count (take-append-le n l (v ∷ []) h)

-- if the bit begins no block, the counts stay the same
pub AreCounts-push : (l : List Bool) (c : List ℕ) (v : Bool)
    → AreCounts l c → 0 < length l % 512 → AreCounts (l ++ v ∷ []) c
AreCounts-push l c v p h =
    let size : length (l ++ v ∷ []) ≡ length l + 1 = length-append l (v ∷ []) in
    record {
      long = omega (arith, p.long, size, h);
      each = λ k i small inside.
          let old : 65536 * k + 512 * i < length l = omega (arith, inside, size, h) in
          p.each k i small old ∙ sym (count-push l (65536 * k + 512 * i) v (omega (arith, old)));
    }

-- numbers that are appended change no group before them
before-append : (c y : List ℕ) (k : ℕ)
    → 131 * k + 4 ≤ length c → count_before_group (c ++ y) k ≡ count_before_group c k
before-append c y k h = omega (
  arith,
  get_or_append_left c y 0 (131 * k) (omega (arith, h)),
  get_or_append_left c y 0 (131 * k + 1) (omega (arith, h)),
  get_or_append_left c y 0 (131 * k + 2) (omega (arith, h)),
  get_or_append_left c y 0 (131 * k + 3) (omega (arith, h)),
)

within-append : (c y : List ℕ) (k i : ℕ)
    → 131 * k + 3 + i < length c → count_in_group (c ++ y) k i ≡ count_in_group c k i
within-append c y k zero h = refl
within-append c y k (suc i) h = get_or_append_left c y 0 (131 * k + 4 + i) (omega (arith, h))

-- the counts of whole blocks and of one more block
AreCounts-push_block : (l m : List Bool) (c y : List ℕ) (b : ℕ) → AreCounts l c
    → length l ≡ 512 * b → take (length l) m ≡ l → length l < length m
    → length m ≤ length l + 512 → length (c ++ y) ≡ numbers_for (length m)
    → count_before_group (c ++ y) (b / 128) + count_in_group (c ++ y) (b / 128) (b % 128)
    ≡ count l
    → AreCounts m (c ++ y)
AreCounts-push_block l m c y b p whole front more few long own = record {
  long = long;
  each = λ k i small inside. ⊎_elim
      (λ (old : 65536 * k + 512 * i < length l).
      let same : take (65536 * k + 512 * i) m ≡ take (65536 * k + 512 * i) l =
      sym (take-take (65536 * k + 512 * i) (length l) m (omega (arith, old)))
      ∙ ap (take (65536 * k + 512 * i)) front in
      omega (
        arith,
        before-append c y k (omega (arith, old, p.long)),
        within-append c y k i (omega (arith, old, small, p.long)),
        p.each k i small old,
        ap count same,
      ))
      (λ (last : length l ≤ 65536 * k + 512 * i).
      let here : 65536 * k + 512 * i ≡ length l = omega (arith, last, inside, whole, few) in
      let group : b / 128 ≡ k = omega (arith, here, whole, small) in
      let place : b % 128 ≡ i = omega (arith, here, whole, small) in
      omega (
        arith,
        own,
        ap (λ x. count_before_group (c ++ y) x) group,
        ap (λ x. count_in_group (c ++ y) x (b % 128)) group,
        ap (λ x. count_in_group (c ++ y) k x) place,
        ap (λ x. count (take x m)) here,
        ap count front,
      ))
      (cases_lt (65536 * k + 512 * i) (length l));
}

-- a number is the sum of its digits
digits-sum : (n : ℕ) → n < 2 ^ 64 → n % 65536 + 2 ^ 16 * (n / 65536 % 65536)
    + 2 ^ 32 * (n / 65536 / 65536 % 65536) + 2 ^ 48 * (n / 65536 / 65536 / 65536) ≡ n
digits-sum n h = omega (arith, h)

-- the block begins a group
pub AreCounts-push_group : (l m : List Bool) (c : List ℕ) (b n : ℕ) → AreCounts l c
    → length l ≡ 512 * b → b % 128 ≡ 0 → n ≡ count l → length l < 2 ^ 64
    → take (length l) m ≡ l → length l < length m → length m ≤ length l + 512
    → AreCounts m (c ++ n % 65536 ∷ n / 65536 % 65536 ∷ n / 65536 / 65536 % 65536
    ∷ n / 65536 / 65536 / 65536 ∷ [])
AreCounts-push_group l m c b n p whole begins total fits front more few =
    let y : List ℕ = n % 65536 ∷ n / 65536 % 65536 ∷ n / 65536 / 65536 % 65536
    ∷ n / 65536 / 65536 / 65536 ∷ [] in
    let size : length (c ++ y) ≡ length c + 4 = length-append c y in
    let at0 : 131 * (b / 128) ≡ length c + 0 = omega (arith, p.long, whole, begins) in
    let at1 : 131 * (b / 128) + 1 ≡ length c + 1 = omega (arith, at0) in
    let at2 : 131 * (b / 128) + 2 ≡ length c + 2 = omega (arith, at0) in
    let at3 : 131 * (b / 128) + 3 ≡ length c + 3 = omega (arith, at0) in
    let read : ℕ → ℕ = λ x. get_or (c ++ y) x 0 in
    AreCounts-push_block l m c y b p whole front more few
    (omega (arith, size, p.long, whole, begins, more, few))
    (omega (
      arith,
      ap read at0 ∙ get_or-append-add c y 0 0,
      ap read at1 ∙ get_or-append-add c y 1 0,
      ap read at2 ∙ get_or-append-add c y 2 0,
      ap read at3 ∙ get_or-append-add c y 3 0,
      ap (λ x. count_in_group (c ++ y) (b / 128) x) begins,
      digits-sum n (omega (arith, total, count-le l, fits)),
      total,
    ))

-- the block is within a group
pub AreCounts-push_within : (l m : List Bool) (c : List ℕ) (b n : ℕ) → AreCounts l c
    → length l ≡ 512 * b → 0 < b % 128 → n ≡ count l → length l < 2 ^ 64
    → take (length l) m ≡ l → length l < length m → length m ≤ length l + 512
    → AreCounts m (c ++ (n + (2 ^ 64 - count_before_group c (b / 128))) % 2 ^ 64 % 65536 ∷ [])
AreCounts-push_within l m c b n p whole inner total fits front more few =
    let g : ℕ = count_before_group c (b / 128) in
    let w : ℕ = (n + (2 ^ 64 - g)) % 2 ^ 64 % 65536 in
    let y : List ℕ = w ∷ [] in
    let size : length (c ++ y) ≡ length c + 1 = length-append c y in
    let some : 65536 * (b / 128) < length l = omega (arith, whole, inner) in
    let before : g ≡ count (take (65536 * (b / 128)) l) = before-of_group l c (b / 128) p some in
    let all : count (take (length l) l) ≡ count l = ap count (take-length l) in
    let exact : g + w ≡ count l = omega (
      arith,
      count-take_near l (65536 * (b / 128)) (length l) (omega (arith, some)),
      all,
      before,
      total,
      whole,
      count-take-le (65536 * (b / 128)) l,
      count-le l,
      fits,
    ) in
    let place : 131 * (b / 128) + 3 + b % 128 ≡ length c + 0 =
    omega (arith, p.long, whole, inner) in
    AreCounts-push_block l m c y b p whole front more few
    (omega (arith, size, p.long, whole, inner, more, few))
    (omega (
      arith,
      before-append c y (b / 128) (omega (arith, p.long, whole, inner)),
      at-count_in_group (c ++ y) (b / 128) (b % 128) inner,
      ap (λ x. get_or (c ++ y) x 0) place,
      get_or-append-add c y 0 0,
      exact,
    ))
