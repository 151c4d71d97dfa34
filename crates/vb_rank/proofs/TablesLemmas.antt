-- Tables of counts of blocks, and the search of them by halves.
use Rattle.std.proofs.Common.{◌≡◌, ℕ, zero, suc, ◌+◌, ◌-◌, ◌*◌, ◌/◌, ◌^◌, ◌<◌, ◌≤◌, Bool, true}
use Rattle.std.proofs.Common.{false, List, length, get_or, take, None, Some, min, refl}
use Rattle.std.proofs.Common.{sym, ap}
use Rattle.std.proofs.Common.{◌∙◌, arith, subst, ⊎_elim}
use Rattle.std.specs.Int.{div_ceil}
use Rattle.std.specs.Int.Digits.{digits_of}
use Rattle.std.proofs.lemmas.List.FromFn.{length-map-range_with_len, get_or-map-range_with_len}
use Rattle.std.proofs.lemmas.Bool.{cases_lt}
use Rattle.std.proofs.lemmas.Int.Digits.{length-digits_of_step, length-digits_of-le}
use Rattle.vb_bits.specs.Bits.{bits, count, Selects}
use Rattle.vb_count.specs.Looks.{looks}
use Rattle.vb_count.specs.Hits.{hits}
use Rattle.vb_bits.proofs.BitsLemmas.{length-bits, take-bits, count-bits-le}
use Rattle.vb_count.proofs.HitsLemmas.{count-hits-bits_split, count-hits-bits_false}
use Rattle.vb_select.proofs.SearchesLemmas.{Searched_after, Searched_longer}
use Rattle.vb_rank.specs.Tables.{CountedEntries, ProbesExactly, ProbesAtMost, blocks}
use Rattle.vb_rank.specs.Tables.{block_counts, binary_digits}
use Rattle.vb_rank.specs.Tables.{count_before, BeginsBefore, Narrows, Rises}

-- ---- looks
-- a block needs at most 16 looks, wherever it begins
pub looks_of_block : (o n : ℕ) → n ≤ 512 → looks o n ≤ 16
looks_of_block o n h = omega arith

-- ---- the table
-- there is an entry for each block
pub length-block_counts : (l : List Bool) → length (block_counts l) ≡ blocks (length l)
unfolding block_counts
length-block_counts l =
    length-map-range_with_len (λ j. count (take (512 * j) l)) 0 (blocks (length l))

-- the table of a window has an entry for each block
pub length-block_counts-bits : (b : List ℕ) (o n : ℕ)
    → length (block_counts (bits b o n)) ≡ blocks n
length-block_counts-bits b o n = length-block_counts (bits b o n) ∙ ap blocks (length-bits b o n)

-- an entry is a count
pub at-block_counts : (l : List Bool) (j : ℕ)
    → j < blocks (length l) → get_or (block_counts l) j 0 ≡ count (take (512 * j) l)
unfolding block_counts
at-block_counts l j h = get_or-map-range_with_len (λ j. count (take (512 * j) l)) 0
    (blocks (length l)) j j 0 h (omega arith)

-- an entry of a window's table is the count of a front of the window
pub at-block_counts-bits : (b : List ℕ) (o n j : ℕ)
    → j < blocks n → get_or (block_counts (bits b o n)) j 0 ≡ count (bits b o (512 * j))
at-block_counts-bits b o n j h =
    let e = length-bits b o n in
    at-block_counts (bits b o n) j (omega (arith, e))
    ∙ ap count (take-bits b o n (512 * j) (omega arith))

-- a block of the table is a block of the window
pub inside : (b t : List ℕ) (o n : ℕ)
    → t ≡ block_counts (bits b o n) → (j : ℕ) → j < length t → j < blocks n
inside b t o n e j h = omega (arith, h, ap length e, length-block_counts-bits b o n)

-- a block has no more set bits before it than bits
pub entry-le : (b t : List ℕ) (o n : ℕ)
    → t ≡ block_counts (bits b o n) → (j : ℕ) → j < length t → get_or t j 0 ≤ 512 * j
entry-le b t o n e j h = rw e (omega
    (arith, at-block_counts-bits b o n j (inside b t o n e j h), count-bits-le b o (512 * j)))

-- the number of values before a block, by the table, is the count of a front of the window
pub count_before-table : (v : Bool) (b t : List ℕ) (o n : ℕ) → t ≡ block_counts (bits b o n)
    → (j : ℕ) → j < length t → count_before 512 v t j ≡ count (hits v (bits b o (512 * j)))
count_before-table true b t o n e j h =
    ap (λ x. get_or x j 0) e ∙ at-block_counts-bits b o n j (inside b t o n e j h)
count_before-table false b t o n e j h =
    omega (
      arith,
      ap (λ x. get_or x j 0) e ∙ at-block_counts-bits b o n j (inside b t o n e j h),
      count-hits-bits_false false b o (512 * j) refl,
    )

-- a later block has no fewer values before it
pub count_before-mono : (v : Bool) (b t : List ℕ) (o n : ℕ)
    → t ≡ block_counts (bits b o n) → (i j : ℕ) → i ≤ j → j < length t
    → count_before 512 v t i ≤ count_before 512 v t j
count_before-mono v b t o n e i j order h =
    let more = count-hits-bits_split v b o
    (512 * i) (512 * j) (o + 512 * i) (512 * j - 512 * i) refl (omega arith) in
    omega (
      arith,
      more,
      count_before-table v b t o n e i (omega (arith, order, h)),
      count_before-table v b t o n e j h,
    )

-- the table of a window can be searched by halves
pub Rises-table : (v : Bool) (b t : List ℕ) (o n : ℕ)
    → t ≡ block_counts (bits b o n) → Rises 512 v t
Rises-table v b t o n e =
    record { small = entry-le b t o n e; rising = count_before-mono v b t o n e }

-- ---- the block of a select
-- the bit that the search of the block finds is the one of the window
pub Selects-block_some : (v : Bool) (b t : List ℕ) (o n r j m k p : ℕ)
    → t ≡ block_counts (bits b o n) → BeginsBefore 512 v t r j m → k ≡ min (n - 512 * j) 512
    → Selects (hits v (bits b (o + 512 * j) k)) (r - m) (Some p)
    → Selects (hits v (bits b o n)) r (Some (512 * j + p))
Selects-block_some v b t o n r j m k p e f cut s =
    let before = count_before-table v b t o n e j f.within in
    let found =
    Searched_after v b o (512 * j) k r (r - m) p (omega (arith, before, f.before, f.low)) s in
    Searched_longer v b o
    (512 * j + k) n r (512 * j + p) (omega (arith, cut, inside b t o n e j f.within)) found

-- if the search of the block finds none, the window has none
pub Selects-block_none : (v : Bool) (b t : List ℕ) (o n r j m k : ℕ)
    → t ≡ block_counts (bits b o n) → BeginsBefore 512 v t r j m → k ≡ min (n - 512 * j) 512
    → Selects (hits v (bits b (o + 512 * j) k)) (r - m) None
    → Selects (hits v (bits b o n)) r None
Selects-block_none v b t o n r j m k e f cut s =
    let before = count_before-table v b t o n e j f.within in
    let block = inside b t o n e j f.within in
    let long = length-block_counts-bits b o n in
    let whole = count-hits-bits_split v b o (512 * j) (512 * j + k) (o + 512 * j) k refl refl in
    ⊎_elim
    (λ (more : j + 1 < length t).
    let full : 512 * j + k ≡ 512 * (j + 1) = omega (arith, cut, inside b t o n e (j + 1) more) in
    absurd (omega (
      arith,
      s,
      f.before,
      f.low,
      before,
      whole,
      f.high more,
      count_before-table v b t o n e (j + 1) more,
      ap (λ x. count (hits v (bits b o x))) full,
    )))
    (λ (last : length t ≤ j + 1).
    let full : 512 * j + k ≡ n = omega (arith, cut, block, last, ap length e, long) in
    omega
    (arith, s, f.before, f.low, before, whole, ap (λ x. count (hits v (bits b o x))) full))
    (cases_lt (j + 1) (length t))

-- ---- halves
-- the upper half is left, if at most n values are before it
pub narrows-up : (w : ℕ) (v : Bool) (t : List ℕ) (n j m k here : ℕ)
    → Narrows w v t n j m k → 2 ≤ k → (Rises w v t → here ≡ count_before w v t (j + k / 2))
    → here ≤ n → Narrows w v t n (j + k / 2) here (k - k / 2)
narrows-up w v t n j m k here f two is low =
    let end : j + k / 2 + (k - k / 2) ≡ j + k = omega arith in
    record {
      some = omega (arith, two);
      within = omega (arith, f.within);
      low = low;
      before = is;
      above = λ r more. subst (λ x. n < count_before w v t x) (sym end)
          (f.above r (omega (arith, more, end)));
    }

-- else the lower half is left
pub narrows-down : (w : ℕ) (v : Bool) (t : List ℕ) (n j m k here : ℕ)
    → Narrows w v t n j m k → 2 ≤ k → (Rises w v t → here ≡ count_before w v t (j + k / 2))
    → (m ≤ here → n < here) → Narrows w v t n j m (k - k / 2)
narrows-down w v t n j m k here f two is high = record {
  some = omega (arith, two);
  within = omega (arith, f.within);
  low = f.low;
  before = f.before;
  above = λ r more.
      let inside : j + (k - k / 2) < length t = more in
      let up = r.rising j (j + k / 2) (omega arith) (omega (arith, inside)) in
      let past : n < here = high (omega (arith, up, f.before r, is r)) in
      omega (
        arith,
        r.rising (j + k / 2) (j + (k - k / 2)) (omega arith) inside,
        is r,
        past,
      );
}

-- ---- probes
-- half as many counts have one binary digit fewer
pub digits-half : (s : ℕ) → 2 ≤ s → binary_digits (s - 1) ≡ binary_digits (s - s / 2 - 1) + 1
digits-half s two =
    let half : (s - 1) / 2 ≡ s - s / 2 - 1 = omega arith in
    omega (
      arith,
      length-digits_of_step 2 (s - 1) (omega arith) (omega arith),
      ap binary_digits half,
    )

-- the next power of two
pow_more : (k : ℕ) → 2 ^ (k + 1) ≡ 2 * 2 ^ k
pow_more k =
    let e : k + 1 ≡ suc k = omega arith in
    ap (λ x. 2 ^ x) e ∙ omega arith

-- a number below 2^k has at most k binary digits
digits-le : (n k : ℕ) → n < 2 ^ k → binary_digits n ≤ k
digits-le n k h = length-digits_of-le 2 k n (omega arith) h

-- a number of k binary digits is below 2^k
lt-binary_digits_to : (m n : ℕ) → n ≤ m → n < 2 ^ binary_digits n
lt-binary_digits_to zero n h =
    let e : n ≡ 0 = omega arith in
    subst (λ x. x < 2 ^ binary_digits x) (sym e) (omega arith)
lt-binary_digits_to (suc m) zero h = omega arith
lt-binary_digits_to (suc m) (suc n) h =
    let less : (suc n) / 2 ≤ m = omega arith in
    let low = lt-binary_digits_to m (suc n / 2) less in
    let step = length-digits_of_step 2 (suc n) (omega arith) (omega arith) in
    subst (λ x. suc n < 2 ^ x) (sym step)
    (omega (arith, low, pow_more (length (digits_of 2 (suc n / 2)))))

pub lt-binary_digits : (n : ℕ) → n < 2 ^ binary_digits n
lt-binary_digits n = lt-binary_digits_to n n (omega arith)

-- a search of the table makes no more probes than the number of blocks plus one has binary digits
pub probes-le : (n : ℕ) (s t : CountedEntries) → length s.entries ≡ blocks n
    → ProbesExactly (binary_digits (length s.entries - 1)) s t
    → ProbesAtMost (binary_digits (blocks n + 1)) s t
probes-le n s t e h = record {
  same = h.same;
  probes = omega (
    arith,
    h.probes,
    digits-le (length s.entries - 1) (binary_digits (blocks n + 1))
        (omega (arith, e, lt-binary_digits (blocks n + 1))),
  );
}

-- a power of two above 128 is 128 times a power of two
pow-above_128 : (k : ℕ) → 128 < 2 ^ k → (7 ≤ k) × (2 ^ k ≡ 128 * 2 ^ (k - 7))
pow-above_128 zero h = absurd (omega arith)
pow-above_128 (suc zero) h = absurd (omega arith)
pow-above_128 (suc (suc zero)) h = absurd (omega arith)
pow-above_128 (suc (suc (suc zero))) h = absurd (omega arith)
pow-above_128 (suc (suc (suc (suc zero)))) h = absurd (omega arith)
pow-above_128 (suc (suc (suc (suc (suc zero))))) h = absurd (omega arith)
pow-above_128 (suc (suc (suc (suc (suc (suc zero)))))) h = absurd (omega arith)
pow-above_128 (suc (suc (suc (suc (suc (suc (suc k))))))) h =
    let e : suc (suc (suc (suc (suc (suc (suc k)))))) - 7 ≡ k = omega arith in (
      omega arith,
      subst (λ x. 2 ^ suc (suc (suc (suc (suc (suc (suc k)))))) ≡ 128 * 2 ^ x) (sym e)
          (omega arith),
    )

-- a search of the groups, and then of the blocks of one of them, makes no more probes either
pub digits-of_group-le : (n g b : ℕ) → g ≡ div_ceil n 65536 → b ≤ blocks n → b ≤ 128
    → binary_digits (g - 1) + binary_digits (b - 1) ≤ binary_digits (blocks n + 1)
digits-of_group-le n g b groups part small =
    let d : ℕ = binary_digits (blocks n + 1) in
    let above : blocks n + 1 < 2 ^ d = lt-binary_digits (blocks n + 1) in
    ⊎_elim
    (λ (more : 1 < g).
    let split = pow-above_128 d (omega (arith, more, groups, above)) in
    omega (
      arith,
      split.0,
      digits-le (g - 1) (d - 7) (omega (arith, split.1, groups, above)),
      digits-le (b - 1) 7 (omega (arith, small)),
    ))
    (λ (one : g ≤ 1). omega (
      arith,
      digits-le (g - 1) 0 (omega (arith, one)),
      digits-le (b - 1) d (omega (arith, part, above)),
    ))
    (cases_lt 1 g)
