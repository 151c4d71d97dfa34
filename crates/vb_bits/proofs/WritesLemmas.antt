-- Writes of bits: runs of bytes, words, successive writes, and the window after a write.
use Rattle.std.proofs.Common.{◌≡◌, ◌⊎◌, inl, inr, ℕ, zero, suc, ◌+◌, ◌-◌, ◌*◌, ◌/◌, ◌%◌, ◌^◌, ◌<◌}
use Rattle.std.proofs.Common.{◌≤◌, Bool, true, false, not, List, [], ◌∷◌, ◌++◌, length, get_or, set}
use Rattle.std.proofs.Common.{take, drop, replicate, refl, sym, ap, subst, ◌∙◌, arith, rules}
use Rattle.std.proofs.Common.{zero-add, add-zero}
use Rattle.std.proofs.lemmas.List.{places, length-append, length-replicate, length-map, length-drop}
use Rattle.std.proofs.lemmas.List.{get_or-replicate, get_or-append_right}
use Rattle.std.proofs.lemmas.List.{replicate-append-replicate, map-append, set_split, append-nil}
use Rattle.std.proofs.lemmas.List.{append_assoc, drop_all, get_or_push}
use Rattle.std.proofs.lemmas.Bool.{cases_lt}
use Rattle.std.proofs.lemmas.Simd.{put_chunk_whole}
use Rattle.std.specs.Int.{bit_not, from_bool, w64, to_le_bytes, bytes_low_first}
use Rattle.std.specs.Simd.Lanes.{put_chunk}
use Rattle.std.specs.Prelude.{slice_range}
use borrow.Rule.Slice.PartMut.{put_mid}
use Rattle.vb_bits.specs.Bits.{bit_of, bits, complement}
use Rattle.vb_bits.specs.Digits.{has_bit, digits}
use Rattle.vb_bits.specs.Edits.{with_part, with_fill}
use Rattle.vb_bits.specs.Writes.{Writes, extension}
use Rattle.vb_bits.proofs.BitsLemmas.{at-bits, length-bits, take-bits, drop-bits, bits-add}
use Rattle.vb_bits.proofs.BitsLemmas.{same_bits}
use Rattle.vb_bits.proofs.BytesLemmas.{bits-to_le_bytes, bits-bytes_low_first, bits_of_read}
use Rattle.vb_bits.proofs.DigitsLemmas.{digits-bit_not}
use Rattle.vb_bits.proofs.WrittenLemmas.{IsWindowed, Written, Written_by_values, Written-at}
use Rattle.vb_bits.proofs.WrittenLemmas.{Written-add}
use Rattle.vb_bits.proofs.WindowLemmas.{bits-append, bit_of-append, bit_of-extension}

-- ---- writes by their bits
-- the bits of bytes in order
pub bits_windowed : IsWindowed bit_of bits
bits_windowed = record { len = length-bits; at = at-bits }

-- a write, with and without the number of bytes
pub Written_of : {b c : List ℕ} {o : ℕ} {m : List Bool}
    → Writes b c o m → Written bit_of bits b c o m
Written_of w = record { window_is = w.window; others = w.others }

pub Writes_of : {b c : List ℕ} {o : ℕ} {m : List Bool} → length c ≡ length b
    → Written bit_of bits b c o m → Writes b c o m
Writes_of same w = record { same_len = same; window = w.window_is; others = w.others }

-- a write, given bit by bit
pub Writes_by_bits : (b c : List ℕ) (o : ℕ) (m : List Bool) → length c ≡ length b
    → ((i : ℕ) (d : Bool) → i < length m → bit_of c (o + i) ≡ get_or m i d)
    → ((i : ℕ) → (i < o) ⊎ (o + length m ≤ i) → bit_of c i ≡ bit_of b i) → Writes b c o m
Writes_by_bits b c o m same inside others =
    Writes_of same (Written_by_values bit_of bits bits_windowed b c o m inside others)

-- a bit that was written
pub Writes-at : (b c : List ℕ) (o i : ℕ) (m : List Bool) (d : Bool) → Writes b c o m
    → i < length m → bit_of c (o + i) ≡ get_or m i d
Writes-at b c o i m d w l = Written-at bit_of bits bits_windowed b c o i m d (Written_of w) l

-- nothing is written
pub Writes_none : (b : List ℕ) (o : ℕ) (m : List Bool) → length m ≡ 0 → Writes b b o m
Writes_none b o m e = Writes_by_bits b b o m refl (λ i d l. absurd (omega arith)) (λ i h. refl)

-- two adjacent writes are one
pub Writes-add : (b c d : List ℕ) (o p : ℕ) (l m : List Bool) → p ≡ o + length l
    → Writes b c o l → Writes c d p m → Writes b d o (l ++ m)
Writes-add b c d o p l m at one two =
    Writes_of (two.same_len ∙ one.same_len)
    (Written-add bit_of bits bits_windowed b c d o p l m at (Written_of one) (Written_of two))

-- two runs of equal bits
pub Writes-run : (b c d : List ℕ) (o p m n k : ℕ) (v : Bool) → Writes b c o (replicate m v)
    → Writes c d p (replicate n v) → p ≡ o + m → k ≡ m + n → Writes b d o (replicate k v)
Writes-run b c d o p m n k v one two at whole =
    let long : length (replicate m v) ≡ m = length-replicate m v in
    subst (Writes b d o) (replicate-append-replicate m n v ∙ ap (λ x. replicate x v) (sym whole))
    (Writes-add b c d o p (replicate m v) (replicate n v) (omega arith) one two)

-- a window that is not written
pub bits_outside : (b c : List ℕ) (o p n : ℕ) (m : List Bool)
    → Writes b c o m → o + length m ≤ p → bits c p n ≡ bits b p n
bits_outside b c o p n m w behind =
    same_bits c b p p n (λ i h. w.others (p + i) (inr (omega arith)))

-- no bits are negated
pub Writes_negated_none : (b : List ℕ) (o n : ℕ) → n ≡ 0 → Writes b b o (complement (bits b o n))
Writes_negated_none b o n e =
    Writes_none b o (complement (bits b o n)) (length-map (bits b o n) not ∙ length-bits b o n ∙ e)

-- two windows negated
pub Writes-complement : (b c d : List ℕ) (o p m n k : ℕ)
    → Writes b c o (complement (bits b o m)) → Writes c d p (complement (bits c p n))
    → p ≡ o + m → k ≡ m + n → Writes b d o (complement (bits b o k))
Writes-complement b c d o p m n k one two at whole =
    let long : length (complement (bits b o m)) ≡ m =
    length-map (bits b o m) not ∙ length-bits b o m in
    let second : bits c p n ≡ bits b (o + m) n =
    bits_outside b c o p n (complement (bits b o m)) one (omega arith) ∙ ap (λ x. bits b x n) at in
    subst (Writes b d o)
    (ap (λ x. complement (bits b o m) ++ complement x) second ∙ sym (map-append not (bits b o m)
    (bits b (o + m) n)) ∙ ap complement (sym (bits-add b o m n) ∙ ap (bits b o) (sym whole)))
    (Writes-add b c d o p (complement (bits b o m)) (complement (bits c p n)) (omega arith) one two)

-- ---- runs of bytes
-- a byte of a run that was written
pub get_or-put_mid_inside : (a k : ℕ) (xs ys : List ℕ) (j : ℕ) → length ys ≡ k → a + k ≤ length xs
    → j < k → get_or (put_mid a k xs ys) (a + j) 0 ≡ get_or ys j 0
get_or-put_mid_inside a k xs ys j long within h = search (rules, places)

-- a byte outside of the run
pub get_or-put_mid_outside : (a k : ℕ) (xs ys : List ℕ) (j : ℕ) → length ys ≡ k → a + k ≤ length xs
    → (j < a) ⊎ (a + k ≤ j) → get_or (put_mid a k xs ys) j 0 ≡ get_or xs j 0
get_or-put_mid_outside a k xs ys j long within (inl h) = search (rules, places)
get_or-put_mid_outside a k xs ys j long within (inr h) = search (rules, places)

-- the number of bytes is unchanged
pub length-put_mid : (a k : ℕ) (xs ys : List ℕ)
    → length ys ≡ k → a + k ≤ length xs → length (put_mid a k xs ys) ≡ length xs
length-put_mid a k xs ys long within = search (rules, places)

-- a run of bytes is written
pub Writes-put_mid : (b ys : List ℕ) (a k : ℕ) (m : List Bool) → length ys ≡ k → a + k ≤ length b
    → bits ys 0 (8 * k) ≡ m → Writes b (put_mid a k b ys) (8 * a) m
Writes-put_mid b ys a k m long within e =
    let size : length m ≡ 8 * k = sym (ap length e) ∙ length-bits ys 0 (8 * k) in
    Writes_by_bits b (put_mid a k b ys) (8 * a) m (length-put_mid a k b ys long within)
    (λ i d l.
    let byte : (8 * a + i) / 8 ≡ a + i / 8 = omega arith in
    let digit : (8 * a + i) % 8 ≡ i % 8 = omega arith in
    ap (λ j. has_bit (get_or (put_mid a k b ys) j 0) ((8 * a + i) % 8)) byte
    ∙ ap (λ x. has_bit x ((8 * a + i) % 8))
    (get_or-put_mid_inside a k b ys (i / 8) long within (omega arith))
    ∙ ap (has_bit (get_or ys (i / 8) 0)) digit
    ∙ sym (ap (λ x. get_or x i d) (sym e)
    ∙ at-bits ys 0 (8 * k) i d (omega arith) ∙ ap (bit_of ys) (zero-add i)))
    (λ i h. ap (λ x. has_bit x (i % 8)) (get_or-put_mid_outside a k b ys (i / 8) long within
    (elim h [ inl low ↦ inl (omega arith) | inr high ↦ inr (omega arith) ])))

-- the k bytes of a number are written
pub Writes_number : (b xs ys : List ℕ) (a k w z : ℕ) → ys ≡ bytes_low_first 0 k w → length ys ≡ k
    → length xs ≡ k → z ≡ k → a + k ≤ length b
    → Writes b (put_mid a z b (put_chunk 0 xs ys)) (8 * a) (digits w 0 (8 * k))
Writes_number b xs ys a k w z is size long count within =
    let over : put_chunk 0 xs ys ≡ ys = put_chunk_whole xs ys (long ∙ sym size) in
    Writes-put_mid b (put_chunk 0 xs ys) a z (digits w 0 (8 * k))
    (ap length over ∙ size ∙ sym count) (omega arith)
    (ap (λ n. bits (put_chunk 0 xs ys) 0 (8 * n)) count ∙ ap (λ l. bits l 0 (8 * k)) over
    ∙ ap (λ l. bits l 0 (8 * k)) is ∙ bits-bytes_low_first k w 0 (8 * k) (omega arith))

-- a word is negated
pub Writes_not_word : (b c : List ℕ) (a w : ℕ) → w < 2 ^ 64
    → to_le_bytes w64 w ≡ slice_range b a (a + 8) → Writes b c (8 * a) (digits (bit_not w64 w) 0 64)
    → Writes b c (8 * a) (complement (bits b (8 * a) 64))
Writes_not_word b c a w small read written =
    subst (Writes b c (8 * a))
    (digits-bit_not w64 w 0 64 small (omega arith) ∙ ap complement (sym (bits-to_le_bytes w 0 64
    (omega arith)) ∙ bits_of_read b b (to_le_bytes w64 w) a 8 (8 * a) refl read refl))
    written

-- ---- a window of the bytes after a write
-- a part inside the window
pub bits-with_part : (b c : List ℕ) (o n i : ℕ) (m : List Bool)
    → Writes b c (o + i) m → i + length m ≤ n → bits c o n ≡ with_part (bits b o n) i m
bits-with_part b c o n i m w h =
    let k : ℕ = i + length m in
    let rest : ℕ = n - k in
    let whole : n ≡ k + rest = omega arith in
    let front : bits c o i ≡ take i (bits b o n) =
    same_bits c b o o i (λ j l. w.others (o + j) (inl (omega arith)))
    ∙ sym (take-bits b o n i (omega arith)) in
    let back : bits c (o + k) rest ≡ drop k (bits b o n) =
    bits_outside b c (o + i) (o + k) rest m w (omega arith)
    ∙ sym (drop-bits b o k rest) ∙ ap (λ x. drop k (bits b o x)) (sym whole) in
    ap (bits c o) whole ∙ bits-add c o k rest
    ∙ ap (λ x. x ++ bits c (o + k) rest)
    (bits-add c o i (length m) ∙ ap (λ x. x ++ bits c (o + i) (length m)) front
    ∙ ap (λ x. take i (bits b o n) ++ x) w.window)
    ∙ ap (λ x. take i (bits b o n) ++ m ++ x) back

-- one bit inside the window
pub bits-set : (b c : List ℕ) (o n i : ℕ) (v : Bool)
    → Writes b c (o + i) (v ∷ []) → i < n → bits c o n ≡ set (bits b o n) i v
bits-set b c o n i v w h =
    let l : List Bool = bits b o n in
    let next : i + 1 ≡ suc i = omega arith in
    bits-with_part b c o n i (v ∷ []) w (omega arith) ∙ append_assoc (take i l)
    (v ∷ []) (drop (i + 1) l) ∙ ap (λ x. take i l ++ v ∷ drop x l) next
    ∙ sym (set_split l i v (omega (arith, length-bits b o n)))

-- a run inside the window
pub bits-with_fill : (b c : List ℕ) (o n i j : ℕ) (v : Bool)
    → Writes b c (o + i) (replicate (j - i) v)
    → i ≤ j → j ≤ n → bits c o n ≡ with_fill (bits b o n) i j v
bits-with_fill b c o n i j v w h le =
    bits-with_part b c o n i (replicate (j - i) v) w (omega (arith, length-replicate (j - i) v))

-- every bit negated
pub bits-complement : (b c : List ℕ) (o n : ℕ)
    → Writes b c o (complement (bits b o n)) → bits c o n ≡ complement (bits b o n)
bits-complement b c o n w =
    ap (bits c o) (sym (length-map (bits b o n) not ∙ length-bits b o n)) ∙ w.window

-- ---- extended bytes
-- a write within the old bytes
pub Writes-extension : (b c : List ℕ) (o : ℕ) (m : List Bool)
    → Writes b c o m → Writes (extension b c) c o m
Writes-extension b c o m w =
    let none : drop (length b) c ≡ [] = drop_all (length b) c (omega (arith, w.same_len)) in
    subst (λ (x : List ℕ). Writes x c o m) (sym (ap (λ x. b ++ x) none ∙ append-nil b)) w

-- the bits after the first o are m, and m ends in the new bytes
pub Writes_behind : (b c : List ℕ) (o : ℕ) (m : List Bool) → length b ≤ length c
    → o ≤ 8 * length b → 8 * length b ≤ o + length m → ((i : ℕ) → i < o → bit_of c i ≡ bit_of b i)
    → ((i : ℕ) (d : Bool) → i < length m → bit_of c (o + i) ≡ get_or m i d)
    → Writes (extension b c) c o m
Writes_behind b c o m more low high kept inside =
    Writes_by_bits (extension b c) c o m
    (omega (arith, length-append b (drop (length b) c), length-drop (length b) c)) inside
    (λ i h. elim h [
      | inl before ↦ kept i before ∙ sym (bit_of-append b (drop (length b) c) i (omega arith))
      | inr after ↦ sym (bit_of-extension b c i (omega arith))
    ])

-- a bit of appended bytes whose digits are all v
bit_of_added : (b : List ℕ) (k y i : ℕ) (v : Bool) → ((j : ℕ) → j < 8 → has_bit y j ≡ v)
    → 8 * length b ≤ i → i < 8 * (length b + k) → bit_of (b ++ replicate k y) i ≡ v
bit_of_added b k y i v h low high =
    ap (λ x. has_bit x (i % 8)) (get_or-append_right b (replicate k y) (length b)
    (i / 8) 0 refl (omega arith) ∙ get_or-replicate k (i / 8 - length b) y 0 (omega arith))
    ∙ h (i % 8) (omega arith)

-- an appended byte whose lowest digit is v
pub Writes_push : (b c : List ℕ) (o y : ℕ) (v : Bool)
    → c ≡ b ++ y ∷ [] → y ≡ from_bool v → o ≡ 8 * length b → Writes (extension b c) c o (v ∷ [])
Writes_push b c o y v e f at =
    let byte : length b ≡ o / 8 = omega arith in
    let digit : o % 8 ≡ 0 = omega arith in
    let bit : bit_of c o ≡ v =
    ap (λ l. bit_of l o) e ∙ ap (λ x. has_bit x (o % 8)) (get_or_push b y 0 (o / 8) byte)
    ∙ ap (has_bit y) digit ∙ ap (λ x. has_bit x 0) f ∙ lowest v in
    Writes_behind b c o
    (v ∷ []) (omega (arith, ap length e, length-append b (y ∷ []))) (omega arith) (omega arith)
    (λ i h. ap (λ l. bit_of l i) e ∙ bit_of-append b (y ∷ []) i (omega arith))
    (first v bit)
  where
    lowest : (w : Bool) → has_bit (from_bool w) 0 ≡ w
    lowest true = refl
    lowest false = refl

    first : (w : Bool)
        → bit_of c o ≡ w → (i : ℕ) (d : Bool) → i < 1 → bit_of c (o + i) ≡ get_or (w ∷ []) i d
    first w e zero d l = ap (bit_of c) (add-zero o) ∙ e
    first w e (suc i) d l = absurd (omega arith)

-- a run of v: written up to the old end, and then in appended bytes whose digits are all v
pub Writes_push_run : (b with_more c : List ℕ) (o n k y e : ℕ) (v : Bool)
    → with_more ≡ b ++ replicate k y → ((j : ℕ) → j < 8 → has_bit y j ≡ v) → e ≡ 8 * length b
    → o ≤ e → e ≤ o + n → o + n ≤ 8 * (length b + k)
    → Writes with_more c o (replicate (e - o) v) → Writes (extension b c) c o (replicate n v)
Writes_push_run b with_more c o n k y e v more h whole low high fits w =
    let size : length (replicate n v) ≡ n = length-replicate n v in
    let part : length (replicate (e - o) v) ≡ e - o = length-replicate (e - o) v in
    let longer : length with_more ≡ length b + length (replicate k y) =
    ap length more ∙ length-append b (replicate k y) in
    Writes_behind b c o (replicate n v) (omega (arith, w.same_len)) (omega arith) (omega arith)
    (λ i l. w.others i (inl l)
    ∙ ap (λ x. bit_of x i) more ∙ bit_of-append b (replicate k y) i (omega arith))
    (λ i d l.
    elim (cases_lt i (e - o)) [
      | inl inside ↦ Writes-at with_more c o i (replicate (e - o) v) d w (omega arith)
          ∙ get_or-replicate (e - o) i v d inside
      | inr past ↦ w.others (o + i) (inr (omega arith)) ∙ ap (λ x. bit_of x (o + i)) more
          ∙ bit_of_added b k y (o + i) v h (omega arith) (omega arith)
    ]
    ∙ sym (get_or-replicate n i v d (omega arith)))

-- a window extended by the bits written after it
pub bits_behind : (b c : List ℕ) (o n : ℕ) (m : List Bool) → Writes (extension b c) c (o + n) m
    → o + n ≤ 8 * length b → bits c o (n + length m) ≡ bits b o n ++ m
bits_behind b c o n m w h =
    bits-add c o n (length m)
    ∙ ap (λ x. x ++ bits c (o + n) (length m)) (same_bits c (extension b c) o o n
    (λ i l. w.others (o + i) (inl (omega arith))) ∙ bits-append b (drop (length b) c) o n h)
    ∙ ap (λ x. bits b o n ++ x) w.window

-- a window extended by one bit
pub bits-pushed : (b c : List ℕ) (o n : ℕ) (v : Bool) → Writes (extension b c) c (o + n) (v ∷ [])
    → o + n ≤ 8 * length b → bits c o (n + 1) ≡ bits b o n ++ v ∷ []
bits-pushed b c o n v w h = bits_behind b c o n (v ∷ []) w h

-- a window extended by a run
pub bits-extended : (b c : List ℕ) (o n k : ℕ) (v : Bool) → Writes (extension b c) c
    (o + n) (replicate k v) → o + n ≤ 8 * length b → bits c o (n + k) ≡ bits b o n ++ replicate k v
bits-extended b c o n k v w h = ap (λ x. bits c o (n + x)) (sym (length-replicate k v))
    ∙ bits_behind b c o n (replicate k v) w h

-- ---- for `#[tactic(auto, using(..))]`
-- windows after writes, and of extended bytes
pub ruleset writes = (
  bits-set,
  bits-with_fill,
  bits-complement,
  bits-pushed,
  bits-extended,
  Writes-extension,
  Writes_push,
)
