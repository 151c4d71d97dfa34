-- The bits of a number as bytes.
use Rattle.std.proofs.Common.{◌≡◌, ℕ, ◌+◌, ◌-◌, ◌*◌, ◌/◌, ◌%◌, ◌^◌, ◌<◌, ◌≤◌, List, [], ◌∷◌}
use Rattle.std.proofs.Common.{◌++◌, cond, length, map, get_or, take, drop, refl, sym, ap, ◌∙◌}
use Rattle.std.proofs.Common.{arith, zero-add}
use Rattle.std.specs.Int.{from_bool}
use Rattle.std.specs.List.{range_with_len}
use Rattle.std.specs.Prelude.{bit_and, nat_lt}
use lib.Lanes.{top, put_chunk}
use borrow.Rule.Slice.PartMut.{put_mid}
use Rattle.std.proofs.Math.Seq.{take-append_seam}
use Rattle.std.proofs.lemmas.List.{map-append, length-map, length-take, length-drop, drop-drop}
use Rattle.std.proofs.lemmas.List.{take-append-drop, take-map}
use Rattle.std.proofs.lemmas.List.FromFn.{get_or-map-range_with_len}
use Rattle.std.proofs.lemmas.Simd.{put_chunk_whole}
use Rattle.std.proofs.lemmas.Slice.{take-put_mid, drop-put_mid}
use Rattle.vb_bits.specs.Bits.{bits}
use Rattle.vb_bits.specs.Digits.{digits}
use Rattle.vb_bits.proofs.BitsLemmas.{bits-add, length-bits}
use Rattle.vb_bits.proofs.DigitsLemmas.{digits-add, digits_part, length-digits}
use Rattle.vb_bits.proofs.ShiftLemmas.{digits_shr}

-- the lane for one digit of a byte y, where p is 2 to its position: 1 if the digit is 1, else 0
abbrev pub lane : ℕ → ℕ → ℕ
lane y p = cond (top 7 (cond (nat_lt (bit_and y p) 1) 255 0)) (bit_and y p) 1

-- those of all its digits
abbrev pub eight : ℕ → List ℕ
eight y =
    lane y 1 ∷ lane y 2 ∷ lane y 4 ∷ lane y 8 ∷ lane y 16 ∷ lane y 32 ∷ lane y 64 ∷ lane y 128 ∷ []

-- they are the digits, of each byte
each_byte : map eight (range_with_len 0 256)
    ≡ map (λ y. map from_bool (digits y 0 8)) (range_with_len 0 256)
unfolding digits
each_byte = refl

eight_digits : (y : ℕ) → y < 256 → eight y ≡ map from_bool (digits y 0 8)
eight_digits y h =
    sym (get_or-map-range_with_len eight 0 256 y y [] h (zero-add y))
    ∙ ap (λ l. get_or l y []) each_byte
    ∙ get_or-map-range_with_len (λ k. map from_bool (digits k 0 8)) 0 256 y y [] h (zero-add y)

-- two bytes of a number, side by side
pub sixteen_digits : (w x y : ℕ) → x ≡ w % 256 → y ≡ w / 256 % 256
    → eight x ++ eight y ≡ map from_bool (digits w 0 16)
sixteen_digits w x y low high =
    let one : x ≡ w / 2 ^ 0 % 2 ^ 8 = omega (arith, low) in
    let other : y ≡ w / 2 ^ 8 % 2 ^ 8 = omega (arith, high) in
    let first : eight x ≡ map from_bool (digits w 0 8) =
    eight_digits x (omega (arith, low))
    ∙ ap (map from_bool) (ap (λ k. digits k 0 8) one ∙ digits_part w 0 8) in
    let second : eight y ≡ map from_bool (digits w 8 8) =
    eight_digits y (omega (arith, high))
    ∙ ap (map from_bool) (ap (λ k. digits k 0 8) other ∙ digits_part w 8 8) in
    ap (λ l. l ++ eight y) first ∙ ap (λ l. map from_bool (digits w 0 8) ++ l) second
    ∙ sym (map-append from_bool (digits w 0 8) (digits w 8 8))
    ∙ ap (map from_bool) (sym (digits-add w 0 8 8))

-- the first digits of a word
pub digits-front : (w n : ℕ) → n ≤ 64 → take n (digits w 0 64) ≡ digits w 0 n
digits-front w n few =
    let all : 64 ≡ n + (64 - n) = omega arith in
    ap (λ k. take n (digits w 0 k)) all ∙ ap (take n) (digits-add w 0 n (64 - n))
    ∙ ap (λ k. take k (digits w 0 n ++ digits w (0 + n) (64 - n))) (sym (length-digits w 0 n))
    ∙ take-append_seam (digits w 0 n) (digits w (0 + n) (64 - n))

-- 16 bits more of a word
pub sixteen_more : (out lanes : List ℕ) (w k : ℕ) → k < 4 → length out ≡ 64
    → take (16 * k) out ≡ map from_bool (digits w 0 (16 * k))
    → lanes ≡ map from_bool (digits (w / 2 ^ (16 * k)) 0 16)
    → take (16 * (k + 1)) (put_mid (16 * k) (16 * k + 16 - 16 * k) out
    (put_chunk 0 (take (16 * k + 16 - 16 * k) (drop (16 * k) out)) lanes))
    ≡ map from_bool (digits w 0 (16 * (k + 1)))
sixteen_more out lanes w k few whole front made =
    let a : ℕ = 16 * k in
    let next : 16 * (k + 1) ≡ a + 16 = omega arith in
    let chunk = take (a + 16 - a) (drop a out) in
    let long : length chunk ≡ 16 = simp (length-take, length-drop) (omega arith) in
    let bytes = map from_bool (digits w 0 a) in
    let size : length lanes ≡ 16 =
    ap length made ∙ length-map (digits (w / 2 ^ a) 0 16) from_bool
    ∙ length-digits (w / 2 ^ a) 0 16 in
    let part : lanes ≡ map from_bool (digits w (0 + a) 16) =
    made ∙ ap (map from_bool) (digits_shr w a 16 ∙ ap (λ i. digits w i 16) (sym (zero-add a))) in
    ap (λ l. take (16 * (k + 1)) (put_mid a (a + 16 - a) out l))
    (put_chunk_whole chunk lanes (long ∙ sym size))
    ∙ ap (λ n. take n (put_mid a (a + 16 - a) out lanes)) next
    ∙ take-put_mid a (a + 16 - a) out lanes (a + 16) (ap (λ n. a + n) (sym size))
    (omega (arith, whole, few))
    ∙ ap (λ l. l ++ lanes) front ∙ ap (λ l. bytes ++ l) part
    ∙ sym (map-append from_bool (digits w 0 a) (digits w (0 + a) 16))
    ∙ ap (map from_bool) (sym (digits-add w 0 a 16) ∙ ap (digits w 0) (sym next))

-- one more word of a window
module _ (out ys b : List ℕ) (o t w : ℕ) (room : 64 * t + 64 ≤ length out)
    (made : ys ≡ map from_bool (digits w 0 64)) where
  abbrev from : ℕ
  from = 64 * t

  word_size : length ys ≡ 64
  word_size = ap length made ∙ length-map (digits w 0 64) from_bool ∙ length-digits w 0 64

  word_next : 64 * (t + 1) ≡ from + 64
  word_next = omega arith

  pub word_front : digits w 0 64 ≡ bits b (o + 64 * t) 64
      → take (64 * t) out ≡ map from_bool (bits b o (64 * t))
      → take (64 * (t + 1)) (put_mid (64 * t) (64 * t + 64 - 64 * t) out ys)
      ≡ map from_bool (bits b o (64 * (t + 1)))
  word_front read front =
      ap (λ n. take n (put_mid from (from + 64 - from) out ys)) word_next
      ∙ take-put_mid from (from + 64 - from) out ys (from + 64) (ap (λ n. from + n) (sym word_size))
      (omega (arith, room))
      ∙ ap (λ l. l ++ ys) front
      ∙ ap (λ l. map from_bool (bits b o from) ++ l) (made ∙ ap (map from_bool) read)
      ∙ sym (map-append from_bool (bits b o from) (bits b (o + from) 64))
      ∙ ap (map from_bool) (sym (bits-add b o from 64) ∙ ap (bits b o) (sym word_next))

  pub word_after : (old : List ℕ) → drop (64 * t) out ≡ drop (64 * t) old
      → drop (64 * (t + 1)) (put_mid (64 * t) (64 * t + 64 - 64 * t) out ys)
      ≡ drop (64 * (t + 1)) old
  word_after old after =
      drop-put_mid from (from + 64 - from) out ys (64 * (t + 1)) (omega arith)
      (omega (arith, room)) (word_size ∙ omega arith)
      ∙ ap (λ n. drop n out) word_next ∙ sym (drop-drop 64 from out) ∙ ap (drop 64) after
      ∙ drop-drop 64 from old ∙ ap (λ n. drop n old) (sym word_next)

-- the words of a window, and the bits after them
pub unpacked_all : (out ys b old last : List ℕ) (o len w : ℕ) → len ≤ length out
    → take (64 * (len / 64)) out ≡ map from_bool (bits b o (64 * (len / 64)))
    → drop (64 * (len / 64)) out ≡ drop (64 * (len / 64)) old
    → last ≡ map from_bool (digits w 0 64)
    → digits w 0 (len % 64) ≡ bits b (o + 64 * (len / 64)) (len % 64) → ys ≡ take (len % 64) last
    → put_mid (64 * (len / 64)) (len - 64 * (len / 64)) out ys
    ≡ map from_bool (bits b o len) ++ drop len old
unpacked_all out ys b old last o len w room front after made read copied =
    let a : ℕ = 64 * (len / 64) in
    let r : ℕ = len % 64 in
    let whole : a + r ≡ len = omega arith in
    let new = put_mid a (len - a) out ys in
    let part : ys ≡ map from_bool (bits b (o + a) r) =
    copied ∙ ap (take r) made ∙ take-map from_bool r (digits w 0 64)
    ∙ ap (map from_bool) (digits-front w r (omega arith) ∙ read) in
    let size : length ys ≡ r =
    ap length part ∙ length-map (bits b (o + a) r) from_bool ∙ length-bits b (o + a) r in
    let first : take len new ≡ take a out ++ ys =
    take-put_mid a (len - a) out ys len (omega (arith, whole, size)) (omega (arith, whole, room)) in
    let behind : drop len new ≡ drop len out =
    drop-put_mid a (len - a) out ys len (omega (arith, whole)) (omega (arith, whole, room))
    (omega (arith, whole, size)) in
    let rest : drop len out ≡ drop len old =
    ap (λ n. drop n out) (sym whole) ∙ sym (drop-drop r a out) ∙ ap (drop r) after
    ∙ drop-drop r a old ∙ ap (λ n. drop n old) whole in
    sym (take-append-drop len new)
    ∙ ap (λ l. l ++ drop len new) (first ∙ ap (λ l. l ++ ys) front
    ∙ ap (λ l. map from_bool (bits b o a) ++ l) part
    ∙ sym (map-append from_bool (bits b o a) (bits b (o + a) r))
    ∙ ap (map from_bool) (sym (bits-add b o a r) ∙ ap (bits b o) whole))
    ∙ ap (λ l. map from_bool (bits b o len) ++ l) (behind ∙ rest)
