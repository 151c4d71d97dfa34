-- Walks over a window by words.
use Rattle.std.proofs.Common.{◌≡◌, inl, inr, ℕ, ◌+◌, ◌-◌, ◌*◌, ◌^◌, ◌<◌, ◌≤◌, Bool, false, cond}
use Rattle.std.proofs.Common.{eqb, List, [], ◌∷◌, refl, sym, ap, ◌∙◌, subst, arith}
use Rattle.std.proofs.lemmas.Bool.{lt-ltb, le-ltb, cases_lt}
use Rattle.std.specs.Int.{bit_at, trailing_zeros, w64}
use Rattle.std.specs.Int.Bits.{bit_and}
use Rattle.std.proofs.lemmas.Nat.Bits.{bit_at-trailing_zeros, bit_at_above}
use Rattle.std.proofs.Math.Pow.{pow_mono}
use Rattle.vb_bits.specs.Bits.{bit_of, bits, places}
use Rattle.vb_bits.specs.Digits.{has_bit}
use Rattle.vb_bits.proofs.WindowLemmas.{digits-clear}
use Rattle.vb_walk.specs.declared.cursor.Cursor.{Cursor}
use Rattle.vb_walk.specs.declared.other_word.OtherWord.{OtherWord}
use Rattle.vb_walk.specs.Walks.{bits_ahead, stop, at_word, pending_bit, places_in, places_left}
use Rattle.vb_walk.specs.Walks.{AreAll}
use Rattle.vb_walk.specs.Walks.{IsOther, IsAtRest, IsCursor, IsRefilled, IsSkipped}
use Rattle.vb_walk.proofs.OnesLemmas.{lowest_off}
use Rattle.vb_walk.proofs.PlacesLemmas.{places_in_skip, places_in_empty, places_in_first}
use Rattle.vb_walk.proofs.PlacesLemmas.{places-bits, same_places_in}

-- the remaining bits below `next`, and from there on
pub pending_below : (b : List ℕ) (c : Cursor) (i : ℕ)
    → i < c.next → pending_bit b c i ≡ has_bit c.word (i - c.base)
pending_below b c i l =
    ap (λ x. cond x (has_bit c.word (i - c.base)) (bit_of b (c.offset + i))) (lt-ltb i c.next l)

pub pending_ahead : (b : List ℕ) (c : Cursor) (i : ℕ)
    → c.next ≤ i → pending_bit b c i ≡ bit_of b (c.offset + i)
pending_ahead b c i l =
    ap (λ x. cond x (has_bit c.word (i - c.base)) (bit_of b (c.offset + i))) (le-ltb i c.next l)

-- no bits of a word that is 0 remain
pub pending_zero : (b : List ℕ) (c : Cursor) (i : ℕ)
    → c.word ≡ 0 → i < c.next → pending_bit b c i ≡ false
pending_zero b c i z l =
    pending_below b c i l ∙ ap (λ w. has_bit w (i - c.base)) z ∙ digits-clear (i - c.base)

-- ---- another current word
-- one of the words ahead
pub refilled_by_word : (b : List ℕ) (c : Cursor) (v : Bool) (o : OtherWord) (d : Cursor)
    → IsCursor b c → IsOther b c.byte c.end v o → d ≡ at_word c o → IsRefilled b c v d
refilled_by_word b c v o d valid other e =
    let here = valid.here (omega (arith, other.from, other.within)) in
    let size : 8 * o.behind - c.offset - (8 * o.behind - c.offset - 64) ≡ 64 =
    omega (arith, other.from) in
    rw e (record {
      valid = record {
        room = omega (arith, valid.room, other.from, other.within);
        fits = omega (arith, valid.fits, other.from, other.within);
        walked = omega arith;
        near = omega arith;
        clear = subst (λ k. o.word < 2 ^ k) (sym size) other.fits;
        order = other.within;
        inside = valid.inside;
        whole = other.whole;
        short = valid.short;
        here = λ some. omega (arith, other.from);
      };
      offset = refl;
      ends = omega (arith, other.from, other.within);
      later = omega (arith, other.from);
      passed = λ i lo hi. other.passed (c.offset + i) (omega arith) (omega (arith, other.from));
      read = λ i lo hi.
          let place : 8 * (o.behind - 8) + (i - (8 * o.behind - c.offset - 64)) ≡ c.offset + i =
          omega (arith, other.from) in
          other.read (i - (8 * o.behind - c.offset - 64)) (omega (arith, other.from))
          ∙ ap (bit_of b) place;
      other = inl (other.other, omega (arith, other.from));
    })

-- the bits after the whole words, whose digits are all v
pub refilled_by_rest : (b : List ℕ) (c : Cursor) (v : Bool) (d : Cursor) → IsCursor b c
    → 0 < bits_ahead c → AreAll b v (8 * c.byte) (8 * c.end) → IsAtRest b c d → IsRefilled b c v d
refilled_by_rest b c v d valid more all rest =
    let here = valid.here more in
    record {
      valid = rest.valid;
      offset = rest.offset;
      ends = rest.ends;
      later = omega (arith, rest.base, rest.offset, valid.order);
      passed = λ i lo hi. all (c.offset + i) (omega arith) (omega (arith, rest.base, rest.offset));
      read = rest.read;
      other = inr (rest.last, rest.short);
    }

-- if the current word is 0, only zeros are passed
pub skipped : (b : List ℕ) (c d : Cursor)
    → IsCursor b c → c.word ≡ 0 → IsRefilled b c false d → IsSkipped b c d
skipped b c d v z r = record {
  valid = r.valid;
  ends = r.ends;
  later = omega (arith, v.walked, r.later);
  passed = λ i lo hi. elim (cases_lt i c.next) [
    | inl below ↦ pending_zero b c i z below
    | inr above ↦ pending_ahead b c i above ∙ r.passed i above hi
  ];
  same = λ i lo hi. elim (cases_lt i d.next) [
    | inl below ↦ pending_below b d i below
        ∙ r.read i lo below ∙ sym (pending_ahead b c i (omega (arith, r.later)))
    | inr above ↦ pending_ahead b d i above
        ∙ ap (λ o. bit_of b (o + i)) r.offset ∙ sym (pending_ahead b c i (omega (arith, r.later)))
  ];
  last = λ none. elim r.other [ inl o ↦ absurd (o.0 none) | inr o ↦ o.0 ];
}

-- ---- indices
-- the indices at the front of a window
pub places_left_front : (b : List ℕ) (c : Cursor) (o n : ℕ) → c.base ≡ 0 → stop c ≡ n
    → ((i : ℕ) → i < n → pending_bit b c i ≡ bit_of b (o + i))
    → places_left b c ≡ places (bits b o n)
places_left_front b c o n front all h =
    let size : stop c - c.base ≡ n = omega arith in
    ap (places_in (pending_bit b c) c.base) size
    ∙ ap (λ a. places_in (pending_bit b c) a n) front ∙ places-bits (pending_bit b c) b o n h

-- passed zeros
pub places_left-skip : (b : List ℕ) (c d : Cursor)
    → IsSkipped b c d → places_left b c ≡ places_left b d
places_left-skip b c d s =
    let v = s.valid in
    places_in_skip (pending_bit b c) c.base (d.base - c.base) (stop c - c.base) d.base
    (stop d - d.base)
    (omega (arith, s.later)) (omega (arith, s.later, s.ends, v.walked)) s.passed
    ∙ sym (same_places_in (pending_bit b d)
    (pending_bit b c) d.base (stop d - d.base) (λ i l r. s.same i l (omega (arith, v.walked))))

-- no indices remain if the current word is 0 and no bits are ahead
pub places_left_none : (b : List ℕ) (c : Cursor)
    → IsCursor b c → c.word ≡ 0 → bits_ahead c ≡ 0 → places_left b c ≡ []
places_left_none b c v z none = places_in_empty (pending_bit b c) c.base
    (stop c - c.base) (λ i l r. pending_zero b c i z (omega (arith, v.walked)))

-- the lowest 1 of the current word
pub lowest_inside : (b : List ℕ) (c : Cursor)
    → IsCursor b c → 0 < c.word → c.word < 2 ^ 64 → trailing_zeros w64 c.word < c.next - c.base
lowest_inside b c v some fits =
    let z = bit_at-trailing_zeros w64 c.word some fits in
    elim (cases_lt (trailing_zeros w64 c.word) (c.next - c.base)) [
      | inl l ↦ l
      | inr g ↦ let none : bit_at c.word (trailing_zeros w64 c.word) ≡ 0 =
          bit_at_above c.word (c.next - c.base) (trailing_zeros w64 c.word) v.clear g in
          absurd (omega (arith, z.1))
    ]

-- its index, and the remaining ones without it
pub places_left-step : (b : List ℕ) (c d : Cursor) → IsCursor b c
    → 0 < c.word → c.word < 2 ^ 64 → d ≡ record c { word = bit_and c.word (c.word - 1) }
    → places_left b c ≡ (c.base + trailing_zeros w64 c.word) ∷ places_left b d
places_left-step b c d v some fits e =
    let w : ℕ = c.word in
    let low : ℕ = trailing_zeros w64 w in
    let next : Cursor = record c { word = bit_and w (w - 1) } in
    let z = bit_at-trailing_zeros w64 w some fits in
    let off = lowest_off w low z.1 z.2 in
    let inside : low < c.next - c.base = lowest_inside b c v some fits in
    let place : c.base + low - c.base ≡ low = omega arith in
    places_in_first (pending_bit b c) (pending_bit b next) c.base
    (stop c - c.base) (c.base + low) (omega arith) (omega (arith, v.walked))
    (λ i l r. pending_below b c i (omega (arith, v.walked))
    ∙ ap (λ x. eqb x 1) (z.2 (i - c.base) (omega arith)))
    (pending_below b c (c.base + low) (omega (arith, v.walked))
    ∙ ap (has_bit w) place ∙ ap (λ x. eqb x 1) z.1)
    (λ i l r. pending_below b next i (omega (arith, v.walked))
    ∙ ap (λ x. eqb x 1) (off.0 (i - c.base) (omega arith)))
    (λ i l r. elim (cases_lt i c.next) [
      | inl below ↦ pending_below b next i below
          ∙ ap (λ x. eqb x 1) (off.1 (i - c.base) (omega arith)) ∙ sym (pending_below b c i below)
      | inr above ↦ pending_ahead b next i above ∙ sym (pending_ahead b c i above)
    ])
    ∙ ap (λ x. (c.base + low) ∷ places_left b x) (sym e)

-- the current word fits in 64 bits
pub word_fits : (b : List ℕ) (c : Cursor) → IsCursor b c → c.word < 2 ^ 64
word_fits b c v =
    let near : c.next - c.base ≤ 64 = omega (arith, v.near) in
    let most : 2 ^ (c.next - c.base) ≤ 2 ^ 64 = pow_mono near in
    omega (arith, v.clear)
