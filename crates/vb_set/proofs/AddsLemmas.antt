-- Bits appended in several steps.
use Rattle.std.proofs.Common.{◌≡◌, inl, inr, ℕ, zero, suc, ◌+◌, ◌-◌, ◌*◌, ◌<◌, ◌≤◌, ◌⊎◌, Bool}
use Rattle.std.proofs.Common.{Option, List, [], ◌∷◌, ◌++◌, length, take, drop, slice_range}
use Rattle.std.proofs.Common.{refl, sym, ap, ◌∙◌, arith, subst, ⊎_elim, append_assoc, append-nil}
use Rattle.std.specs.Prelude.{min}
use Rattle.std.proofs.Math.Seq.{take-append-add}
use Rattle.std.proofs.lemmas.Bool.{cases_lt}
use Rattle.std.proofs.lemmas.List.{length-append, get_or_append_left, get_or-append_right}
use Rattle.std.proofs.lemmas.List.{length-drop, length-take, take-append-drop, take_all}
use Rattle.std.specs.Iterator.{Count, Yields}
use Rattle.vb_bits.specs.Bits.{bit_of}
use Rattle.vb_bits.specs.Writes.{Writes, extension}
use Rattle.vb_bits.proofs.WindowLemmas.{bit_of-append, bit_of-extension}
use Rattle.vb_bits.proofs.WritesLemmas.{Writes-at, Writes-extension, Writes_by_bits, Writes_none}
use Rattle.vb_bit_bytes.specs.Given.{GivesUpTo}
use Rattle.vb_core.specs.Lengths.{IsExactCount}
use Rattle.vb_set.specs.OpenSet.{OpenSet, AddsBits}

-- two writes, one after the other, in bytes that grow each time
Writes-added : (a b c : List ℕ) (o p : ℕ) (xs ys : List Bool) → length a ≤ length b
    → length b ≤ length c → p ≡ o + length xs → p ≤ 8 * length b
    → Writes (extension a b) b o xs → Writes (extension b c) c p ys
    → Writes (extension a c) c o (xs ++ ys)
Writes-added a b c o p xs ys low high at within one two =
    let both : length (xs ++ ys) ≡ length xs + length ys = length-append xs ys in
    Writes_by_bits (extension a c) c o (xs ++ ys)
    (omega (arith, length-append a (drop (length a) c), length-drop (length a) c, low, high))
    (λ i d h. elim (cases_lt i (length xs)) [
      | inl first ↦ two.others (o + i) (inl (omega (arith, first, at)))
          ∙ bit_of-append b (drop (length b) c) (o + i) (omega (arith, first, at, within))
          ∙ Writes-at (extension a b) b o i xs d one first
          ∙ sym (get_or_append_left xs ys d i first)
      | inr more ↦
          let j : ℕ = i - length xs in
          let place : o + i ≡ p + j = omega (arith, more, at) in
          ap (bit_of c) place
          ∙ Writes-at (extension b c) c p j ys d two (omega (arith, more, h, both))
          ∙ sym (get_or-append_right xs ys (length xs) i d refl more)
    ])
    (λ i outside. elim (cases_lt i (8 * length a)) [
      | inl old ↦
          let behind : (i < p) ⊎ (p + length ys ≤ i) = elim outside [
            | inl before ↦ inl (omega (arith, before, at))
            | inr after ↦ inr (omega (arith, after, at, both))
          ] in
          let behind_first : (i < o) ⊎ (o + length xs ≤ i) = elim outside [
            | inl before ↦ inl before
            | inr after ↦ inr (omega (arith, after, both))
          ] in
          two.others i behind ∙ bit_of-append b (drop (length b) c) i (omega (arith, old, low))
          ∙ one.others i behind_first ∙ bit_of-append a (drop (length a) b) i old
          ∙ sym (bit_of-append a (drop (length a) c) i old)
      | inr new ↦ sym (bit_of-extension a c i new)
    ])

-- no bits are appended if nothing but the capacity changes
pub AddsBits-none : (a b : OpenSet) → b ≡ record a { room = b.room }
    → a.offset + length a.bits ≤ 8 * length a.bytes → AddsBits [] a b
AddsBits-none a b same inside =
    let bits : b.bits ≡ a.bits = ap (λ s. s.bits) same in
    let bytes : b.bytes ≡ a.bytes = ap (λ s. s.bytes) same in
    record {
      bits = bits ∙ sym (append-nil a.bits);
      len = omega (arith, ap length bits);
      bytes = subst (λ x. Writes (extension a.bytes x) x (a.offset + length a.bits) []) (sym bytes)
          (Writes-extension a.bytes a.bytes (a.offset + length a.bits) []
          (Writes_none a.bytes (a.offset + length a.bits) [] refl));
      byte_len = omega (arith, ap length bytes, inside);
    }

-- some bits, and then more
pub AddsBits-append : (xs ys : List Bool) (a b c : OpenSet) → b.offset ≡ a.offset → AddsBits xs a b
    → AddsBits ys b c → AddsBits (xs ++ ys) a c
AddsBits-append xs ys a b c same one two =
    let both : length (xs ++ ys) ≡ length xs + length ys = length-append xs ys in
    record {
      bits = two.bits ∙ ap (λ l. l ++ ys) one.bits ∙ append_assoc a.bits xs ys;
      len = omega (arith, two.len, one.len, both);
      bytes = Writes-added a.bytes b.bytes c.bytes (a.offset + length a.bits)
          (b.offset + length b.bits) xs ys (omega (arith, one.byte_len))
          (omega (arith, two.byte_len)) (omega (arith, same, one.len))
          (omega (arith, same, one.len, one.byte_len)) one.bytes two.bytes;
      byte_len = omega (arith, two.byte_len, one.byte_len, one.len, same, both);
    }

-- capacity is reserved, and then bits are appended
pub AddsBits-reserved : (xs : List Bool) (a b c : OpenSet) → b ≡ record a { room = b.room }
    → AddsBits xs b c → AddsBits xs a c
AddsBits-reserved xs a b c same adds =
    let moved = subst (λ s. AddsBits xs s c) same adds in
    record {
      bits = moved.bits;
      len = moved.len;
      bytes = moved.bytes;
      byte_len = moved.byte_len;
    }

-- ---- items of lists and of iterators
-- the first items of a list, and the part after them
pub take-longer : (l : List Bool) (k e : ℕ)
    → k ≤ e → k ≤ length l → take k l ++ slice_range l k e ≡ take e l
take-longer l k e order within =
    let long : length (take k l) ≡ k = omega (arith, length-take k l, within) in
    let whole : length (take k l) + (e - k) ≡ e = omega (arith, long, order) in
    sym (take-append-add (take k l) (drop k l) (e - k))
    ∙ ap (take (length (take k l) + (e - k))) (take-append-drop k l) ∙ ap (λ n. take n l) whole

-- the first items of a list, at most all of them
pub take-capped : (l : List Bool) (n e : ℕ) → e ≡ min n (length l) → take e l ≡ take n l
take-capped l n e capped = ⊎_elim
    (λ (short : n < length l). ap (λ k. take k l) (omega (arith, capped, short)))
    (λ (all : length l ≤ n). take_all e l (omega (arith, capped, all)) ∙ sym (take_all n l all))
    (cases_lt n (length l))

-- the number of remaining items of an iterator falls with each item
pub left-along : {S A : Type 0} (steps : S → Option A → S → Type 0) (remaining : S → Count)
    (left : S → ℕ) → IsExactCount steps remaining left → (xs : List A) (s t : S)
    → Yields steps s xs t → left t + length xs ≡ left s
left-along steps remaining left law [] s t run = omega (arith, ap left run)
left-along steps remaining left law (x ∷ xs) s t run = omega (
  arith,
  left-along steps remaining left law xs run.0 t run.2,
  law.one_less s x run.0 run.1,
)

-- up to 64 items that the iterator returned
pub Yields-word : {S A : Type 0} (can : S → Type 0) (left : S → Count)
    (steps : S → Option A → S → Type 0) (s : S) (items : List A) (t : S)
    → GivesUpTo can left steps 64 s items t → length items ≤ 64 → (u : S) × Yields steps s items u
Yields-word can left steps s items t gives most = ⊎_elim
    (λ (few : length items < 64). let end = gives.0 few in (end.1.0, end.1.1))
    (λ (full : 64 ≤ length items). (t, (gives.1 (omega (arith, full, most))).0))
    (cases_lt (length items) 64)

-- fewer calls return the first of the items that more calls return
pub Yields-front : {S A : Type 0} (steps : S → Option A → S → Type 0) (n : ℕ) (xs : List A)
    (s t : S) → Yields steps s xs t → (u : S) × Yields steps s (take n xs) u
Yields-front steps zero xs s t run = (s, refl)
Yields-front steps (suc n) [] s t run = (t, run)
Yields-front steps (suc n) (x ∷ xs) s t run =
    let rest = Yields-front steps n xs run.0 t run.2 in
    (rest.0, (run.0, run.1, rest.1))
