-- The indices of a word's ones, written to the caller's memory.
use Rattle.std.proofs.Common.{◌≡◌, ℕ, ◌+◌, ◌-◌, ◌^◌, ◌<◌, ◌≤◌, List, [], ◌∷◌, ◌++◌, length, drop}
use Rattle.std.proofs.Common.{set, eqb, refl, sym, ap, ◌∙◌, arith}
use Rattle.std.proofs.lemmas.List.{append_assoc, append-nil, length-append, length-set, take_all}
use Rattle.std.proofs.lemmas.Nat.{and_le_l}
use Rattle.std.proofs.lemmas.Nat.Bits.{bit_at-trailing_zeros}
use Rattle.std.proofs.Math.Pow.{pow_mono}
use Rattle.std.specs.Int.{trailing_zeros, w64}
use Rattle.std.specs.Int.Bits.{bit_and}
use Rattle.vb_bits.specs.Bits.{places}
use Rattle.vb_bits.specs.Digits.{digits, has_bit}
use Rattle.vb_bits.specs.Fills.{Fills}
use Rattle.vb_bits.proofs.DigitsLemmas.{length-digits}
use Rattle.vb_bits.proofs.FillsLemmas.{set_next}
use Rattle.vb_bits.proofs.PlacesLemmas.{places_few}
use Rattle.vb_bits.proofs.WindowLemmas.{digits-clear}
use Rattle.vb_walk.proofs.OnesLemmas.{lowest_below, lowest_off}
use Rattle.vb_walk.proofs.PlacesLemmas.{places-digits, places_in_empty, places_in_first}

-- the indices of the ones of w that are no longer in `left` are in front
pub record WritesOnes (w n left : ℕ) (old new : List ℕ) (written : ℕ) : Type 0 where
  pub front : List ℕ
  pub whole : front ++ places (digits left 0 n) ≡ places (digits w 0 n)
  pub count : written ≡ length front
  pub clear : left < 2 ^ n
  pub items : new ≡ front ++ drop written old
  pub len : length new ≡ length old

pub writes_none : (w n : ℕ) (old : List ℕ) → w < 2 ^ n → WritesOnes w n w old old 0
writes_none w n old clear =
    record { front = []; whole = refl; count = refl; clear = clear; items = refl; len = refl }

-- the lowest one is the first index
first_place : (w n : ℕ) → 0 < w → w < 2 ^ n → n ≤ 64
    → places (digits w 0 n) ≡ trailing_zeros w64 w ∷ places (digits (bit_and w (w - 1)) 0 n)
first_place w n some clear few =
    let more : 2 ^ n ≤ 2 ^ 64 = pow_mono few in
    let low : ℕ = trailing_zeros w64 w in
    let z = bit_at-trailing_zeros w64 w some (omega arith) in
    let off = lowest_off w low z.1 z.2 in
    places-digits w n
    ∙ places_in_first (has_bit w) (has_bit (bit_and w (w - 1))) 0 n low (omega arith)
    (omega (arith, lowest_below n w some clear few)) (λ i l r. ap (λ x. eqb x 1) (z.2 i r))
    (ap (λ x. eqb x 1) z.1) (λ i l r. ap (λ x. eqb x 1) (off.0 i r))
    (λ i l r. ap (λ x. eqb x 1) (off.1 i l))
    ∙ ap (λ l. low ∷ l) (sym (places-digits (bit_and w (w - 1)) n))

-- there is room for the next index
pub room_for_one : (w n left : ℕ) (old new : List ℕ) (k : ℕ) → WritesOnes w n left old new k
    → 0 < left → n ≤ 64 → n ≤ length old → k < length new
room_for_one w n left old new k so_far some few room =
    let next = ap length (first_place left n some so_far.clear few) in
    let all = ap length so_far.whole in
    omega (
      arith,
      so_far.count,
      so_far.len,
      next,
      all,
      length-append so_far.front (places (digits left 0 n)),
      places_few (digits w 0 n),
      length-digits w 0 n,
      room,
    )

pub writes_one : (w n left : ℕ) (old new : List ℕ) (k : ℕ) → WritesOnes w n left old new k
    → 0 < left → n ≤ 64 → n ≤ length old
    → WritesOnes w n (bit_and left (left - 1)) old (set new k (trailing_zeros w64 left)) (k + 1)
writes_one w n left old new k so_far some few room =
    let low : ℕ = trailing_zeros w64 left in
    let inside = room_for_one w n left old new k so_far some few room in
    record {
      front = so_far.front ++ low ∷ [];
      whole = append_assoc so_far.front (low ∷ []) (places (digits (bit_and left (left - 1)) 0 n))
          ∙ ap (λ l. so_far.front ++ l) (sym (first_place left n some so_far.clear few))
          ∙ so_far.whole;
      count = omega (arith, so_far.count, length-append so_far.front (low ∷ []));
      clear = omega (arith, and_le_l left (left - 1), so_far.clear);
      items = set_next so_far.front old new low k so_far.count
          (omega (arith, inside, so_far.len)) so_far.items;
      len = length-set new k low ∙ so_far.len;
    }

-- no one is left
pub writes_all : (w n left : ℕ) (old new : List ℕ) (k : ℕ) → WritesOnes w n left old new k
    → left ≡ 0 → n ≤ length old → Fills (places (digits w 0 n)) old new k
writes_all w n left old new k so_far none room =
    let no_more : places (digits left 0 n) ≡ [] =
    ap (λ x. places (digits x 0 n)) none ∙ places-digits 0 n
    ∙ places_in_empty (has_bit 0) 0 n (λ i l r. digits-clear i) in
    let whole : so_far.front ≡ places (digits w 0 n) =
    sym (append-nil so_far.front) ∙ ap (λ l. so_far.front ++ l) (sym no_more) ∙ so_far.whole in
    let many = ap length whole in
    record {
      count = omega (
        arith,
        so_far.count,
        many,
        places_few (digits w 0 n),
        length-digits w 0 n,
        room,
      );
      items = so_far.items ∙ ap (λ l. l ++ drop k old) (whole
          ∙ sym (take_all k (places (digits w 0 n)) (omega (arith, so_far.count, many))));
    }
