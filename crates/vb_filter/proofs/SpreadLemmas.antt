-- Bits deposited at the set bits of a mask.
use Rattle.std.proofs.Common.{◌≡◌, ℕ, zero, suc, ◌+◌, ◌-◌, ◌*◌, ◌<◌, ◌≤◌, Bool, true, false}
use Rattle.std.proofs.Common.{◌&&◌, List, [], ◌∷◌, ◌++◌, length, min, take, drop, replicate, refl}
use Rattle.std.proofs.Common.{sym, ap, ◌∙◌, arith}
use Rattle.std.specs.Prelude.{slice_range}
use Rattle.std.proofs.Math.Seq.{take-nil, drop-nil}
use Rattle.vb_bits.specs.Bits.{at, count, complement}
use Rattle.vb_bits.specs.Kept.{kept_by}
use Rattle.vb_bits.proofs.BitsLemmas.{count-cons}
use Rattle.vb_filter.specs.Spread.{spread_by}
use Rattle.vb_filter.proofs.FilteredBits.{front-add, word_end}

-- the count of a list that begins with true
one_more : (l : List Bool) → count (true ∷ l) ≡ suc (count l)
one_more l = omega (arith, count-cons true l)

none_more : (l : List Bool) → count (false ∷ l) ≡ count l
none_more l = omega (arith, count-cons false l)

-- the deposit is as long as the mask
pub length-spread_by : (mask bits : List Bool) → length (spread_by mask bits) ≡ length mask
length-spread_by [] bits = refl
length-spread_by (false ∷ mask) bits = ap suc (length-spread_by mask bits)
length-spread_by (true ∷ mask) [] = ap suc (length-spread_by mask [])
length-spread_by (true ∷ mask) (b ∷ bits) = ap suc (length-spread_by mask bits)

-- a mask that is false deposits no bits
pub spread_none : (n : ℕ) (bits : List Bool)
    → spread_by (replicate n false) bits ≡ replicate n false
spread_none zero bits = refl
spread_none (suc n) bits = ap (λ l. false ∷ l) (spread_none n bits)

-- a deposit by two masks, one after the other
pub spread_by-append : (k l bits : List Bool)
    → spread_by (k ++ l) bits ≡ spread_by k bits ++ spread_by l (drop (count k) bits)
spread_by-append [] l bits = refl
spread_by-append (false ∷ k) l bits =
    rw (none_more k) (ap (λ m. false ∷ m) (spread_by-append k l bits))
spread_by-append (true ∷ k) l [] =
    ap (λ m. false ∷ m) (spread_by-append k l []
    ∙ ap (λ m. spread_by k [] ++ spread_by l m)
    (drop-nil (count k) ∙ sym (drop-nil (count (true ∷ k)))))
spread_by-append (true ∷ k) l (b ∷ bits) =
    rw (one_more k) (ap (λ m. b ∷ m) (spread_by-append k l bits))

-- a deposit uses one bit for each one of the mask
pub spread_by-take : (mask bits : List Bool) (n : ℕ) → count mask ≤ n
    → spread_by mask (take n bits) ≡ spread_by mask bits
spread_by-take [] bits n few = refl
spread_by-take (false ∷ mask) bits n few =
    ap (λ m. false ∷ m) (spread_by-take mask bits n (omega (arith, none_more mask)))
spread_by-take (true ∷ mask) [] n few = ap (spread_by (true ∷ mask)) (take-nil n)
spread_by-take (true ∷ mask) (b ∷ bits) zero few = absurd (omega (arith, one_more mask))
spread_by-take (true ∷ mask) (b ∷ bits) (suc n) few =
    ap (λ m. b ∷ m) (spread_by-take mask bits n (omega (arith, one_more mask)))

-- the mask selects these bits again
pub kept_by-spread_by : (mask bits : List Bool) → length bits ≡ count mask
    → kept_by mask (spread_by mask bits) ≡ bits
kept_by-spread_by [] [] same = refl
kept_by-spread_by [] (b ∷ bits) same = absurd (omega arith)
kept_by-spread_by (false ∷ mask) bits same =
    kept_by-spread_by mask bits (same ∙ none_more mask)
kept_by-spread_by (true ∷ mask) [] same = absurd (omega (arith, one_more mask))
kept_by-spread_by (true ∷ mask) (b ∷ bits) same =
    ap (λ l. b ∷ l) (kept_by-spread_by mask bits (omega (arith, one_more mask)))

-- the others are false
pub others-spread_by : (mask bits : List Bool)
    → kept_by (complement mask) (spread_by mask bits) ≡ replicate (count (complement mask)) false
others-spread_by [] bits = refl
others-spread_by (false ∷ mask) bits =
    rw (one_more (complement mask)) (ap (λ l. false ∷ l) (others-spread_by mask bits))
others-spread_by (true ∷ mask) [] =
    rw (none_more (complement mask)) (others-spread_by mask [])
others-spread_by (true ∷ mask) (b ∷ bits) =
    rw (none_more (complement mask)) (others-spread_by mask bits)

-- a bit is the one of its rank, if the mask is true there
pub at-spread_by : (mask bits : List Bool) (i : ℕ) → i < length mask
    → at (spread_by mask bits) i ≡ (at mask i && at bits (count (take i mask)))
at-spread_by [] bits i within = absurd (omega arith)
at-spread_by (false ∷ mask) bits zero within = refl
at-spread_by (true ∷ mask) [] zero within = refl
at-spread_by (true ∷ mask) (b ∷ bits) zero within = refl
at-spread_by (false ∷ mask) bits (suc i) within =
    rw (none_more (take i mask)) (at-spread_by mask bits i (omega arith))
at-spread_by (true ∷ mask) [] (suc i) within =
    at-spread_by mask [] i (omega arith)
at-spread_by (true ∷ mask) (b ∷ bits) (suc i) within =
    rw (one_more (take i mask)) (at-spread_by mask bits i (omega arith))

-- one more word of a mask
pub word-spread_by : (mask bits : List Bool) (t n : ℕ) → n ≡ min (length mask - 64 * t) 64
    → spread_by (take (64 * (t + 1)) mask) bits
    ≡ spread_by (take (64 * t) mask) bits
    ++ spread_by (slice_range mask (64 * t) (64 * t + n)) (drop (count (take (64 * t) mask)) bits)
word-spread_by mask bits t n e =
    ap (λ l. spread_by l bits) (word_end mask t n e ∙ front-add mask (64 * t) n)
    ∙ spread_by-append (take (64 * t) mask) (slice_range mask (64 * t) (64 * t + n)) bits
