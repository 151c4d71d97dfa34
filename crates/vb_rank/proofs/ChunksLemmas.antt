-- Searches of a chunk that starts where a window starts; the window may end within the chunk.
use Rattle.std.proofs.Common.{◌≡◌, ℕ, ◌+◌, ◌-◌, ◌/◌, ◌%◌, ◌<◌, ◌≤◌, Bool, false, List, ◌++◌}
use Rattle.std.proofs.Common.{length, Some, refl, sym, ap, ◌∙◌, arith, subst}
use Rattle.std.specs.Prelude.{slice_range}
use Rattle.std.proofs.lemmas.List.{get_or_append_left, take-append-le}
use Rattle.std.proofs.Math.Seq.{take-append_seam}
use Rattle.vb_bits.specs.Bits.{bits, count, Selects}
use Rattle.vb_count.specs.Hits.{hits}
use Rattle.vb_bits.proofs.BitsLemmas.{length-bits, count-take-mono, count-append}
use Rattle.vb_bits.proofs.BytesLemmas.{bits_of_read}
use Rattle.vb_count.proofs.HitsLemmas.{length-hits, hits-bits-add}

-- ---- a list and a front of it
-- an index that is found in the list, and is in the front, is found in the front
front_some : (k l : List Bool) (n p : ℕ)
    → p < length k → Selects (k ++ l) n (Some p) → Selects k n (Some p)
front_some k l n p inside s = (
  inside,
  sym (get_or_append_left k l false p inside) ∙ s.1,
  sym (ap count (take-append-le p k l (omega arith))) ∙ s.2,
)

-- if the index found is after the front, the front has at most n
front_past : (k l : List Bool) (n p : ℕ)
    → length k ≤ p → Selects (k ++ l) n (Some p) → count k ≤ n
front_past k l n p past s =
    omega (arith, s.2, count-take-mono (k ++ l) (length k) p past, ap count (take-append_seam k l))

-- ---- a window and the chunk from its first bit on
-- the bits of the chunk are those of the window, and then those after it
cut : (v : Bool) (b xs : List ℕ) (o m : ℕ)
    → o % 8 ≡ 0 → xs ≡ slice_range b (o / 8) (o / 8 + 64) → m ≤ 512
    → hits v (bits xs 0 512) ≡ hits v (bits b o m) ++ hits v (bits b (o + m) (512 - m))
cut v b xs o m aligned read within =
    let all : m + (512 - m) ≡ 512 = omega arith in
    ap (hits v) (bits_of_read b b xs (o / 8) 64 o refl read (omega (arith, aligned)))
    ∙ ap (λ x. hits v (bits b o x)) (sym all) ∙ hits-bits-add v b o m (512 - m)

long : (v : Bool) (b : List ℕ) (o m : ℕ) → length (hits v (bits b o m)) ≡ m
long v b o m = length-hits v (bits b o m) ∙ length-bits b o m

-- an index that is found in the chunk, and is in the window, is found in the window
pub chunk_some : (v : Bool) (b xs : List ℕ) (o m n p : ℕ)
    → o % 8 ≡ 0 → xs ≡ slice_range b (o / 8) (o / 8 + 64) → m ≤ 512 → p < m
    → Selects (hits v (bits xs 0 512)) n (Some p) → Selects (hits v (bits b o m)) n (Some p)
chunk_some v b xs o m n p aligned read within inside s =
    front_some (hits v (bits b o m)) (hits v (bits b (o + m) (512 - m))) n p
    (omega (arith, inside, long v b o m))
    (subst (λ l. Selects l n (Some p)) (cut v b xs o m aligned read within) s)

-- if the index found is after the window, the window has at most n
pub chunk_past : (v : Bool) (b xs : List ℕ) (o m n p : ℕ)
    → o % 8 ≡ 0 → xs ≡ slice_range b (o / 8) (o / 8 + 64) → m ≤ 512 → m ≤ p
    → Selects (hits v (bits xs 0 512)) n (Some p) → count (hits v (bits b o m)) ≤ n
chunk_past v b xs o m n p aligned read within past s =
    front_past (hits v (bits b o m)) (hits v (bits b (o + m) (512 - m))) n p
    (omega (arith, past, long v b o m))
    (subst (λ l. Selects l n (Some p)) (cut v b xs o m aligned read within) s)

-- if the chunk has at most n, so does the window
pub chunk_none : (v : Bool) (b xs : List ℕ) (o m n : ℕ)
    → o % 8 ≡ 0 → xs ≡ slice_range b (o / 8) (o / 8 + 64) → m ≤ 512
    → count (hits v (bits xs 0 512)) ≤ n → count (hits v (bits b o m)) ≤ n
chunk_none v b xs o m n aligned read within few = omega (
  arith,
  few,
  ap count (cut v b xs o m aligned read within),
  count-append (hits v (bits b o m)) (hits v (bits b (o + m) (512 - m))),
)
