-- Values of 16 bytes as elements. These lemmas are specs since the laws of `Element` cite them.
use Rattle.std.proofs.Common.{◌≡◌, ℕ, ◌<◌, ◌^◌, ◌++◌, List, length, take, drop, refl, sym}
use Rattle.std.proofs.Common.{ap, ◌∙◌, arith, lit<}
use Rattle.std.specs.Int.{w64, to_le_bytes, from_le_bytes}
use Rattle.std.proofs.Math.Seq.{take-append_seam, drop-append_seam}
use Rattle.std.proofs.lemmas.List.{length-append, length-drop, length-take-le, take-append-drop}
use Rattle.std.proofs.lemmas.List.Elements.{All-append, All-take, All-drop}
use Rattle.vb_core.specs.Elements.{AreBytes, IsElement}
use Rattle.vb_core.specs.ElementLaws.{unsigned_laws}
use Rattle.vb_c_gather.specs.declared.wide.Wide.{Wide}

-- the value with these first and last eight bytes
abbrev pub wide_of : List ℕ → Wide
wide_of bytes =
    record { low = from_le_bytes w64 (take 8 bytes); high = from_le_bytes w64 (drop 8 bytes) }

-- the bytes of a value
abbrev pub wide_bytes : Wide → List ℕ
wide_bytes x = to_le_bytes w64 x.low ++ to_le_bytes w64 x.high

-- both halves are numbers of eight bytes
abbrev pub IsWide : Wide → Type 0
IsWide x = (x.low < 2 ^ 64) × (x.high < 2 ^ 64)

-- the value of bytes that are all 0
abbrev pub wide_zero : Wide
wide_zero = record { low = 0; high = 0 }

-- a half has eight bytes
half_has_size : (x : ℕ) → x < 2 ^ 64 → length (to_le_bytes w64 x) ≡ 8
half_has_size = (unsigned_laws w64).form_has_size

-- the value of the bytes of a value is that value
wide_of-wide_bytes : (x : Wide) → IsWide x → wide_of (wide_bytes x) ≡ x
wide_of-wide_bytes x fits =
    let low = to_le_bytes w64 x.low in
    let high = to_le_bytes w64 x.high in
    let len : length low ≡ 8 = half_has_size x.low (fits.0) in
    let first : take 8 (low ++ high) ≡ low =
    ap (λ n. take n (low ++ high)) (sym len) ∙ take-append_seam low high in
    let last : drop 8 (low ++ high) ≡ high =
    ap (λ n. drop n (low ++ high)) (sym len) ∙ drop-append_seam low high in
    let one : from_le_bytes w64 (take 8 (low ++ high)) ≡ x.low =
    ap (from_le_bytes w64) first ∙ (unsigned_laws w64).get_after_put x.low (fits.0) in
    let other : from_le_bytes w64 (drop 8 (low ++ high)) ≡ x.high =
    ap (from_le_bytes w64) last ∙ (unsigned_laws w64).get_after_put x.high (fits.1) in
    rw (one, other) refl

-- the bytes of the value of 16 bytes are those bytes
wide_bytes-wide_of : (bytes : List ℕ) → length bytes ≡ 16 → AreBytes bytes
    → wide_bytes (wide_of bytes) ≡ bytes
wide_bytes-wide_of bytes len all =
    let first = length-take-le 8 bytes (omega (arith, len)) in
    let last : length (drop 8 bytes) ≡ 8 = omega (arith, len, length-drop 8 bytes) in
    let one = (unsigned_laws w64).put_after_get (take 8 bytes) first
    (All-take (λ b. b < 256) 8 bytes all) in
    let other = (unsigned_laws w64).put_after_get (drop 8 bytes) last
    (All-drop (λ b. b < 256) 8 bytes all) in
    ap (λ l. l ++ to_le_bytes w64 (from_le_bytes w64 (drop 8 bytes))) one
    ∙ ap (λ l. take 8 bytes ++ l) other ∙ take-append-drop 8 bytes

-- such a value is an element of 16 bytes
pub wide_laws : IsElement 16 8 3 IsWide wide_bytes wide_of
wide_laws = record {
  size_is_positive = lit< tt;
  align_is_power = refl;
  align_in_range = lit< tt;
  align_divides_size = refl;
  form_has_size = λ x fits.
      omega (
        arith,
        length-append (to_le_bytes w64 x.low) (to_le_bytes w64 x.high),
        half_has_size x.low (fits.0),
        half_has_size x.high (fits.1),
      );
  form_is_bytes = λ x fits.
      All-append (λ b. b < 256) (to_le_bytes w64 x.low) (to_le_bytes w64 x.high)
      ((unsigned_laws w64).form_is_bytes x.low (fits.0))
      ((unsigned_laws w64).form_is_bytes x.high (fits.1));
  get_after_put = wide_of-wide_bytes;
  put_after_get = wide_bytes-wide_of;
}
