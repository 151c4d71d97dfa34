use Rattle.std.proofs.Common.{◌≡◌, ℕ, ◌-◌, ◌+◌, ◌*◌, ◌/◌, ◌%◌, ◌^◌, ◌<◌, List, [], get_or, map}
use Rattle.std.proofs.Common.{min, refl, sym, ap, ◌∙◌, arith, zero-add}
use Rattle.std.specs.Int.{w64, to_le_bytes, from_le_bytes}
use Rattle.std.specs.List.{range_with_len}
use Rattle.std.specs.Prelude.{slice_range}
use Rattle.std.proofs.Math.Pow.{pow_mono}
use Rattle.std.proofs.lemmas.List.FromFn.{get_or-map-range_with_len}
use Rattle.std.proofs.lemmas.Nat.{from_le_bytes-to_le_bytes_8}
use Rattle.vb_rank.specs.declared.front_mask.TheConstants.{FRONTS}
use Rattle.vb_rank.proofs.front_mask.front_mask.Goals as goal

-- the ones of a row from a byte on, as a mask of a word
abbrev mask_from : ℕ → ℕ → ℕ
mask_from row at = 2 ^ min (512 + row - 8 * at) 64 - 1

-- the eight bytes of a row from a byte on
abbrev eight : ℕ → ℕ → List ℕ
eight row at = slice_range (get_or FRONTS row []) at (at + 8)

-- those bytes are the bytes of the mask, in all rows
masks : map (λ i. to_le_bytes w64 (mask_from (i / 121) (i % 121))) (range_with_len 0 968)
    ≡ map (λ i. eight (i / 121) (i % 121)) (range_with_len 0 968)
masks = refl

in_table : (row at : ℕ) → row < 8 → at < 121
    → to_le_bytes w64 (mask_from row at) ≡ eight row at
in_table row at few inside =
    let i : ℕ = 121 * row + at in
    let first : i / 121 ≡ row = omega arith in
    let second : i % 121 ≡ at = omega arith in
    let is_mask = get_or-map-range_with_len (λ i. to_le_bytes w64 (mask_from (i / 121) (i % 121)))
    0 968 i i [] (omega arith) (zero-add i) in
    let is_eight = get_or-map-range_with_len (λ i. eight (i / 121) (i % 121))
    0 968 i i [] (omega arith) (zero-add i) in
    (λ j. to_le_bytes w64 (mask_from (sym first j) (sym second j)))
    ∙ sym is_mask ∙ ap (λ l. get_or l i []) masks ∙ is_eight
    ∙ (λ j. eight (first j) (second j))

pub returns : goal.returns
returns c =
    let n : ℕ = c.args.n in
    let at : ℕ = 64 - n / 8 + 8 * c.args.word in
    let mask : ℕ = mask_from (n % 8) at in
    let size : min (512 + n % 8 - 8 * at) 64 ≡ min (n - 64 * c.args.word) 64 = omega arith in
    let small : mask < 2 ^ 64 =
    omega (arith, pow_mono {i = min (512 + n % 8 - 8 * at) 64} {j = 64} (omega arith)) in
    let same : to_le_bytes w64 c.word_at.result ≡ to_le_bytes w64 mask =
    c.word_at.ensures ∙ sym (in_table (n % 8) at (omega arith) (omega arith)) in
    sym (from_le_bytes-to_le_bytes_8 c.word_at.result c.word_at.type_inv)
    ∙ ap (from_le_bytes w64) same ∙ from_le_bytes-to_le_bytes_8 mask small
    ∙ ap (λ k. 2 ^ k - 1) size
