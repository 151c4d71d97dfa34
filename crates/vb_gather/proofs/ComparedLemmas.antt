-- Comparison results with cleared nulls.
use Rattle.std.proofs.Common.{◌≡◌, ℕ, Bool, List, length, Option, Some, None, refl, sym, ap, ◌∙◌}
use Rattle.vb_bits.specs.Bits.{bits}
use Rattle.vb_bits.specs.Operators.{bit_op, combined_by}
use Rattle.vb_bits.specs.Writes.{Writes}
use Rattle.vb_bits.specs.declared.zip.BitOp.TheVariants.{And}
use Rattle.vb_bits.proofs.BitsLemmas.{length-bits}
use Rattle.vb_bits.proofs.OperatorsLemmas.{length-merged_bits}
use Rattle.vb_bit_bytes.proofs.BytesLemmas.{bits-combined_by}
use Rattle.vb_gather.specs.Compared.{HoldsBits, where_valid}

-- without a validity nothing is cleared
pub none_cleared : (b : List ℕ) (n : ℕ) (v : Option (List Bool)) → v ≡ None
    → HoldsBits n (where_valid v (bits b 0 n)) b b
none_cleared b n v e = record {
  same_len = refl;
  bits_are = ap (λ u. where_valid u (bits b 0 n)) (sym e);
  len = ap (λ u. length (where_valid u (bits b 0 n))) e ∙ length-bits b 0 n;
}

-- a validity of the same length
pub some_cleared : (b d src : List ℕ) (o n : ℕ) (l : List Bool) (v : Option (List Bool))
    → v ≡ Some l → bits src o n ≡ l
    → Writes b d 0 (combined_by And (bits b 0 n) (bits src o n))
    → HoldsBits n (where_valid v (bits b 0 n)) b d
some_cleared b d src o n l v e seen w =
    let same : combined_by And (bits b 0 n) (bits src o n) ≡ where_valid v (bits b 0 n) =
    ap (combined_by And (bits b 0 n)) seen ∙ ap (λ u. where_valid u (bits b 0 n)) (sym e) in
    record {
      same_len = w.same_len;
      bits_are = bits-combined_by And b d src 0 o n w ∙ same;
      len = ap length (sym same) ∙ length-merged_bits (bit_op And) b src 0 o n;
    }

-- results that were written and then cleared
pub cleared : (n : ℕ) (v : Option (List Bool)) (l : List Bool) (b c d : List ℕ)
    → length l ≡ n → Writes b c 0 l → HoldsBits n (where_valid v (bits c 0 n)) c d
    → HoldsBits n (where_valid v l) b d
cleared n v l b c d long written shown =
    let is : bits c 0 n ≡ l = ap (bits c 0) (sym long) ∙ written.window in
    record {
      same_len = shown.same_len ∙ written.same_len;
      bits_are = shown.bits_are ∙ ap (where_valid v) is;
      len = ap (λ k. length (where_valid v k)) (sym is) ∙ shown.len;
    }
