-- Columns that C passes.
use Rattle.std.proofs.Common.{◌≡◌, ℕ, ◌+◌, Bool, true, List, map, Option, is_some, ap, subst, ◌∙◌}
use Rattle.std.proofs.Common.{length, ◌-◌, ◌/◌, ◌%◌, false, sym, arith}
use Rattle.std.specs.Int.{div_ceil}
use Rattle.std.proofs.lemmas.List.{length-map, length-replicate}
use Rattle.std.proofs.lemmas.Simd.{length-zip2}
use borrow.Rule.Slice.PartMut.{put_mid}
use Rattle.std.specs.Simd.Lanes.{zip2}
use Rattle.vb_bits.specs.Bits.{bits}
use Rattle.vb_bits.specs.InBytes.{InBytes}
use Rattle.vb_bits.specs.Writes.{Writes}
use Rattle.vb_bits.proofs.BitsLemmas.{length-bits}
use Rattle.vb_c_core.proofs.PartLemmas.{part, Writes_in_part}
use Rattle.vb_c_core.specs.Validity.{validity_of}
use Rattle.vb_kleene.specs.Kleene.{truths, nullable, is_truth}
use Rattle.vb_c_gather.specs.Columns.{WritesColumn, column_at}

-- a column is that of the view and the validity built from it
pub column_of : (b : List ℕ) (o : ℕ) (all : Bool) (w : List ℕ) (v n : ℕ) (l : List Bool)
    (m : Option (List Bool)) → l ≡ bits b o n → m ≡ validity_of all w v n
    → truths l m ≡ column_at b o all w v n
column_of b o all w v n l m values valid =
    ap (λ k. truths k m) values ∙ ap (truths (bits b o n)) valid

-- the combination of two columns, by views of both
pub columns_combined : {l r x y : List (Option Bool)} {b c d e : List ℕ} {t v : ℕ}
    → (op : Option Bool → Option Bool → Option Bool) → l ≡ x → r ≡ y
    → Writes b c t (map (is_truth true) (zip2 op l r)) → Writes d e v (map is_some (zip2 op l r))
    → WritesColumn (zip2 op x y) b c t d e v
columns_combined {l} {r} {x} {y} {b} {c} {d} {e} {t} {v} op left right trues valid =
    let same : zip2 op l r ≡ zip2 op x y = ap (λ k. zip2 op k r) left ∙ ap (zip2 op x) right in
    record {
      trues = subst (Writes b c t) (ap (map (is_truth true)) same) trues;
      valid = subst (Writes d e v) (ap (map is_some) same) valid;
    }

-- the length of a column
length-column : (b : List ℕ) (o : ℕ) (all : Bool) (w : List ℕ) (v n : ℕ)
    → length (column_at b o all w v n) ≡ n
length-column b o true w v n =
    length-zip2 nullable (bits b o n) _ (sym (length-replicate (length (bits b o n)) true))
    ∙ length-bits b o n
length-column b o false w v n =
    length-zip2 nullable (bits b o n) (bits w v n) (length-bits b o n ∙ sym (length-bits w v n))
    ∙ length-bits b o n

-- and of a combination of two
pub length-combined : (op : Option Bool → Option Bool → Option Bool) (b : List ℕ) (o : ℕ)
    → (all : Bool) (w : List ℕ) (v : ℕ) (c : List ℕ) (p : ℕ) (each : Bool) (x : List ℕ) (u n : ℕ)
    → length (zip2 op (column_at b o all w v n) (column_at c p each x u n)) ≡ n
length-combined op b o all w v c p each x u n =
    let left = length-column b o all w v n in
    length-zip2 op _ _ (left ∙ sym (length-column c p each x u n)) ∙ left

-- a column written to the bytes of two windows
pub column_in_parts : {l : List (Option Bool)} {b c d e : List ℕ} (t v n f g : ℕ) → length l ≡ n
    → InBytes b t n → InBytes d v n → f ≡ div_ceil (t + n) 8 → g ≡ div_ceil (v + n) 8
    → WritesColumn l (part b t f) c (t % 8) (part d v g) e (v % 8)
    → WritesColumn l b (put_mid (t / 8) (f - t / 8) b c) t d (put_mid (v / 8) (g - v / 8) d e) v
column_in_parts {l} {b} {c} {d} {e} t v n f g size trues valid one other w = record {
  trues = Writes_in_part b c t f n (map (is_truth true) l) (length-map l _ ∙ size) trues one
      w.trues;
  valid = Writes_in_part d e v g n (map is_some l) (length-map l _ ∙ size) valid other w.valid;
}
