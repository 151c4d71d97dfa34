-- Facts about windows and writes that shared sets need.
use Rattle.std.proofs.Common.{◌≡◌, ℕ, ◌*◌, ◌^◌, ◌<◌, ◌≤◌, Bool, List, length, take, ap, sym, ◌∙◌}
use Rattle.std.proofs.Common.{arith}
use Rattle.std.proofs.lemmas.List.{length-take}
use Rattle.vb_bits.specs.Bits.{bits}
use Rattle.vb_bits.proofs.BitsLemmas.{length-bits}
use Rattle.vb_bits.proofs.WindowLemmas.{bits-take_bytes}
use Rattle.vb_bit_bytes.proofs.BytesLemmas.{edits}
use Rattle.vb_view.specs.Windows.{IsWindow}

-- a window that begins with the first byte, in the first m bytes
pub IsWindow-take : (m : ℕ) (b : List ℕ) (o n : ℕ) (l : List Bool)
    → bits b o n ≡ l → o ≡ 0 → n ≤ 8 * m → m ≤ length b → n < 2 ^ 64 → IsWindow (take m b) 0 l
IsWindow-take m b o n l e first inside within fits =
    let len : length l ≡ n = sym (ap length e) ∙ length-bits b o n in
    record {
      inside = omega (arith, len, length-take m b);
      fits = omega (arith, len);
      same = ap (bits (take m b) 0) len
          ∙ bits-take_bytes m b 0 n (omega arith) ∙ ap (λ x. bits b x n) (sym first) ∙ e;
    }

-- ---- for `#[tactic(auto, using(..))]`
pub ruleset sets = (edits, IsWindow-take)
