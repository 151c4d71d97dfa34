-- Windows of bytes written from front to end.
use Rattle.std.proofs.Common.{◌≡◌, ℕ, ◌+◌, ◌-◌, ◌^◌, ◌<◌, ◌≤◌, Bool, false, List, ◌++◌, length}
use Rattle.std.proofs.Common.{replicate, subst, ◌∙◌, arith}
use Rattle.vb_bits.specs.Bits.{bit_of, bits}
use Rattle.vb_bits.specs.Digits.{digits}
use Rattle.vb_bits.specs.Writes.{Writes}
use Rattle.vb_bits.proofs.DigitsLemmas.{length-digits}
use Rattle.vb_bits.proofs.WrittenLemmas.{Written-more, Written-ended}
use Rattle.vb_bits.proofs.WritesLemmas.{bits_windowed, Written_of, Writes_of}
use Rattle.vb_pack.proofs.WordsLemmas.{digits_above}

-- a window, and the list written after it
pub Writes-more : (b c d : List ℕ) (o p m n k : ℕ) (l : List Bool) → p ≡ o + m → length l ≡ n
    → k ≡ m + n → Writes b c o (bits c o m) → Writes c d p l
    → (bits d o k ≡ bits c o m ++ l) × Writes b d o (bits d o k)
Writes-more b c d o p m n k l from long whole first second =
    let more =
    Written-more bit_of bits bits_windowed b c d o p m k l from (omega arith) (Written_of first)
    (Written_of second) in
    (more.0, Writes_of (second.same_len ∙ first.same_len) more.1)

-- a window, and after it k digits of a number, which are 0 from digit r on
pub Writes-ended : (b c d : List ℕ) (o p m r n k w : ℕ) → p ≡ o + m → n ≡ m + r → r ≤ k
    → w < 2 ^ r → Writes b c o (bits c o m) → Writes c d p (digits w 0 k)
    → (bits d o n ≡ bits c o m ++ digits w 0 r)
    × Writes b d o (bits d o n ++ replicate (k - r) false)
Writes-ended b c d o p m r n k w from whole few small first second =
    let part : List Bool = digits w 0 r in let zeros : List Bool = replicate (k - r) false in
    let last : Writes c d p (part ++ zeros) =
    subst (Writes c d p) (digits_above w r k small few) second in
    let ended =
    Written-ended bit_of bits bits_windowed b c d o p m n part zeros from
    (omega (arith, length-digits w 0 r)) (Written_of first) (Written_of last) in
    (ended.0, Writes_of (second.same_len ∙ first.same_len) ended.1)
