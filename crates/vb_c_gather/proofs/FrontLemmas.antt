-- Writes to only the bytes of a window, in front or from any bit on.
use Rattle.std.proofs.Common.{◌≡◌, ℕ, ℤ, ◌+◌, ◌-◌, ◌*◌, ◌/◌, ◌%◌, ◌≤◌, Bool, false, List, ◌++◌}
use Rattle.std.proofs.Common.{length, take, drop, replicate, Option, sym, ap, subst, ◌∙◌, arith}
use Rattle.std.specs.Int.{div_ceil}
use Rattle.std.proofs.lemmas.List.{length-append, length-replicate, length-take-le}
use borrow.Rule.Slice.PartMut.{put_mid}
use Rattle.vb_bits.specs.Bits.{bits}
use Rattle.vb_bits.specs.InBytes.{InBytes}
use Rattle.vb_bits.specs.Writes.{Writes}
use Rattle.vb_bits.proofs.BitsLemmas.{length-bits}
use Rattle.vb_bits.proofs.WindowLemmas.{bits-append}
use Rattle.vb_c_core.proofs.PartLemmas.{part, Writes_in_part}
use Rattle.vb_c_core.specs.declared.taken.Taken.{Taken}
use Rattle.vb_filter.proofs.PendingLemmas.{Writes_in_front}
use Rattle.vb_pack.specs.WordBits.{filled_to}
use Rattle.vb_take.specs.Takes.{IsTaken}
use Rattle.vb_c_gather.specs.Packed.{Packs}
use Rattle.vb_c_gather.specs.Taken.{TakesAt}

-- values packed into the first bytes
pub Packs_in_front : (bools : List Bool) (b c : List ℕ) (n e : ℕ) → length bools ≡ n
    → e ≡ div_ceil n 8 → n ≤ 8 * length b → bits c 0 n ≡ bools
    → Writes (take e b) c 0 (filled_to 8 bools) → Packs bools b (c ++ drop e b)
Packs_in_front bools b c n e size end room packed written =
    let inside : e ≤ length b = omega (arith, end, room) in
    let long : length c ≡ e = written.same_len ∙ length-take-le e b inside in
    let filler : List Bool = replicate ((8 - length bools % 8) % 8) false in
    record {
      packed = ap (bits (c ++ drop e b) 0) size
          ∙ bits-append c (drop e b) 0 n (omega (arith, long, end)) ∙ packed;
      written = Writes_in_front b c 0 e (filled_to 8 bools) inside
          (omega (
            arith,
            end,
            size,
            length-append bools filler,
            length-replicate ((8 - length bools % 8) % 8) false,
          ))
          written;
    }

-- bits taken into the bytes of a window
pub Takes_in_part : (l : List Bool) (indices : List ℤ) (validity : Option (List Bool))
    → (b c : List ℕ) (answer : Taken) (o e : ℕ) → InBytes b o (length indices)
    → e ≡ div_ceil (o + length indices) 8
    → TakesAt l indices validity (part b o e) c (o % 8) answer
    → TakesAt l indices validity b (put_mid (o / 8) (e - o / 8) b c) o answer
Takes_in_part l indices validity b c answer o e window end t =
    let n : ℕ = length indices in
    let new : List ℕ = put_mid (o / 8) (e - o / 8) b c in
    let w : Writes b new o (bits c (o % 8) n) =
    Writes_in_part b c o e n (bits c (o % 8) n) (length-bits c (o % 8) n) window end t.others in
    let same : bits new o n ≡ bits c (o % 8) n =
    ap (bits new o) (sym (length-bits c (o % 8) n)) ∙ w.window in
    record {
      taken = λ h. subst (IsTaken l indices validity) (sym same) (t.taken h);
      past = t.past;
      others = subst (Writes b new o) (sym same) w;
    }
