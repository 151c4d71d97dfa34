use Rattle.std.proofs.Common.{◌≡◌, ℕ, ◌+◌, ◌-◌, ◌≤◌, List, ◌++◌, length, take, refl, sym, ap, ◌∙◌}
use Rattle.std.proofs.Common.{subst, arith, Option, Result, Ok, Err}
use Rattle.std.specs.Prelude.{IfOk}
use Rattle.std.specs.Io.{ReadsAtMost}
use Rattle.std.specs.Io.KnownBytes.{prepend_known, Keeps, ReadConsumes}
use Rattle.std.proofs.Math.Seq.{take-append-add}
use Rattle.std.proofs.lemmas.List.{length-take-le, take-take}
use Rattle.std.proofs.lemmas.Slice.{take-put_mid}
use borrow.Rule.Slice.PartMut.{put_mid}
use Rattle.vb_script.proofs.KnownBytes.{Keeps-read}
use Rattle.vb_script.proofs.feed.read_behind.Goals as goal

-- the first items of a list of which a part was written
take-written : (room part : List ℕ) (end k count : ℕ) → end ≤ length room → count ≤ length part
    → take (end + count) (put_mid end k room part) ≡ take end room ++ take count part
take-written room part end k count within few =
    let all = take-put_mid end k room part (end + length part) refl within in
    let front = length-take-le end room within in
    sym (take-take (end + count) (end + length part) (put_mid end k room part) (omega arith))
    ∙ (ap (take (end + count)) all
    ∙ (ap (λ n. take (n + count) (take end room ++ part)) (sym front)
    ∙ take-append-add (take end room) part count))

-- if the read did not fail, the bytes that were read are after the first ones
read_kept : {E : Type 0} (room part : List ℕ) (end k : ℕ) (old new : Option (List ℕ))
    (r : Result ℕ E)
    → end ≤ length room → ReadsAtMost r part → ReadConsumes old new r part
    → IfOk r (λ count. Keeps (prepend_known (take end room) old)
    (prepend_known (take (end + count) (put_mid end k room part)) new))
read_kept room part end k old new (Err e) within bound read = tt
read_kept room part end k old new (Ok count) within bound read =
    subst (λ (bs : List ℕ). Keeps (prepend_known (take end room) old) (prepend_known bs new))
    (sym (take-written room part end k count within bound.0))
    (Keeps-read (take end room) (take count part) old new read.0)

pub returns-clause-kept : goal.returns-clause-kept
returns-clause-kept g c =
    let room = c.args.room.now in
    read_kept room c.read.new.buf c.args.end (length room - c.args.end)
    (g.R.Source.remaining c.args.input.now) (g.R.Source.remaining c.read.new.self) c.read.result
    (omega arith) c.read.ensures.bound c.read.ensures.bytes
