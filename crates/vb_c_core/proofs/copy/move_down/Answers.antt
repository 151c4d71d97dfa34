use Rattle.std.proofs.Common.{ℕ, ◌+◌, ◌-◌, ◌*◌, ◌/◌, refl, arith}
use Rattle.vb_bits.specs.Bits.{bits}
use Rattle.vb_bits.proofs.BitsLemmas.{length-bits}
use Rattle.vb_bits.proofs.WritesLemmas.{Writes_none}
use Rattle.vb_c_core.proofs.MoveLemmas.{moved_at, moved_more}
use Rattle.vb_c_core.proofs.copy.move_down.Goals as goal

pub loop-k-init : goal.loop-k-init
loop-k-init c =
    let b = c.args.bytes.now in
    Writes_none b c.args.d (bits b c.args.s 0) (length-bits b c.args.s 0)

pub loop-k-preserved : goal.loop-k-preserved
loop-k-preserved c =
    let d : ℕ = c.args.d in
    let s : ℕ = c.args.s in
    let done : ℕ = 4096 * c.loop-k.k in
    moved_at _ _ _ _ _ d s (4096 * (c.loop-k.k + 1)) (moved_more d s done 4096 c.requires.down
    c.loop-k.invariant c.move_by.ensures.moved) refl refl (omega arith)

pub returns : goal.returns
returns c =
    let d : ℕ = c.args.d in
    let s : ℕ = c.args.s in
    let len : ℕ = c.args.len in
    let done : ℕ = 4096 * (len / 4096) in
    moved_at _ _ _ _ _ d s len (moved_more d s done (len - done) c.requires.down
    (moved_at _ _ _ _ _ d s done c.loop-k.invariant refl refl (omega arith))
    c.move_by-2.ensures.moved) refl refl (omega arith)
