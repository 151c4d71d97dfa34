use Rattle.std.proofs.Common.{ℕ, ◌+◌, ◌-◌, ◌*◌, ◌/◌, refl, arith}
use Rattle.vb_c_core.proofs.MoveLemmas.{moved_at, moved_before}
use Rattle.vb_c_core.proofs.copy.move_up.Goals as goal

pub loop-k-init : goal.loop-k-init
loop-k-init c =
    let whole : ℕ = c.args.len / 4096 in
    moved_at _ _ _ _ _ (c.args.d + 4096 * (whole - 0)) (c.args.s + 4096 * (whole - 0))
    (c.args.len - 4096 * (whole - 0)) c.move_by.ensures.moved (omega arith) (omega arith)
    (omega arith)

pub loop-k-preserved : goal.loop-k-preserved
loop-k-preserved c =
    let d : ℕ = c.args.d in
    let s : ℕ = c.args.s in
    let len : ℕ = c.args.len in
    let k : ℕ = c.loop-k.k in
    let left : ℕ = 4096 * (len / 4096 - 1 - k) in
    let n : ℕ = len - 4096 * (len / 4096 - k) in
    moved_at _ _ _ _ _ (d + 4096 * (len / 4096 - (k + 1))) (s + 4096 * (len / 4096 - (k + 1)))
    (len - 4096 * (len / 4096 - (k + 1)))
    (moved_before (d + left) (s + left) 4096 n (omega (arith, c.requires.up))
    (moved_at _ _ _ _ _ (d + left + 4096) (s + left + 4096) n c.loop-k.invariant (omega arith)
    (omega arith) refl) c.move_by-in-loop-k.ensures.moved) (omega arith) (omega arith) (omega arith)

pub returns : goal.returns
returns c =
    moved_at _ _ _ _ _ c.args.d c.args.s c.args.len c.loop-k.invariant (omega arith) (omega arith)
    (omega arith)
