use Rattle.std.proofs.Common.{◌≡◌, ◌-◌, ◌*◌, ◌<◌, ℕ, length, take, drop, replicate, ap, sym, arith}
use Rattle.std.proofs.Common.{◌∙◌}
use Rattle.std.proofs.lemmas.List.{length-take, length-drop}
use Rattle.vb_bits.specs.Bits.{bits}
use Rattle.vb_bits.specs.Digits.{has_bit}
use Rattle.vb_bits.proofs.WindowLemmas.{bits-replicate, digits-full, digits-clear}
use Rattle.vb_bits.proofs.WritesLemmas.{Writes-put_mid}
use Rattle.vb_bits.proofs.fill.fill_bytes.Goals as goal
use Rattle.vb_bits.proofs.fill.fill_bytes.Goals.{then-v, else-v}

pub returns : goal.returns
returns c =
    let n : ℕ = c.args.last - c.args.first in
    let run = c.fill.ensures.after (λ y e. e) in
    let part : length (take n (drop c.args.first c.args.bytes.now)) ≡ n =
    simp (length-take, length-drop) (omega arith) in
    let each : (j : ℕ) → j < 8 → has_bit c.if-v.fill j ≡ c.args.v =
    λ j l. elim c.if-v.branch [
      | then-v w ↦ ap (λ x. has_bit x j) w.fill-is ∙ digits-full j l ∙ sym w.if-v.true
      | else-v w ↦ ap (λ x. has_bit x j) w.fill-is ∙ digits-clear j ∙ sym w.if-v.false
    ] in
    let size : 8 * c.args.last - 8 * c.args.first ≡ 8 * n = omega arith in
    Writes-put_mid c.args.bytes.now c.fill.new.self c.args.first n _
    (c.fill.ensures.len ∙ part) (omega arith)
    (ap (λ l. bits l 0 (8 * n)) run ∙ bits-replicate c.if-v.fill _
    (8 * n) c.args.v each (omega arith) ∙ ap (λ k. replicate k c.args.v) (sym size))
