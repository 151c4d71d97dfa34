use Rattle.std.proofs.Common.{◌≡◌, ℕ, ◌+◌, ◌-◌, ◌*◌, length, take, drop, ap, arith, ◌∙◌}
use Rattle.std.proofs.lemmas.List.{length-take, length-drop}
use Rattle.vb_bits.specs.Bits.{bits}
use Rattle.vb_bits.proofs.BytesLemmas.{bits-to_le_bytes}
use Rattle.vb_bits.proofs.WindowLemmas.{bits-take_bytes}
use Rattle.vb_bits.proofs.WritesLemmas.{Writes-put_mid}
use Rattle.vb_pack.proofs.bytes.write_front.Goals as goal

pub returns : goal.returns
returns c =
    let at : ℕ = c.args.at in let n : ℕ = c.args.n in let front = c.copy_from_slice.new.self in
    let size : at + n - at ≡ n = omega arith in
    let part : length (take (at + n - at) (drop at c.args.bytes.now)) ≡ at + n - at =
    simp (length-take, length-drop) (omega arith) in
    Writes-put_mid c.args.bytes.now front at
    (at + n - at) _ (c.copy_from_slice.ensures.len ∙ part) (omega arith)
    (ap (λ k. bits front 0 (8 * k)) size
    ∙ ap (λ l. bits l 0 (8 * n)) c.copy_from_slice.ensures.after
    ∙ bits-take_bytes n c.to_le_bytes.result 0 (8 * n) (omega arith)
    ∙ ap (λ l. bits l 0 (8 * n)) c.to_le_bytes.ensures
    ∙ bits-to_le_bytes c.args.word 0 (8 * n) (omega arith))
