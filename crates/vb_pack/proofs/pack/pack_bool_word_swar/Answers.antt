use Rattle.std.proofs.Common.{arith, ◌≡◌, ℕ, ◌+◌, ◌-◌, ◌*◌, ◌%◌, ◌^◌, take, length, ap, ◌∙◌}
use Rattle.std.specs.Int.Bits.{bit_or}
use lib.Lanes.{mask_l, chunk}
use Rattle.std.proofs.Math.Seq.{take-length}
use Rattle.vb_pack.specs.Digits.{digits}
use Rattle.vb_pack.proofs.MaskLemmas.{mask_l-more, digits-mask_l}
use Rattle.vb_pack.proofs.pack.pack_bool_word_swar.Goals as goal

pub loop-k-preserved : goal.loop-k-preserved
loop-k-preserved c =
    let k : ℕ = c.loop-k.k in let l = c.args.bools.now in
    let eight : 8 * k + 8 - 8 * k ≡ 8 = omega arith in
    let byte : c.from.result ≡ mask_l (chunk (8 * k) 8 l) =
    c.from.ensures ∙ c.pack_byte.ensures ∙ ap (λ n. mask_l (chunk (8 * k) n l)) eight in
    ap (λ p. bit_or p (c.from.result * 2 ^ (8 * k) % 2 ^ 64)) c.loop-k.invariant
    ∙ ap (λ b. bit_or (mask_l (take (8 * k) l)) (b * 2 ^ (8 * k) % 2 ^ 64)) byte
    ∙ mask_l-more l k c.told-bools c.loop-k-test.true

pub returns : goal.returns
returns c =
    let all : 8 * c.loop-k.k ≡ length c.args.bools.now = omega arith in
    let packed : c.loop-k.packed ≡ mask_l c.args.bools.now =
    c.loop-k.invariant ∙ ap (λ n. mask_l (take n c.args.bools.now)) all
    ∙ ap mask_l (take-length c.args.bools.now) in
    ap (λ w. digits w 0 64) packed ∙ digits-mask_l c.args.bools.now 64 c.told-bools
