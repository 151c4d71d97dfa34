use Rattle.std.proofs.Common.{arith, ◌≡◌, eqb, map, ap, ◌∙◌, length-set}
use Rattle.std.proofs.lemmas.Grind.{common_steps}
use Rattle.std.proofs.lemmas.Simd.{bitmask_splat}
use lib.Lanes.{mask_l}
use mir.Syntax.{w8}
use Rattle.vb_pack.specs.Digits.{digits}
use Rattle.vb_pack.proofs.MaskLemmas.{digits-mask_l, compared_back}
use Rattle.vb_pack.proofs.pack.pack_lanes.Goals as goal

pub loop-i-preserved : goal.loop-i-preserved
loop-i-preserved c = record {
  long = simp length-set c.loop-i.invariant.long;
  written = grind (arith, common_steps, c.loop-i.invariant.long, c.loop-i.invariant.written);
}

pub returns : goal.returns
returns c =
    let long = c.loop-i.invariant.long in
    let back : map (λ x. eqb x 1) c.loop-i.bytes ≡ c.args.bools.now = compared_back c.loop-i.bytes
    c.args.bools.now long c.requires (λ i h. c.loop-i.invariant.written i (omega arith)) in
    ap (λ w. digits w 0 64) (bitmask_splat w8 eqb c.loop-i.bytes 64 1 long (omega arith)
    ∙ ap mask_l back) ∙ digits-mask_l c.args.bools.now 64 c.requires
