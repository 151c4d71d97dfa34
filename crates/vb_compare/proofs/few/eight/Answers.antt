use Rattle.std.proofs.Common.{arith, ◌≡◌, ◌^◌, ◌<◌, Bool, List, eqb, length, map, take, drop, sym}
use Rattle.std.proofs.Common.{ap, subst, ◌∙◌, length-set, false}
use Rattle.std.proofs.lemmas.Grind.{common_steps}
use Rattle.std.proofs.lemmas.List.{length-map, length-take-le, length-drop, get_or-take}
use Rattle.std.proofs.lemmas.List.{get_or-drop}
use Rattle.std.proofs.lemmas.Simd.{bitmask_splat, mask_l-lt}
use lib.Lanes.{mask_l}
use mir.Syntax.{w8}
use mir.Val.{bool_byte}
use Rattle.vb_bits.specs.Digits.{digits}
use Rattle.vb_pack.proofs.MaskLemmas.{digits-mask_l}
use Rattle.vb_compare.proofs.FewLemmas.{bytes_back}
use Rattle.vb_compare.proofs.few.eight.Goals as goal

pub loop-k-preserved : goal.loop-k-preserved
loop-k-preserved g c = record {
  long = simp length-set c.loop-k.invariant.long;
  written = grind (arith, common_steps, c.loop-k.invariant.long, c.loop-k.invariant.written);
}

pub returns-clause-digits : goal.returns-clause-digits
returns-clause-digits g c =
    let all : List Bool = g.S.Truths.truths c.args.source.now in
    let l : List Bool = take 8 (drop c.args.from all) in
    let long = c.loop-k.invariant.long in
    let size : length l ≡ 8 =
    length-take-le 8 (drop c.args.from all) (omega (arith, length-drop c.args.from all)) in
    let back : map (λ x. eqb x 1) c.loop-k.bytes ≡ l = bytes_back c.loop-k.bytes l 8 long size
    (λ i h. c.loop-k.invariant.written i (omega arith)
    ∙ ap bool_byte (sym (get_or-take 8 (drop c.args.from all) i false h
    ∙ get_or-drop c.args.from all i false))) in
    ap (λ w. digits w 0 8) (bitmask_splat w8 eqb c.loop-k.bytes 8 1 long (omega arith)
    ∙ ap mask_l back) ∙ digits-mask_l l 8 size

pub returns-clause-clear : goal.returns-clause-clear
returns-clause-clear g c =
    let long = c.loop-k.invariant.long in
    let told = map (λ x. eqb x 1) c.loop-k.bytes in
    let size : length told ≡ 8 = length-map c.loop-k.bytes (λ x. eqb x 1) ∙ long in
    subst (λ w. w < 2 ^ 8)
    (sym (bitmask_splat w8 eqb c.loop-k.bytes 8 1 long (omega arith)))
    (subst (λ n. mask_l told < 2 ^ n) size (mask_l-lt told))
