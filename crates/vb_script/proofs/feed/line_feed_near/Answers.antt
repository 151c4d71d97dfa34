use Rattle.std.proofs.Common.{◌≡◌, ℕ, List, length, take, eqb, sym, ap, ◌∙◌, arith, w8}
use lib.Count.{count_trailing_zeros}
use Rattle.std.proofs.lemmas.List.{length-take-le}
use Rattle.std.proofs.lemmas.Simd.{bitmask_splat, leading_from_mask_l, trailing_mask_l}
use Rattle.vb_script.proofs.feed.line_feed_near.Goals as goal

pub returns-then-found-eq0 : goal.returns-then-found-eq0
returns-then-found-eq0 c =
    let front : List ℕ = take 32 c.args.bytes.now in
    let long : length front ≡ 32 = length-take-le 32 c.args.bytes.now c.requires in
    let mask = bitmask_splat w8 eqb front 32 10 long (omega arith) in
    let none = sym mask ∙ c.if-found-eq0.true in
    sym (leading_from_mask_l (λ b. eqb b 10) front none ∙ long)

pub returns-else-found-eq0 : goal.returns-else-found-eq0
returns-else-found-eq0 c =
    let front : List ℕ = take 32 c.args.bytes.now in
    let long : length front ≡ 32 = length-take-le 32 c.args.bytes.now c.requires in
    let mask = bitmask_splat w8 eqb front 32 10 long (omega arith) in
    ap (count_trailing_zeros 64) mask
    ∙ trailing_mask_l (λ b. eqb b 10) 64 front (omega arith) (omega arith)
