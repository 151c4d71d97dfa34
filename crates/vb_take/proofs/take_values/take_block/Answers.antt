use Rattle.std.proofs.Common.{◌≡◌, ℕ, ◌+◌, ◌-◌, ◌^◌, ◌<◌, ◌≤◌, Bool, List}
use Rattle.std.proofs.Common.{Option, Some, length, map}
use Rattle.std.proofs.Common.{drop, sym, ap, ◌∙◌, arith}
use Rattle.std.proofs.lemmas.Result.{IfOk-weaker, IfErr-weaker}
use Rattle.vb_bits.specs.Digits.{has_bit}
use Rattle.vb_take.proofs.ValueBlocksLemmas.{either_way, drop_later, taken_full, taken_split}
use Rattle.vb_take.proofs.ValueBlocksLemmas.{stop_first, stop_stays}
use Rattle.vb_take.proofs.take_values.take_block.Goals as goal
use Rattle.vb_view.specs.View.{bits_of}

pub returns-then-word-clause-taken : goal.returns-then-word-clause-taken
returns-then-word-clause-taken g c =
    let full : c.valid_word-word.result ≡ 2 ^ 64 - 1 = omega (arith, c.if-word.true) in
    let few : 64 ≤ 64 = omega arith in
    IfOk-weaker c.put_full.result _ _ (λ x put.
    taken_full g.I.BitIndex.number g.T.Element.zero c.args.values.now c.args.indices.now
    (Some (bits_of c.args.valid)) c.args.at c.valid_word-word.result c.valid_word-word.ensures
    64 c.args.out.now c.put_full.new.out few full c.requires.before put)
    c.put_full.ensures.put

pub returns-then-word-clause-begun : goal.returns-then-word-clause-begun
returns-then-word-clause-begun g c =
    let a : ℕ = c.args.at in
    let full : c.valid_word-word.result ≡ 2 ^ 64 - 1 = omega (arith, c.if-word.true) in
    IfErr-weaker c.put_full.result _ _ (λ p stop.
    let few : p - a ≤ 64 = omega (arith, stop.within) in
    let place : a + (p - a) ≡ p = omega (arith, stop.from) in
    λ i h. taken_full g.I.BitIndex.number g.T.Element.zero c.args.values.now
    c.args.indices.now (Some (bits_of c.args.valid)) a c.valid_word-word.result
    c.valid_word-word.ensures (p - a) c.args.out.now c.put_full.new.out few full
    c.requires.before stop.put i (omega (arith, place)))
    c.put_full.ensures.past

pub returns-then-word-clause-past : goal.returns-then-word-clause-past
returns-then-word-clause-past g c =
    let f = g.I.BitIndex.number in
    let zero = g.T.Element.zero in
    let items = c.args.values.now in
    let xs = c.args.indices.now in
    let v : Option (List Bool) = Some (bits_of c.args.valid) in
    let a : ℕ = c.args.at in
    let word : ℕ = c.valid_word-word.result in
    let counts = c.valid_word-word.ensures in
    let out = c.args.out.now in
    let new = c.put_full.new.out in
    let full : word ≡ 2 ^ 64 - 1 = omega (arith, c.if-word.true) in
    let all = λ (k : ℕ) (h : k < 64). ap (λ w. has_bit w k) (sym full) ∙ counts k h in
    IfErr-weaker c.put_full.result _ _ (λ p stop.
    let few : p - a ≤ 64 = omega (arith, stop.within) in
    let place : a + (p - a) ≡ p = omega (arith, stop.from) in
    stop_first f zero items xs v a (2 ^ 64 - 1) all p out new new stop c.requires.inside
    (λ i h. taken_full f zero items xs v a word counts (p - a) out new few full
    c.requires.before stop.put i (omega (arith, place))))
    c.put_full.ensures.past

pub returns-then-word-clause-others : goal.returns-then-word-clause-others
returns-then-word-clause-others g c =
    let n : ℕ = length c.args.indices.now in
    let out = c.args.out.now in
    let new = c.put_full.new.out in
    either_way c.put_full.result (drop n new ≡ drop n out)
    (IfOk-weaker c.put_full.result _ _ (λ x put.
    drop_later n (c.args.at + 64) out new c.requires.inside put.behind) c.put_full.ensures.put)
    (IfErr-weaker c.put_full.result _ _ (λ p stop.
    drop_later n p out new (omega (arith, stop.within, c.requires.inside))
    (stop_stays g.T.Element.zero c.args.values.now
    (map g.I.BitIndex.number c.args.indices.now) c.args.at _ p out new stop))
    c.put_full.ensures.past)

pub returns-then-all_named-clause-others : goal.returns-then-all_named-clause-others
returns-then-all_named-clause-others g c =
    let n : ℕ = length c.args.indices.now in
    let a : ℕ = c.args.at in
    let out = c.args.out.now in
    let mid = c.clear_block.new.out in
    let new = c.put_ones.new.out in
    drop_later n (a + 64) out new c.requires.inside
    (either_way c.put_ones.result (drop (a + 64) new ≡ drop (a + 64) mid)
    (IfOk-weaker c.put_ones.result _ _ (λ x put. put.behind) c.put_ones.ensures.put)
    (IfErr-weaker c.put_ones.result _ _ (λ p stop.
    drop_later (a + 64) p mid new (omega (arith, stop.within))
    (stop_stays g.T.Element.zero c.args.values.now
    (map g.I.BitIndex.number c.args.indices.now) a c.valid_word-word.result p mid new stop))
    c.put_ones.ensures.past)
    ∙ c.clear_block.ensures.behind)

pub returns-in-Ok-clause-others : goal.returns-in-Ok-clause-others
returns-in-Ok-clause-others g c =
    drop_later (length c.args.indices.now) (c.args.at + 64) c.args.out.now c.put_zeros.new.out
    c.requires.inside (c.put_zeros.ensures.behind ∙ c.in-Ok.ensures.put.behind)

pub returns-in-Err-clause-begun : goal.returns-in-Err-clause-begun
returns-in-Err-clause-begun g c =
    let a : ℕ = c.args.at in
    let p : ℕ = c.in-Err.place in
    let stop = c.in-Err.ensures.past in
    let few : p - a ≤ 64 = omega (arith, stop.within) in
    let place : a + (p - a) ≡ p = omega (arith, stop.from) in
    λ i h. taken_split g.I.BitIndex.number g.T.Element.zero c.args.values.now c.args.indices.now
    (Some (bits_of c.args.valid)) a c.valid_word-word.result c.valid_word-word.ensures (p - a)
    c.args.out.now c.put_ones-answer.new.out c.put_zeros-in-Err.new.out few c.requires.before
    stop.put c.put_zeros-in-Err.ensures i (omega (arith, place))

pub returns-in-Err-clause-past : goal.returns-in-Err-clause-past
returns-in-Err-clause-past g c =
    stop_first g.I.BitIndex.number g.T.Element.zero c.args.values.now c.args.indices.now
    (Some (bits_of c.args.valid)) c.args.at c.valid_word-word.result c.valid_word-word.ensures
    c.in-Err.place c.args.out.now c.put_ones-answer.new.out c.put_zeros-in-Err.new.out
    c.in-Err.ensures.past c.requires.inside (returns-in-Err-clause-begun g c)

pub returns-in-Err-clause-others : goal.returns-in-Err-clause-others
returns-in-Err-clause-others g c =
    let a : ℕ = c.args.at in
    let p : ℕ = c.in-Err.place in
    let n : ℕ = length c.args.indices.now in
    let stop = c.in-Err.ensures.past in
    let place : a + (p - a) ≡ p = omega (arith, stop.from) in
    drop_later n (a + (p - a)) c.args.out.now c.put_zeros-in-Err.new.out
    (omega (arith, place, stop.within, c.requires.inside))
    (c.put_zeros-in-Err.ensures.behind ∙ stop.put.behind)
