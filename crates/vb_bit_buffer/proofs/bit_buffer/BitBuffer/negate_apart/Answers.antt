use Rattle.std.proofs.Common.{◌≡◌, ◌++◌, [], length, take, ap, arith, rules, ◌∙◌}
use Rattle.std.proofs.lemmas.List.{length-take}
use Rattle.vb_bit_buffer.proofs.SetLemmas.{sets}
use Rattle.vb_bit_buffer.proofs.bit_buffer.BitBuffer.negate_apart.Goals as goal

pub returns : goal.returns
returns g c =
    let n = c.div_ceil-count.result in let all = c.as_slice.result.now in
    let seen : length c.args.self.now.bits ≡ c.self.inside.len = search (rules, sets) in
    let at : c.args.self.now.offset ≡ c.self.inside.offset = search rules in
    let none : c.in_ok-bytes.bytes.list ≡ [] = search rules in
    let front : c.extend_from_slice.new.self.list ≡ take n all =
    c.in_ok-extend_from_slice.ensures.ok.list ∙ ap (λ l. l ++ take n all) none in
    let shown = ap length c.as_slice.ensures in
    let copied = ap length front ∙ length-take n all in
    let negated : length c.negate.new.bytes.list ≡ length c.extend_from_slice.new.self.list =
    c.negate.ensures.bits.same_len in
    let frozen : length c.in_ok-buffer.buffer.list ≡ length c.negate.new.bytes.list =
    search rules in
    record {
      ok = search (rules, sets);
      len = search (rules, sets);
      offset = search rules;
      byte_len = omega (
        arith,
        seen,
        at,
        c.div_ceil-count.ensures,
        shown,
        copied,
        negated,
        frozen,
        c.self.invariant.inside,
      );
      refused = search rules;
    }
