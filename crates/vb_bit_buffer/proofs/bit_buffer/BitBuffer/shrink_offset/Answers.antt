use Rattle.std.proofs.Common.{◌≡◌, ◌+◌, ◌-◌, length, min, ap, arith, rules, ◌∙◌}
use Rattle.std.specs.Int.{div_ceil}
use Rattle.std.proofs.lemmas.List.{length-take}
use Rattle.vb_bit_buffer.proofs.SetLemmas.{sets}
use Rattle.vb_bit_buffer.proofs.bit_buffer.BitBuffer.shrink_offset.Goals as goal

pub returns-clause-byte_len : goal.returns-clause-byte_len
returns-clause-byte_len g c =
    let len : length c.args.self.bits ≡ c.self.inside.len = search (rules, sets) in
    let count : c.div_ceil.result ≡ div_ceil (c.args.self.offset + length c.args.self.bits) 8 =
    search (rules, sets) in
    let kept : length c.narrow.new.self.list
    ≡ min (c.div_ceil.result - 0) (length c.self.inside.buffer.list) =
    ap length c.narrow.ensures.list
    ∙ length-take (c.div_ceil.result - 0) c.self.inside.buffer.list in
    omega (arith, len, count, kept, c.self.invariant.inside)
