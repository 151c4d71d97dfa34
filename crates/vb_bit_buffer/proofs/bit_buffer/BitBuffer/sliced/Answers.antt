use Rattle.std.proofs.Common.{◌≡◌, ◌+◌, length, take, min, ap, arith, rules, ◌∙◌}
use Rattle.std.specs.Int.{div_ceil}
use Rattle.std.proofs.lemmas.List.{length-take}
use Rattle.vb_bit_buffer.proofs.SetLemmas.{sets}
use Rattle.vb_bit_buffer.proofs.bit_buffer.BitBuffer.sliced.Goals as goal

pub returns : goal.returns
returns g c =
    let set = c.in_ok-same.same in
    let seen : length c.args.self.now.bits ≡ c.self.inside.len = search (rules, sets) in
    let count : c.div_ceil.result ≡ div_ceil c.self.inside.len 8 = c.div_ceil.ensures in
    let copied : length c.copy.new.bytes.list ≡ length c.in_ok-bytes.bytes.list =
    c.copy.ensures.bits.same_len in
    let whole : length c.in_ok-bytes.bytes.list ≡ div_ceil (set.offset + length set.bits) 8 =
    c.in_ok-bytes.ensures.len in
    let same : length set.bits ≡ c.self.inside.len = search (rules, sets) in
    let bytes : c.window_of.result.bytes ≡ take c.div_ceil.result c.copy.new.bytes.list =
    search rules in
    let kept : length c.window_of.result.bytes
    ≡ min c.div_ceil.result (length c.copy.new.bytes.list) =
    ap length bytes ∙ length-take c.div_ceil.result c.copy.new.bytes.list in
    record {
      ok = record {
        bits = search (rules, sets);
        len = search (rules, sets);
        offset = search (rules, sets);
        byte_len = omega (arith, seen, count, copied, whole, same, kept);
      };
      refused = search rules;
    }
