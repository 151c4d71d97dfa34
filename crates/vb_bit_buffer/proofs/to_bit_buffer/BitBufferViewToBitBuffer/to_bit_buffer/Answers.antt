use Rattle.std.proofs.Common.{◌≡◌, ◌+◌, length, rules, ap, ◌∙◌}
use Rattle.std.specs.Int.{div_ceil}
use Rattle.vb_bit_bytes.proofs.BytesLemmas.{edits}
use Rattle.vb_view.specs.View.{bits_of, offset_of}
use Rattle.vb_bit_buffer.proofs.to_bit_buffer.BitBufferViewToBitBuffer.to_bit_buffer.Goals as goal

pub returns : goal.returns
returns g c =
    let set = c.new_with_offset.result in
    let same : set.bits ≡ bits_of c.args.self.now = search (rules, edits) in
    let first : set.offset ≡ offset_of c.args.self.now = search (rules, edits) in
    let alone : length set.bytes ≡ div_ceil (set.offset + length set.bits) 8 =
    search (rules, edits) in
    record {
      ok = record {
        bits = same;
        offset = first;
        byte_len = alone ∙ ap (λ l. div_ceil (set.offset + length l) 8) same
            ∙ ap (λ o. div_ceil (o + length (bits_of c.args.self.now)) 8) first;
      };
      refused = search rules;
    }
