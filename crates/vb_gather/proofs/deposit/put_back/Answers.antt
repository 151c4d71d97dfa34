use Rattle.std.proofs.Common.{◌≡◌, length, sym, ap, ◌∙◌}
use Rattle.std.specs.Int.{div_ceil}
use Rattle.vb_bits.specs.Bits.{bits, complement}
use Rattle.vb_bits.specs.Kept.{kept_by}
use Rattle.vb_filter.specs.Spread.{spread_by}
use Rattle.vb_filter.proofs.SpreadLemmas.{length-spread_by}
use Rattle.vb_view.specs.View.{bits_of}
use Rattle.vb_gather.proofs.WrittenOver.{refilled}
use Rattle.vb_gather.proofs.deposit.put_back.Goals as goal

pub returns-clause-made : goal.returns-clause-made
returns-clause-made g c =
    let mask = bits_of c.args.mask in
    let values = bits_of c.args.values in
    let room = c.in_ok-bytes.bytes.list in
    let out = c.deposit_into.new.out in
    let write = c.deposit_into.ensures in
    let sized : length out ≡ length room =
    write.spread.same_len ∙ ap length c.as_mut_slice.ensures.value in
    let frozen = c.in_ok-freeze.ensures.ok.list ∙ refilled room out sized in
    let len : c.len-2.result ≡ length mask = c.len-2.ensures in
    let many = length-spread_by mask values in
    let shown : c.new.result.bits ≡ bits out 0 (length mask) =
    ap (λ s. s.bits) c.new.ensures.value ∙ ap (λ b. bits b 0 c.len-2.result) frozen
    ∙ ap (bits out 0) len in
    let made : c.new.result.bits ≡ spread_by mask values =
    shown ∙ ap (bits out 0) (sym many) ∙ write.spread.window in
    record {
      fresh = record {
        bits = made;
        len = ap length made;
        offset = ap (λ s. s.offset) c.new.ensures.value;
        byte_len = ap (λ s. length s.bytes) c.new.ensures.value ∙ ap length frozen ∙ sized
            ∙ c.in_ok-bytes.ensures.len
            ∙ ap (λ n. div_ceil n 8) (c.len.ensures ∙ sym many);
      };
      kept = ap (kept_by mask) shown ∙ write.kept;
      others = ap (kept_by (complement mask)) shown ∙ write.others;
    }
