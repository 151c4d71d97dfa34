use Rattle.std.proofs.Common.{rules, false, ◌≡◌, ◌+◌, ℕ, List, length, replicate, sym}
use Rattle.std.proofs.Common.{ap, zero, zero-add, length-append, ◌∙◌, arith}
use Rattle.std.specs.Int.{div_ceil}
use Rattle.std.proofs.lemmas.List.{length-replicate}
use Rattle.vb_bits.specs.Bits.{bits}
use Rattle.vb_bits.specs.Kept.{kept_by}
use Rattle.vb_bits.proofs.KeptLemmas.{length-kept_by}
use Rattle.vb_view.specs.View.{bits_of}
use Rattle.vb_gather.proofs.WrittenOver.{refilled}
use Rattle.vb_gather.proofs.filter.BitBufferFilter.filtered.Goals as goal

pub returns : goal.returns
returns g c =
    let mask = bits_of c.args.mask in
    let values = c.args.self.now.bits in
    let count : ℕ = c.true_count-count.result in
    let room = c.push_n_unchecked.new.self.list in
    let out = c.filter_into.new.out in
    let same : length values ≡ length mask = omega (arith, c.len.ensures, c.len-2.ensures) in
    let frozen = c.in_ok-freeze.ensures.ok.list ∙ refilled room out
    (c.filter_into.ensures.kept.same_len ∙ ap length c.as_mut_slice.ensures.value) in
    let many : length (kept_by mask values) ≡ count =
    length-kept_by false mask values (sym same) ∙ sym c.true_count-count.ensures in
    let seen : kept_by mask (bits_of c.as_view.result) ≡ kept_by mask values =
    ap (kept_by mask) c.as_view.ensures.bits in
    let first : bits out 0 count ≡ kept_by mask values =
    ap (bits out 0) (sym many ∙ ap length (sym seen)) ∙ c.filter_into.ensures.kept.window
    ∙ seen in
    let size : ℕ = c.div_ceil-byte_len.result in
    let zeros : List ℕ = replicate size 0 in
    let none : length c.in_ok-bytes.bytes.list ≡ 0 = ap length c.in_ok-bytes.ensures.ok.0.list in
    let sized : length room ≡ div_ceil count 8 =
    ap length c.push_n_unchecked.ensures.adds.list
    ∙ length-append c.in_ok-bytes.bytes.list zeros
    ∙ ap (λ k. k + length zeros) none
    ∙ zero-add (length zeros) ∙ length-replicate size zero
    ∙ c.div_ceil-byte_len.ensures in
    record {
      ok = record {
        bits = ap (λ s. s.bits) c.new.ensures.value ∙ ap (λ b. bits b 0 count) frozen ∙ first;
        offset = ap (λ s. s.offset) c.new.ensures.value;
        byte_len = ap (λ s. length s.bytes) c.new.ensures.value ∙ ap length frozen
            ∙ c.filter_into.ensures.kept.same_len ∙ ap length c.as_mut_slice.ensures.value
            ∙ sized ∙ ap (λ n. div_ceil n 8) (sym c.new.ensures.len);
      };
      same_len = search rules;
      other_len = λ other. absurd (other same);
    }
