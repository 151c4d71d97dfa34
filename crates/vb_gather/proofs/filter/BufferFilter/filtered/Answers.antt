use Rattle.std.proofs.Common.{◌≡◌, length, sym, ap, subst, ◌∙◌, arith}
use Rattle.std.proofs.lemmas.Result.{IfOk-weaker}
use Rattle.vb_bits.specs.Bits.{count}
use Rattle.vb_bits.specs.Kept.{kept_by}
use Rattle.vb_mem.specs.SharedBuffer.{ShowsMade}
use Rattle.vb_view.specs.View.{bits_of}
use Rattle.vb_walk.proofs.WordOnes.{kept_all}
use Rattle.vb_gather.proofs.filter.BufferFilter.filtered.Goals as goal

pub returns-then-count-items : goal.returns-then-count-items
returns-then-count-items g c =
    let mask = bits_of c.args.mask in
    let list = c.args.self.now.list in
    let given = c.as_slice-items.ensures in
    let same : length mask ≡ length list = omega (arith, ap length given) in
    let full : count mask ≡ length mask =
    omega (arith, c.true_count-count.ensures, ap length given) in
    let all = given ∙ sym (kept_all mask list same full) in
    record {
      ok = IfOk-weaker c.copy_from_aligned.result _ _ (λ k made.
          subst (λ a. ShowsMade (kept_by mask list) a k) c.alignment-alignment.ensures.value
          (subst (λ l. ShowsMade l c.alignment-alignment.result k) all made))
          c.copy_from_aligned.ensures.ok;
      same_len = λ _. c.copy_from_aligned.ensures.refused;
      other_len = λ other. absurd (other (sym same));
    }
