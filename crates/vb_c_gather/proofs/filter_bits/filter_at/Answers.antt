use Rattle.std.proofs.Common.{◌≡◌, ℕ, ◌+◌, ◌-◌, ◌/◌, ◌%◌, ◌∙◌, Bool, false, List, length}
use Rattle.std.proofs.Common.{sym, ap, subst}
use Rattle.std.specs.Int.{div_ceil}
use borrow.Rule.Slice.PartMut.{put_mid}
use Rattle.vb_bits.specs.Bits.{bits, count}
use Rattle.vb_bits.specs.InBytes.{InBytes}
use Rattle.vb_bits.specs.Kept.{kept_by}
use Rattle.vb_bits.specs.Writes.{Writes}
use Rattle.vb_bits.proofs.BitsLemmas.{length-bits}
use Rattle.vb_bits.proofs.KeptLemmas.{length-kept_by}
use Rattle.vb_bits.proofs.WritesLemmas.{Writes_none}
use Rattle.vb_c_core.proofs.PartLemmas.{part, Writes_in_part}
use Rattle.vb_c_gather.specs.Filtered.{FiltersBitsAt}
use Rattle.vb_view.specs.View.{bits_of}
use Rattle.vb_c_gather.proofs.filter_bits.filter_at.Goals as goal

-- bits selected into the bytes of a window are selected into all bytes
in_part : (mask values : List Bool) (b new : List ℕ) (o e kept answer : ℕ)
    → length mask ≡ length values → kept ≡ count mask → InBytes b o (count mask)
    → e ≡ div_ceil (o + kept) 8 → answer ≡ count mask
    → Writes (part b o e) new (o % 8) (kept_by mask values)
    → FiltersBitsAt mask values b (put_mid (o / 8) (e - o / 8) b new) o answer
in_part mask values b new o e kept answer same number into end answered written =
    let size : length (kept_by mask values) ≡ kept =
    length-kept_by false mask values same ∙ sym number in
    record {
      number = answered;
      window = Writes_in_part b new o e kept (kept_by mask values) size
          (subst (InBytes b o) (sym number) into) end written;
    }

pub returns-then-kept-eq0 : goal.returns-then-kept-eq0
returns-then-kept-eq0 c =
    let a = c.args in let mask = bits a.mask.now a.m a.len in
    let values = bits a.bytes.now a.offset a.len in
    let none : count mask ≡ 0 = sym c.requires.kept ∙ c.if-kept-eq0.true in
    record {
      number = sym none;
      window = Writes_none _ _ _ (length-kept_by false mask values
          (length-bits a.mask.now a.m a.len ∙ sym (length-bits a.bytes.now a.offset a.len))
          ∙ none);
    }

pub returns-then-o-eq0 : goal.returns-then-o-eq0
returns-then-o-eq0 c =
    let a = c.args in let e = c.div_ceil-end.result in let new = c.filter_into.new.out in
    let mask = bits a.mask.now a.m a.len in let values = bits a.bytes.now a.offset a.len in
    let by = c.new_with_offset-mask.ensures.bits in
    let from = c.new_with_offset-values.ensures.bits in
    let same = ap (λ x. kept_by x (bits_of c.new_with_offset-values.result)) by
    ∙ ap (kept_by mask) from in
    in_part mask values a.out.now new a.o e a.kept _
    (length-bits a.mask.now a.m a.len ∙ sym (length-bits a.bytes.now a.offset a.len))
    c.requires.kept c.requires.mask.into c.div_ceil-end.ensures
    (c.filter_into.ensures.count ∙ ap count by)
    (subst (λ d. Writes (part a.out.now a.o e) new d (kept_by mask values))
    (sym c.if-o-eq0.true)
    (subst (Writes (part a.out.now a.o e) new 0) same c.filter_into.ensures.kept))

pub returns : goal.returns
returns c =
    let a = c.args in let e = c.div_ceil-end.result in let new = c.filter_into_at.new.out in
    let mask = bits a.mask.now a.m a.len in let values = bits a.bytes.now a.offset a.len in
    let by = c.new_with_offset-mask.ensures.bits in
    let from = c.new_with_offset-values.ensures.bits in
    let same = ap (λ x. kept_by x (bits_of c.new_with_offset-values.result)) by
    ∙ ap (kept_by mask) from in
    in_part mask values a.out.now new a.o e a.kept _
    (length-bits a.mask.now a.m a.len ∙ sym (length-bits a.bytes.now a.offset a.len))
    c.requires.kept c.requires.mask.into c.div_ceil-end.ensures
    (c.filter_into_at.ensures.count ∙ ap count by)
    (subst (Writes (part a.out.now a.o e) new (a.o % 8)) same c.filter_into_at.ensures.kept)
