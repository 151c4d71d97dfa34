use Rattle.std.proofs.Common.{◌≡◌, ◌+◌, ◌<◌, ◌++◌, ◌∙◌, length, length-append, sym, ap, arith}
use Rattle.std.proofs.lemmas.List.{length_push}
use Rattle.std.proofs.lemmas.List.Elements.{All-same, All-push}
use Rattle.std.specs.Slice.Iter.{chunks_exact_rest}
use Rattle.vb_core.specs.ByteForm.{byteform}
use Rattle.vb_core.proofs.ByteForms.{byteform-injective}
use Rattle.vb_core.proofs.ReadForms.{part_are_bytes, byteform-more, byteform-whole, no_bytes_left}
use Rattle.vb_core.proofs.bytes.read_items.Goals as goal

-- the bytes of the item just read are the bytes of the chunk
pub loop-chunk-preserved : goal.loop-chunk-preserved
loop-chunk-preserved g c =
    let element = g.T.Element in
    let kept = c.loop-chunk.invariant in
    let items = c.loop-chunk.items.items in
    let chunk = c.in-Some.chunk.now in
    let before = chunks_exact_rest c.loop-chunk.chunk-iterator in
    let after = chunks_exact_rest c.next.new.self in
    let step = c.in-Some.ensures.steps in
    let cut = step.1.0 in
    let size : length chunk ≡ element.SIZE = step.1.1 ∙ kept.size in
    let whole = ap (λ l. byteform element.form items ++ l) (sym cut) ∙ kept.read in
    let bytes =
    part_are_bytes c.args.bytes.now (byteform element.form items) chunk after
    c.type_inv.bytes whole in
    let next =
    ap element.form c.get.ensures.value ∙ g.met.T.Element.lawful.put_after_get chunk size bytes in
    let longer = c.push_reserved.ensures.items in
    let many : length c.push_reserved.new.self.items ≡ length items + 1 =
    ap length longer ∙ length_push items c.get.result in
    record {
      size = step.0 ∙ kept.size;
      read =
          byteform-more element.form items c.args.bytes.now c.push_reserved.new.self.items
          c.get.result chunk before after longer next cut kept.read;
      len = rw many (omega (arith, kept.len, size, simp length-append at (ap length cut)));
      in_type =
          All-same element.is_in_type _ _ longer
          (All-push element.is_in_type items c.get.result kept.in_type c.get.ensures.in_type);
      room = c.push_reserved.ensures.capacity ∙ kept.room;
    }

-- fewer bytes than one item has are left, and the item's size divides the number of bytes, so none
-- are left. Other items with these bytes are the same items, since items and bytes determine each
-- other
pub returns : goal.returns
returns g c =
    let element = g.T.Element in
    let kept = c.loop-chunk.invariant in
    let items = c.loop-chunk.items.items in
    let rest = chunks_exact_rest c.loop-chunk.chunk-iterator in
    let few : length rest < element.SIZE = omega (arith, c.in-None.ensures.steps.1.0, kept.size) in
    let none =
    no_bytes_left (length items) element.SIZE (length rest) (length c.args.bytes.now) few kept.len
    c.requires.whole in
    let read = byteform-whole element.form items c.args.bytes.now rest none kept.read in
    record {
      bytes_are = read;
      in_type = kept.in_type;
      len = omega (arith, kept.len, none);
      only = λ others valid same. byteform-injective element.SIZE element.ALIGN
          element.align_exponent element.is_in_type element.form element.value_of
          g.met.T.Element.lawful others items valid kept.in_type (same ∙ sym read);
    }
