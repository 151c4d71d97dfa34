use Rattle.std.proofs.Common.{◌≡◌, ℕ, Bool, List, ◌+◌, ◌*◌, ◌<◌, ◌++◌, length, take}
use Rattle.std.proofs.Common.{slice_range, ap, ◌∙◌, arith, subst}
use Rattle.std.proofs.lemmas.List.{length-take}
use Rattle.vb_set.specs.OpenSet.{AddsBits}
use Rattle.vb_set.specs.View.{bits_of}
use Rattle.vb_set.proofs.AddsLemmas.{AddsBits-none, AddsBits-append, take-longer, take-capped}
use Rattle.vb_ranked.proofs.append_parts.append_parts.Goals as goal

pub loop-part-init : goal.loop-part-init
loop-part-init g c =
    let keeps = c.reserve.ensures.keeps in
    record {
      adds = AddsBits-none c.args.set.now c.reserve.new.self keeps (omega (
        arith,
        c.as_slice-bytes.ensures.window.inside,
        ap length c.as_slice-bytes.ensures.bytes,
        ap (λ s. s.offset) keeps,
        ap (λ s. length s.bits) keeps,
        ap (λ s. length s.bytes) keeps,
      ));
      offset = ap (λ s. s.offset) keeps;
      alignment = ap (λ s. s.alignment) keeps;
      grows = c.reserve.ensures.grows;
      room = omega (arith, c.in_ok-reserve.ensures.room, c.len.ensures);
      stays = λ h. ap (λ s. s.room) (c.reserve.ensures.stays (omega (arith, h, c.len.ensures)));
    }

pub loop-part-preserved : goal.loop-part-preserved
loop-part-preserved g c =
    let inv = c.loop-part.invariant in
    let l : List Bool = bits_of c.args.bits in
    let k : ℕ = c.loop-part.part in
    let e : ℕ = c.min-end.result in
    let inside : 512 * k < length l = omega (
      arith,
      c.loop-part-test.true,
      c.loop-part.auto.part-end,
      c.div_ceil-part-end.ensures,
    ) in
    let next : take e l ≡ take (512 * (k + 1)) l =
    take-capped l (512 * (k + 1)) e (omega (arith, c.min-end.ensures)) in
    let whole : take (512 * k) l ++ slice_range l (512 * k) e ≡ take (512 * (k + 1)) l =
    take-longer l (512 * k) e (omega (arith, c.min-end.ensures, inside)) (omega (arith, inside))
    ∙ next in
    let grows = c.append_view.ensures.grows in
    record {
      adds = subst (λ x. AddsBits x c.args.set.now c.append_view.new.self)
          (ap (λ x. take (512 * k) l ++ x) c.slice.ensures.bits ∙ whole)
          (AddsBits-append (take (512 * k) l) (bits_of c.slice.result) c.args.set.now
          c.loop-part.set c.append_view.new.self inv.offset inv.adds
          c.in_ok-append_view.ensures.ok);
      offset = grows.offset ∙ inv.offset;
      alignment = grows.alignment ∙ inv.alignment;
      grows = omega (arith, grows.room, inv.grows);
      room = omega (arith, grows.room, inv.room);
      stays = λ h. c.append_view.ensures.stays
          (omega (arith, c.slice.ensures.len, c.min-end.ensures))
          (omega (
            arith,
            c.slice.ensures.len,
            inv.adds.len,
            length-take (512 * k) l,
            inside,
            c.min-end.ensures,
            inv.room,
          ))
          ∙ inv.stays h;
    }
