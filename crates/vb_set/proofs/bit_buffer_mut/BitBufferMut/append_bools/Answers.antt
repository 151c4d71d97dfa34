use Rattle.std.proofs.Common.{◌≡◌, ℕ, Bool, List, ◌+◌, ◌-◌, ◌*◌, ◌<◌, ◌++◌, length, take, drop}
use Rattle.std.proofs.Common.{slice_range, ap, ◌∙◌, arith, subst}
use Rattle.std.proofs.lemmas.List.{length-take, length-drop}
use Rattle.vb_set.specs.OpenSet.{AddsBits}
use Rattle.vb_set.proofs.AddsLemmas.{AddsBits-none, AddsBits-append, take-longer, take-capped}
use Rattle.vb_set.proofs.bit_buffer_mut.BitBufferMut.append_bools.Goals as goal

pub loop-block-init : goal.loop-block-init
loop-block-init g c =
    let keeps = c.reserve.ensures.keeps in
    record {
      adds = AddsBits-none c.args.self.now c.reserve.new.self keeps (omega (
        arith,
        c.as_slice-bytes.ensures.window.inside,
        ap length c.as_slice-bytes.ensures.bytes,
        ap (λ s. s.offset) keeps,
        ap (λ s. length s.bits) keeps,
        ap (λ s. length s.bytes) keeps,
      ));
      offset = ap (λ s. s.offset) keeps;
      alignment = ap (λ s. s.alignment) keeps;
      grows = c.reserve.ensures.grows;
      room = c.in_ok-reserve.ensures.room;
      stays = λ h. ap (λ s. s.room) (c.reserve.ensures.stays h);
    }

pub loop-block-preserved : goal.loop-block-preserved
loop-block-preserved g c =
    let inv = c.loop-block.invariant in
    let l : List Bool = c.args.bools.now in
    let k : ℕ = c.loop-block.block in
    let e : ℕ = c.min-end.result in
    let inside : 512 * k < length l = omega (
      arith,
      c.loop-block-test.true,
      c.loop-block.auto.block-end,
      c.div_ceil-block-end.ensures,
    ) in
    let next : take e l ≡ take (512 * (k + 1)) l =
    take-capped l (512 * (k + 1)) e (omega (arith, c.min-end.ensures)) in
    let whole : take (512 * k) l ++ slice_range l (512 * k) e ≡ take (512 * (k + 1)) l =
    take-longer l (512 * k) e (omega (arith, c.min-end.ensures, inside)) (omega (arith, inside))
    ∙ next in
    let part : length (slice_range l (512 * k) e) ≡ e - 512 * k = omega (
      arith,
      length-take (e - 512 * k) (drop (512 * k) l),
      length-drop (512 * k) l,
      c.min-end.ensures,
    ) in
    let grows = c.append_block.ensures.grows in
    record {
      adds = subst (λ x. AddsBits x c.args.self.now c.append_block.new.self) whole
          (AddsBits-append (take (512 * k) l) (slice_range l (512 * k) e) c.args.self.now
          c.loop-block.self c.append_block.new.self inv.offset inv.adds
          c.in_ok-append_block.ensures.ok);
      offset = grows.offset ∙ inv.offset;
      alignment = grows.alignment ∙ inv.alignment;
      grows = omega (arith, grows.room, inv.grows);
      room = omega (arith, grows.room, inv.room);
      stays = λ h. c.append_block.ensures.stays (omega (
        arith,
        part,
        inv.adds.len,
        length-take (512 * k) l,
        inside,
        c.min-end.ensures,
        inv.room,
      ))
          ∙ inv.stays h;
    }
