use Rattle.std.proofs.Common.{◌≡◌, ◌+◌, ◌*◌, ◌%◌, ◌^◌, ap, sym, ◌∙◌, arith}
use Rattle.vb_mem.specs.Content.{seen}
use Rattle.vb_mem.proofs.Places.{mod-wrapped}
use Rattle.vb_mem.proofs.content.Content.is_place_divided.Goals as goal
use Rattle.vb_mem.proofs.content.Content.is_place_divided.Goals.{in-Nothing}
use Rattle.vb_mem.proofs.content.Content.is_place_divided.Goals.{in-Stored-default-None}
use Rattle.vb_mem.proofs.content.Content.is_place_divided.Goals.{in-Stored-default-Some}

pub returns : goal.returns
returns g c =
    let size = g.T.Element.SIZE in
    let item = c.match-self.start + c.args.items_on in
    let aligned = c.is_offset_aligned.ensures in
    let place : (seen size c.args.self.now).place ≡ c.match-self.start * size =
    elim c.match-self.branch [
      | in-Nothing w ↦ rw (w.in-Nothing.is, w.start-is) (omega arith)
      | in-Stored-default-None w ↦
          let whole = w.in-Stored-default-None in
          let shown = rw whole.is at whole.field-1-is in
          rw (whole.is, shown, w.start-is) (omega arith)
      | in-Stored-default-Some w ↦
          let part = w.in-Stored-default-Some in
          let shown = rw part.is at part.field-1-is in
          rw (part.is, shown) (ap (λ n. n * size) (sym w.start-is))
    ] in
    let there : (seen size c.args.self.now).place + c.args.items_on * size ≡ item * size =
    omega (arith, place) in
    let same : item % 2 ^ 64 * c.SIZE.result % 2 ^ 64 % 2 ^ c.args.alignment
    ≡ item * size % 2 ^ c.args.alignment =
    mod-wrapped item c.SIZE.result c.args.alignment aligned.in_range
    ∙ ap (λ n. item * n % 2 ^ c.args.alignment) c.SIZE.ensures in
    rw there (λ is. sym same ∙ aligned.divides.0 is, λ divides. aligned.divides.1 (same ∙ divides))
