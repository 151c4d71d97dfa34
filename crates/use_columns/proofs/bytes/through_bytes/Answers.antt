-- No other values have these bytes.
use Rattle.std.proofs.Common.{◌<◌, ◌^◌, ℕ, ◌∙◌, sym, ap}
use Rattle.std.proofs.lemmas.List.Elements.{All-from_get_or}
use Rattle.std.proofs.lemmas.Result.{IfOk-weaker}
use Rattle.std.specs.Int.{w32, to_le_bytes}
use Rattle.vortex_buffer.specs.ByteForm.{byteform}
use Rattle.use_columns.proofs.bytes.through_bytes.Goals as goal

pub returns : goal.returns
returns g c =
    let values = c.args.values.now in
    let small =
    All-from_get_or (λ (x : ℕ). x < 2 ^ 32) values 0 (λ i _. (c.type_inv.values i).fits) in
    let bytes =
    c.in_ok-bytes.ensures.ok.list
    ∙ ap (byteform (to_le_bytes w32)) c.in_ok-copy_from.ensures.ok.list in
    IfOk-weaker c.from_byte_buffer.result _ _
    (λ b read. sym (read.0.only values small (sym bytes))) c.from_byte_buffer.ensures.ok
