-- A string is UTF-8.
use Rattle.std.proofs.lemmas.Str.{IsUtf8-string_bytes}
use Rattle.vortex_buffer.proofs.buffer_string.BufferString.from_string.Goals as goal

pub invariant_of-result : goal.invariant_of-result
invariant_of-result g c =
    rw (c.in_ok-bytes.ensures.ok.list, c.into_bytes.ensures.value) (IsUtf8-string_bytes c.args.text)
