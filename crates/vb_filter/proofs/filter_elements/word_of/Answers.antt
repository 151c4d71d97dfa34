use Rattle.std.proofs.Common.{ap, ◌∙◌}
use Rattle.std.specs.Int.{w32, to_le_bytes, from_le_bytes}
use Rattle.vb_core.specs.LittleEndian.{to_le_bytes-from_le_bytes}
use Rattle.vb_filter.proofs.filter_elements.word_of.Goals as goal

pub returns-clause-bytes : goal.returns-clause-bytes
returns-clause-bytes g c =
    let e = g.T.Element in
    let laws = g.met.T.Element.lawful in
    let item = c.args.item in
    let known = c.is_value-known.ensures.in_type in
    let form = e.form item in
    let long = laws.form_has_size item known ∙ c.requires.size in
    ap (to_le_bytes w32) (c.from_le_bytes.ensures ∙ ap (from_le_bytes w32) c.put.ensures)
    ∙ to_le_bytes-from_le_bytes w32 form long (laws.form_is_bytes item known)
