use Rattle.std.proofs.Common.{◌≡◌, true}
use borrow.Author.Tests.{eqb-true}
use Rattle.vb_pack.proofs.MaskLemmas.{gathers, all_lists-each, all_gathered}
use Rattle.vb_pack.proofs.pack.pack_byte.Goals as goal

pub returns : goal.returns
returns c =
    let gathered : gathers c.args.eight.now ≡ true =
    all_lists-each 8 gathers all_gathered c.args.eight.now c.requires in
    rw (
      c.from_le_bytes-word.ensures,
      c.from.ensures,
      c.from-2.ensures,
      c.from-3.ensures,
      c.from-4.ensures,
      c.from-5.ensures,
      c.from-6.ensures,
      c.from-7.ensures,
      c.from-8.ensures,
    )
    (eqb-true _ _ gathered)
