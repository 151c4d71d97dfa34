use Rattle.std.proofs.Common.{replicate, ◌-◌, ◌%◌, length, false, subst}
use Rattle.std.proofs.lemmas.List.{map-id}
use Rattle.vb_pack.specs.WordBits.{filled_to}
use Rattle.vb_pack.specs.Writes.{Writes}
use Rattle.vb_pack.proofs.TruthLemmas.{first_bits}
use Rattle.vb_pack.proofs.bytes.pack_bools.Goals as goal

pub returns : goal.returns
returns c =
    let l = c.args.bools.now in
    let written = subst (λ m. Writes c.args.bytes.now c.pack_values.new.bytes 0 (filled_to 8 m))
    (map-id l) c.pack_values.ensures in
    record {
      packed = first_bits c.pack_values.new.bytes l (replicate ((8 - length l % 8) % 8) false)
          written.window;
      written = written;
    }
