use Rattle.std.proofs.Common.{◌==◌, ◌-◌, ◌%◌, ◌∙◌, not, map, replicate, length, false}
use Rattle.std.proofs.Common.{sym, ap}
use Rattle.std.proofs.lemmas.List.{length-map}
use Rattle.vb_bits.specs.Bits.{bits}
use Rattle.vb_pack.proofs.TruthLemmas.{first_bits}
use Rattle.vb_pack.proofs.bytes.pack_truthy.Goals as goal

pub returns-clause-packed : goal.returns-clause-packed
returns-clause-packed c =
    let l = c.args.truthy.now in let m = map (λ x. not (x == 0)) l in
    let d = c.pack_values.new.bytes in
    ap (bits d 0) (sym (length-map l (λ x. not (x == 0))))
    ∙ first_bits d m (replicate ((8 - length m % 8) % 8) false) c.pack_values.ensures.window
