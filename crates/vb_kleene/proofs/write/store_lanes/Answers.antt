use Rattle.std.proofs.Common.{◌≡◌, ◌+◌, ◌-◌, take, drop, length, w64, refl, arith}
use Rattle.std.proofs.lemmas.List.{length-take, length-drop}
use Rattle.std.proofs.lemmas.Simd.{below_from_Fits}
use Rattle.vb_bits.proofs.LanesLemmas.{Writes_lanes}
use Rattle.vb_kleene.proofs.write.store_lanes.Goals as goal

pub returns : goal.returns
returns c =
    let at = c.args.first in let b = c.args.out.now in
    let part : length (take (at + 32 - at) (drop at b)) ≡ 32 = simp (length-take, length-drop)
    (omega arith) in
    Writes_lanes b c.args.words _ (take (at + 32 - at) (drop at b)) at (at + 32 - at) c.requires.len
    (below_from_Fits w64 c.args.words c.fits-words.1) refl refl part (omega arith) c.requires.inside
