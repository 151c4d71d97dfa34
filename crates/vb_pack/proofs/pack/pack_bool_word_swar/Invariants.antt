use Rattle.std.proofs.Common.{◌≡◌, ◌*◌, take}
use lib.Lanes.{mask_l}
use Rattle.vb_pack.proofs.pack.pack_bool_word_swar.Given as goal

abbrev pub invariant-loop-k : goal.invariant-loop-k
invariant-loop-k l = l.packed ≡ mask_l (take (8 * l.k) l.bools)
