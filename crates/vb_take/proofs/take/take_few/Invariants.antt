use Rattle.std.proofs.Common.{◌+◌, ◌^◌, ◌<◌, map}
use Rattle.std.specs.Option.{option_map}
use Rattle.vb_view.specs.View.{bits_of}
use Rattle.vb_bits.specs.Digits.{has_bit}
use Rattle.vb_take.specs.Takes.{taken_at, TakenTo}
use Rattle.vb_take.proofs.take.take_few.Given as goal

abbrev pub invariant-loop-k : goal.invariant-loop-k
invariant-loop-k g l = record {
  taken : TakenTo l.k (λ k. taken_at (bits_of l.bits) (map g.I.BitIndex.number l.indices)
      (option_map bits_of l.validity) (l.at + k)) (has_bit l.word);
  clear : l.word < 2 ^ l.k;
}
