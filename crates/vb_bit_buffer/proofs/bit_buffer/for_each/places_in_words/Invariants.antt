use Rattle.std.proofs.Common.{◌≡◌, ◌+◌, ◌-◌, ◌*◌, ◌/◌, ◌%◌, ◌≤◌}
use Rattle.std.specs.List.{FoldsTo}
use Rattle.vb_pack.specs.Asked.{CanAsk}
use Rattle.vb_bit_buffer.specs.Called.{places_of}
use Rattle.vb_bit_buffer.proofs.CalledLemmas.{places_left}
use Rattle.vb_bit_buffer.proofs.bit_buffer.for_each.places_in_words.Given as goal

-- the calls at the remaining indices end in the state in which all calls end
abbrev pub invariant-loop-other : goal.invariant-loop-other
invariant-loop-other g l =
    let left = places_left l.bytes l.offset l.value l.base l.words l.at in
    record {
      from : (l.offset + l.base) / 8 ≤ l.at;
      within : l.at ≤ l.end;
      whole : (l.end - l.at) % 8 ≡ 0;
      callable : CanAsk (goal.F-pre g) (goal.F-step g) l.f left;
      ran : (last : _) → FoldsTo (λ p i q. goal.F-step g p i tt q) l.f left last
          → FoldsTo (λ p i q. goal.F-step g p i tt q) l.initial.f
          (places_of l.bytes l.offset l.value l.base (64 * l.words)) last;
    }

abbrev pub decreases-loop-other : goal.decreases-loop-other
decreases-loop-other g l = l.end - l.at
