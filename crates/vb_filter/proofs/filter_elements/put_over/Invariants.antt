use Rattle.std.proofs.Common.{◌≡◌, ◌+◌, ◌*◌, ◌/◌, ◌^◌, ◌++◌, length, take, drop}
use Rattle.std.specs.Prelude.{count_ones}
use Rattle.vb_bits.specs.Bits.{count}
use Rattle.vb_bits.specs.Digits.{digits}
use Rattle.vb_bits.specs.Kept.{kept_by}
use Rattle.vb_filter.proofs.filter_elements.put_over.Given as goal

-- the elements that the parts of 16 so far select are in front, and the items after those that it
-- may overwrite are unchanged
abbrev pub invariant-loop-k : goal.invariant-loop-k
invariant-loop-k g l = record {
  len : length l.out ≡ length l.fn.out;
  end : l.end ≡ l.fn.len + count (digits l.fn.keep 0 (16 * l.k));
  left : l.left ≡ l.fn.keep / 2 ^ (16 * l.k);
  front : take l.end l.out ≡ take l.fn.len l.fn.out
      ++ kept_by (digits l.fn.keep 0 (16 * l.k)) (take (16 * l.k) l.fn.values);
  behind : drop (l.fn.len + count_ones l.fn.keep + 4) l.out
      ≡ drop (l.fn.len + count_ones l.fn.keep + 4) l.fn.out;
}
