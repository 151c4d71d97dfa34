use Rattle.std.proofs.Common.{◌≡◌, ◌+◌, ◌-◌, ◌*◌, true, get_or, ◌∙◌, arith}
use Rattle.std.proofs.Common.{rules}
use Rattle.std.specs.Char.{is_ascii_digit}
use Rattle.vb_command.proofs.NumberWords.{few_more, few_same, few_small, few_below, in_range}
use Rattle.vb_command.proofs.read.number.few_digits.Goals as goal

pub overflow_mul-n : goal.overflow_mul-n
overflow_mul-n c =
    let l = c.loop-byte in
    let more = few_small l.n 9 l.byte-index l.invariant.small (omega arith) in
    record { fits = omega (arith, few_below (10 * l.n + 9) (l.byte-index + 1) more (omega arith)) }

pub overflow_add-n : goal.overflow_add-n
overflow_add-n c =
    let l = c.loop-byte in
    let is : is_ascii_digit (get_or c.args.bytes.now l.byte-index 0) ≡ true = search rules in
    let digit = in_range (get_or c.args.bytes.now l.byte-index 0) is in
    let more = few_small l.n 9 l.byte-index l.invariant.small (omega arith) in
    record {
      fits = omega (arith, digit, few_below (10 * l.n + 9) (l.byte-index + 1) more (omega arith));
    }

pub loop-byte-preserved : goal.loop-byte-preserved
loop-byte-preserved c =
    let l = c.loop-byte in
    let bytes = c.args.bytes.now in
    let is : is_ascii_digit (get_or c.args.bytes.now l.byte-index 0) ≡ true = search rules in
    let digit = in_range (get_or c.args.bytes.now l.byte-index 0) is in
    record {
      value = few_more bytes l.n l.byte-index c.loop-byte-test.true is l.invariant.value;
      same = l.invariant.same ∙ few_same bytes l.byte-index c.loop-byte-test.true is;
      small = few_small l.n (get_or c.args.bytes.now l.byte-index 0 - 48) l.byte-index
          l.invariant.small (omega (arith, digit));
    }
