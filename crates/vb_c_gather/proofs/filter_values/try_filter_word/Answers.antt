use Rattle.std.proofs.Common.{rules, ◌≡◌, length, count_ones}
use Rattle.vb_bits.specs.Bits.{count}
use Rattle.vb_bits.specs.Digits.{digits}
use Rattle.vb_bits.proofs.DigitsLemmas.{count-digits_below}
use Rattle.vb_c_gather.proofs.filter_values.try_filter_word.Goals as goal

pub returns-then-out-keep : goal.returns-then-out-keep
returns-then-out-keep g c =
    let many : count (digits c.args.keep 0 (length c.args.values.now)) ≡ count_ones c.args.keep =
    count-digits_below c.args.keep (length c.args.values.now) c.requires.clear in
    search rules

pub returns : goal.returns
returns g c =
    let many : count (digits c.args.keep 0 (length c.args.values.now)) ≡ count_ones c.args.keep =
    count-digits_below c.args.keep (length c.args.values.now) c.requires.clear in
    search rules
