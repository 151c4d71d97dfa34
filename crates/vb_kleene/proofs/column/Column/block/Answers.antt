use Rattle.std.proofs.Common.{◌+◌, ◌-◌, ◌*◌, ◌^◌, replicate, ap, ◌∙◌}
use Rattle.std.proofs.lemmas.Simd.{length-zip2}
use Rattle.std.specs.Option.{option_map}
use Rattle.std.specs.Prelude.{bit_xor}
use Rattle.vb_bits.proofs.LanesLemmas.{lane_bits-complement}
use Rattle.vb_view.specs.View.{bits_of}
use Rattle.vb_kleene.proofs.ColumnLemmas.{true_part, false_part, all_true_part, all_false_part}
use Rattle.vb_kleene.proofs.column.Column.block.Goals as goal

pub returns-in-Some-clause-trues : goal.returns-in-Some-clause-trues
returns-in-Some-clause-trues c =
    let me = c.args.self.now in let at = 256 * c.args.k in
    c.words.ensures.digits
    ∙ true_part (bits_of me.values) (bits_of c.in-Some.validity) (option_map bits_of me.validity)
    _ _ at (at + 256) (ap (option_map bits_of) c.in-Some.is) c.block_of-valid.ensures.digits
    c.block_of-values.ensures.digits

pub returns-in-Some-clause-falses : goal.returns-in-Some-clause-falses
returns-in-Some-clause-falses c =
    let me = c.args.self.now in let at = 256 * c.args.k in
    c.words-in-Some.ensures.digits
    ∙ false_part (bits_of me.values) (bits_of c.in-Some.validity) (option_map bits_of me.validity)
    _ _ at (at + 256) (ap (option_map bits_of) c.in-Some.is) c.block_of-valid.ensures.digits
    c.block_of-values.ensures.digits

pub returns-in-None-clause-falses_len : goal.returns-in-None-clause-falses_len
returns-in-None-clause-falses_len c =
    let values = c.block_of-values in
    length-zip2 bit_xor values.result (replicate 4 (2 ^ 64 - 1)) values.ensures.len
    ∙ values.ensures.len

pub returns-in-None-clause-trues : goal.returns-in-None-clause-trues
returns-in-None-clause-trues c =
    let me = c.args.self.now in let at = 256 * c.args.k in
    all_true_part (bits_of me.values) (option_map bits_of me.validity) _ at (at + 256)
    (ap (option_map bits_of) c.in-None.is) c.block_of-values.ensures.digits

pub returns-in-None-clause-falses : goal.returns-in-None-clause-falses
returns-in-None-clause-falses c =
    let me = c.args.self.now in let at = 256 * c.args.k in let values = c.block_of-values in
    lane_bits-complement values.result values.ensures.len
    ∙ all_false_part (bits_of me.values) (option_map bits_of me.validity) _ at (at + 256)
    (ap (option_map bits_of) c.in-None.is) values.ensures.digits
