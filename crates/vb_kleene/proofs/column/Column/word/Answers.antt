use Rattle.std.proofs.Common.{◌+◌, ◌&&◌, not, w64, ap, ◌∙◌, arith}
use Rattle.std.specs.Option.{option_map}
use Rattle.vb_bits.proofs.DigitsLemmas.{digits-bit_not}
use Rattle.vb_bits.proofs.OperatorsLemmas.{digits-merged_by}
use Rattle.vb_view.specs.View.{bits_of}
use Rattle.vb_kleene.proofs.ColumnLemmas.{true_part, false_part, all_true_part, all_false_part}
use Rattle.vb_kleene.proofs.column.Column.word.Goals as goal

pub returns-in-Some-clause-trues : goal.returns-in-Some-clause-trues
returns-in-Some-clause-trues c =
    let me = c.args.self.now in let at = c.args.at in let n = c.args.n in
    digits-merged_by (λ a b. a && b) _ _ _ n c.requires.few c.word.ensures
    ∙ true_part (bits_of me.values) (bits_of c.in-Some.validity) (option_map bits_of me.validity)
    _ _ at (at + n) (ap (option_map bits_of) c.in-Some.is) c.view_word-valid.ensures.digits
    c.view_word-values.ensures.digits

pub returns-in-Some-clause-falses : goal.returns-in-Some-clause-falses
returns-in-Some-clause-falses c =
    let me = c.args.self.now in let at = c.args.at in let n = c.args.n in
    digits-merged_by (λ a b. a && not b) _ _ _ n c.requires.few c.word-in-Some.ensures
    ∙ false_part (bits_of me.values) (bits_of c.in-Some.validity) (option_map bits_of me.validity)
    _ _ at (at + n) (ap (option_map bits_of) c.in-Some.is) c.view_word-valid.ensures.digits
    c.view_word-values.ensures.digits

pub returns-in-None-clause-trues : goal.returns-in-None-clause-trues
returns-in-None-clause-trues c =
    let me = c.args.self.now in let at = c.args.at in let n = c.args.n in
    all_true_part (bits_of me.values) (option_map bits_of me.validity) _ at (at + n)
    (ap (option_map bits_of) c.in-None.is) c.view_word-values.ensures.digits

pub returns-in-None-clause-falses : goal.returns-in-None-clause-falses
returns-in-None-clause-falses c =
    let me = c.args.self.now in let at = c.args.at in let n = c.args.n in
    let values = c.view_word-values in
    digits-bit_not w64 values.result 0 n (omega arith) (omega arith)
    ∙ all_false_part (bits_of me.values) (option_map bits_of me.validity) _ at (at + n)
    (ap (option_map bits_of) c.in-None.is) values.ensures.digits
