-- The rows that are valid and not true: those that are known to fail.
use Rattle.std.proofs.Common.{◌≡◌, ◌&&◌, not, true, Bool, List, Option, Some, length, map}
use Rattle.std.proofs.Common.{is_some, sym, ap, ◌∙◌}
use Rattle.std.proofs.lemmas.List.{length-map}
use Rattle.std.proofs.lemmas.Result.{IfOk-weaker}
use Rattle.std.specs.Simd.Lanes.{zip2}
use Rattle.vortex_buffer.specs.Kleene.{and_truths, truths, is_truth}
use Rattle.vortex_buffer.specs.Operators.{merged_by}
use Rattle.vortex_buffer.specs.View.{bits_of}
use Rattle.use_columns.proofs.FilterLemmas.{known_false, same_columns}
use Rattle.use_columns.proofs.filter.rows_failing.Goals as goal

pub returns : goal.returns
returns g c =
    let l = c.args.left.now.bits in let r = c.args.right.now.bits in
    let v = c.args.left_valid.now.bits in let w = c.args.right_valid.now.bits in
    let column : List (Option Bool) = zip2 and_truths (truths l (Some v)) (truths r (Some w)) in
    let same = same_columns (bits_of c.as_view-a.result) (bits_of c.as_view.result)
    (bits_of c.as_view-b.result) (bits_of c.as_view-2.result) l v r w c.as_view-a.ensures.bits
    c.as_view.ensures.bits c.as_view-b.ensures.bits c.as_view-2.ensures.bits in
    let both = c.in_ok-both.both.bits in
    let trues : both ≡ map (is_truth true) column =
    c.in_ok-both.ensures.ok.trues.bits ∙ ap (map (is_truth true)) same in
    let valid : c.in_ok-both.valid.bits ≡ map is_some column =
    c.in_ok-both.ensures.ok.valid.bits ∙ ap (map is_some) same in
    let len : length c.in_ok-both.valid.bits ≡ length both =
    ap length valid ∙ length-map column is_some ∙ sym (length-map column (is_truth true))
    ∙ sym (ap length trues) in
    record {
      ok = IfOk-weaker c.into_bitand_not-rows.result _ _ (λ s e. e
          ∙ ap (λ k. merged_by (λ a b. a && not b) k both) valid
          ∙ ap (merged_by (λ a b. a && not b) (map is_some column)) trues ∙ known_false column)
          c.into_bitand_not-rows.ensures.ok;
      refused = c.into_bitand_not-rows.ensures.same_len len;
    }
