use Rattle.std.proofs.Common.{◌/◌, ◌%◌, arith, subst}
use Rattle.vb_view.specs.View.{bits_of}
use Rattle.vb_filter.proofs.FrontLemmas.{FrontKept, front_none, front_all, front_fits}
use Rattle.vb_filter.proofs.FrontLemmas.{front_more, last_fits, front_last}
use Rattle.vb_filter.proofs.RetainLemmas.{front_behind, put_unread}
use Rattle.vb_filter.proofs.retain.retain_values.Goals as goal

pub loop-t-init : goal.loop-t-init
loop-t-init g c = front_none (bits_of c.args.mask) c.args.values.now c.args.values.now

pub move_word-len-requires-clause-before : goal.move_word-len-requires-clause-before
move_word-len-requires-clause-before g c =
    omega (arith, front_behind c.loop-t.invariant c.requires.same_len)

pub overflow_add-len : goal.overflow_add-len
overflow_add-len g c =
    omega (
      arith,
      front_fits c.loop-t.invariant c.requires.same_len 64 c.view_word-keep.result _
          (omega arith) c.len-whole.ensures c.view_word-keep.ensures.clear
          c.view_word-keep.ensures.digits,
      c.move_word-len.ensures.count,
      c.len-whole.type_inv,
    )

pub loop-t-preserved : goal.loop-t-preserved
loop-t-preserved g c =
    front_more c.loop-t.invariant c.requires.same_len 64 c.view_word-keep.result _
    (omega arith) c.len-whole.ensures c.view_word-keep.ensures.clear
    c.view_word-keep.ensures.digits _ c.move_word-len.ensures.count
    (put_unread c.loop-t.invariant c.requires.same_len 64 c.view_word-keep.result
    (omega (arith, c.len-whole.ensures)) c.move_word-len.ensures.kept)

pub move_word-requires-clause-before : goal.move_word-requires-clause-before
move_word-requires-clause-before g c =
    omega (arith, front_behind c.loop-t.invariant c.requires.same_len, c.len-whole.ensures)

pub overflow_add-result : goal.overflow_add-result
overflow_add-result g c =
    omega (
      arith,
      last_fits (c.len-whole.result / 64) c.loop-t.invariant (omega arith) c.requires.same_len
          (c.len-n.result % 64) c.view_word-keep-2.result
          (omega (arith, c.len-n.ensures, c.len-whole.ensures)) (omega arith)
          c.view_word-keep-2.ensures.clear c.view_word-keep-2.ensures.digits,
      c.move_word.ensures.count,
      c.len-n.ensures,
      c.len-n.type_inv,
    )

pub returns-then-n-eq0-clause-kept : goal.returns-then-n-eq0-clause-kept
returns-then-n-eq0-clause-kept g c =
    front_all c.loop-t.invariant c.requires.same_len
    (omega (arith, c.len-n.ensures, c.len-whole.ensures))

pub returns-clause-count : goal.returns-clause-count
returns-clause-count g c =
    (front_last (c.len-whole.result / 64) c.loop-t.invariant (omega arith) c.requires.same_len
    (c.len-n.result % 64) c.view_word-keep-2.result
    (omega (arith, c.len-n.ensures, c.len-whole.ensures)) (omega arith)
    c.view_word-keep-2.ensures.clear c.view_word-keep-2.ensures.digits _
    c.move_word.ensures.count (put_unread
    (subst (λ k. FrontKept (bits_of c.args.mask) c.args.values.now k c.loop-t.len
    c.args.values.now c.loop-t.values) (omega arith) c.loop-t.invariant) c.requires.same_len
    (c.len-n.result % 64) c.view_word-keep-2.result
    (omega (arith, c.len-n.ensures, c.len-whole.ensures)) c.move_word.ensures.kept)).0

pub returns-clause-kept : goal.returns-clause-kept
returns-clause-kept g c =
    (front_last (c.len-whole.result / 64) c.loop-t.invariant (omega arith) c.requires.same_len
    (c.len-n.result % 64) c.view_word-keep-2.result
    (omega (arith, c.len-n.ensures, c.len-whole.ensures)) (omega arith)
    c.view_word-keep-2.ensures.clear c.view_word-keep-2.ensures.digits _
    c.move_word.ensures.count (put_unread
    (subst (λ k. FrontKept (bits_of c.args.mask) c.args.values.now k c.loop-t.len
    c.args.values.now c.loop-t.values) (omega arith) c.loop-t.invariant) c.requires.same_len
    (c.len-n.result % 64) c.view_word-keep-2.result
    (omega (arith, c.len-n.ensures, c.len-whole.ensures)) c.move_word.ensures.kept)).1
