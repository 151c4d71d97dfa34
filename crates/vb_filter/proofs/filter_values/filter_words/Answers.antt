use Rattle.std.proofs.Common.{◌/◌, ◌%◌, arith}
use Rattle.vb_view.specs.View.{bits_of}
use Rattle.vb_filter.proofs.FrontLemmas.{front_none, front_all, front_room, front_fits}
use Rattle.vb_filter.proofs.FrontLemmas.{front_more, last_room, last_fits, front_last}
use Rattle.vb_filter.proofs.filter_values.filter_words.Goals as goal

pub loop-t-init : goal.loop-t-init
loop-t-init g c = front_none (bits_of c.args.mask) c.args.values.now c.args.out.now

pub put_word-len-requires-clause-room : goal.put_word-len-requires-clause-room
put_word-len-requires-clause-room g c =
    omega (
      arith,
      front_room c.loop-t.invariant c.requires.same_len 64 c.view_word-keep.result _
          (omega arith) c.len-whole.ensures c.view_word-keep.ensures.clear
          c.view_word-keep.ensures.digits,
      c.requires.room,
      c.loop-t.auto.out,
    )

pub overflow_add-len : goal.overflow_add-len
overflow_add-len g c =
    omega (
      arith,
      front_fits c.loop-t.invariant c.requires.same_len 64 c.view_word-keep.result _
          (omega arith) c.len-whole.ensures c.view_word-keep.ensures.clear
          c.view_word-keep.ensures.digits,
      c.put_word-len.ensures.count,
      c.len-whole.type_inv,
    )

pub loop-t-preserved : goal.loop-t-preserved
loop-t-preserved g c =
    front_more c.loop-t.invariant c.requires.same_len 64 c.view_word-keep.result _
    (omega arith) c.len-whole.ensures c.view_word-keep.ensures.clear
    c.view_word-keep.ensures.digits _ c.put_word-len.ensures.count
    c.put_word-len.ensures.kept

pub put_word-requires-clause-room : goal.put_word-requires-clause-room
put_word-requires-clause-room g c =
    omega (
      arith,
      last_room (c.len-whole.result / 64) c.loop-t.invariant (omega arith) c.requires.same_len
          (c.len-n.result % 64) c.view_word-keep-2.result
          (omega (arith, c.len-n.ensures, c.len-whole.ensures)) (omega arith)
          c.view_word-keep-2.ensures.clear c.view_word-keep-2.ensures.digits,
      c.requires.room,
      c.loop-t.auto.out,
    )

pub overflow_add-result : goal.overflow_add-result
overflow_add-result g c =
    omega (
      arith,
      last_fits (c.len-whole.result / 64) c.loop-t.invariant (omega arith) c.requires.same_len
          (c.len-n.result % 64) c.view_word-keep-2.result
          (omega (arith, c.len-n.ensures, c.len-whole.ensures)) (omega arith)
          c.view_word-keep-2.ensures.clear c.view_word-keep-2.ensures.digits,
      c.put_word.ensures.count,
      c.len-n.ensures,
      c.len-n.type_inv,
    )

pub returns-then-n-eq0-clause-kept : goal.returns-then-n-eq0-clause-kept
returns-then-n-eq0-clause-kept g c =
    front_all c.loop-t.invariant c.requires.same_len
    (omega (arith, c.len-n.ensures, c.len-whole.ensures))

pub returns-clause-count : goal.returns-clause-count
returns-clause-count g c =
    (front_last (c.len-whole.result / 64) c.loop-t.invariant (omega arith) c.requires.same_len
    (c.len-n.result % 64) c.view_word-keep-2.result
    (omega (arith, c.len-n.ensures, c.len-whole.ensures)) (omega arith)
    c.view_word-keep-2.ensures.clear c.view_word-keep-2.ensures.digits _
    c.put_word.ensures.count c.put_word.ensures.kept).0

pub returns-clause-kept : goal.returns-clause-kept
returns-clause-kept g c =
    (front_last (c.len-whole.result / 64) c.loop-t.invariant (omega arith) c.requires.same_len
    (c.len-n.result % 64) c.view_word-keep-2.result
    (omega (arith, c.len-n.ensures, c.len-whole.ensures)) (omega arith)
    c.view_word-keep-2.ensures.clear c.view_word-keep-2.ensures.digits _
    c.put_word.ensures.count c.put_word.ensures.kept).1
