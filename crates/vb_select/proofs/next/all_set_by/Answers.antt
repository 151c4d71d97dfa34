use Rattle.std.proofs.Common.{◌+◌, ◌-◌, arith}
use Rattle.vb_bits.specs.Bits.{bits}
use Rattle.vb_bits.proofs.BitsLemmas.{length-bits}
use Rattle.vb_count.proofs.LooksLemmas.{looks_most, looks_same}
use Rattle.vb_select.proofs.NearestLemmas.{next_none}
use Rattle.vb_select.proofs.next.all_set_by.Goals as goal

pub returns-clause-value : goal.returns-clause-value
returns-clause-value g c =
    let b = (g.G.Glance.seen c.args.src.now).bytes in
    next_none (bits b c.args.offset c.args.len) c.args.len c.next_unset_by.result c.is_none.result
    (length-bits b c.args.offset c.args.len) c.next_unset_by.ensures.value c.is_none.ensures

pub returns-clause-looks : goal.returns-clause-looks
returns-clause-looks g c =
    let most = c.next_unset_by.ensures.looks in
    record {
      same = most.same;
      looks = looks_most _ _ _ _ most.looks (looks_same (c.args.offset + 0) c.args.offset
          (c.args.len - 0) c.args.len (omega arith) (omega arith));
    }
