use Rattle.std.proofs.Common.{◌+◌, ◌-◌, arith}
use Rattle.vb_bits.specs.Bits.{bits}
use Rattle.vb_count.proofs.LooksLemmas.{looks_most, looks_same}
use Rattle.vb_select.proofs.NearestLemmas.{next_some}
use Rattle.vb_select.proofs.next.any_set_by.Goals as goal

pub returns-clause-value : goal.returns-clause-value
returns-clause-value g c =
    rw c.is_some.ensures (next_some (bits (g.G.Glance.seen c.args.src.now).bytes c.args.offset
    c.args.len) c.next_set_by.result c.next_set_by.ensures.value)

pub returns-clause-looks : goal.returns-clause-looks
returns-clause-looks g c =
    let most = c.next_set_by.ensures.looks in
    record {
      same = most.same;
      looks = looks_most _ _ _ _ most.looks (looks_same (c.args.offset + 0) c.args.offset
          (c.args.len - 0) c.args.len (omega arith) (omega arith));
    }
