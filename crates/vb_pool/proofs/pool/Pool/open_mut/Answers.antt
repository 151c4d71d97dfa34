use Rattle.std.proofs.Common.{ap, ◌∙◌, option_and_then}
use Rattle.std.specs.Option.{ghost_name_of}
use Rattle.vb_command.specs.Machine.{open_list}
use Rattle.vb_pool.proofs.Slots.{get_seen, lent}
use Rattle.vb_pool.specs.Slot.{content}
use Rattle.vb_pool.specs.declared.slot.Slot.TheVariants.{Open}
use Rattle.vb_pool.proofs.pool.Pool.open_mut.Goals as goal
use borrow.Follows.Closed.{read_of}

pub returns : goal.returns
returns g c =
    let slots = c.self.inside.slots in
    let slot = c.in_ok-self-inside.field-0.now in
    let held = c.in_ok-self-inside.ensures.value in
    let ends = read_of (ghost_name_of c.open_mut.result) in
    let found = get_seen content slots c.args.self.now c.args.k slot c.self.view_is held in (
      lent ends content Open slots c.args.self.now c.args.k slot c.self.view_is held,
      record {
        writes_back = tt;
        value = c.open_mut.ensures.value ∙ ap (option_and_then open_list) found;
      },
    )
