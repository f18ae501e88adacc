use Rattle.std.proofs.Common.{◌∙◌, length}
use Rattle.nr_lists.specs.Packed.{has_room}
use Rattle.nr_lists.proofs.Packed.{bytes_are}
use Rattle.nr_lists.proofs.block.Block.insert.Goals as goal

pub returns-then-not-has_room-clause-room : goal.returns-then-not-has_room-clause-room
returns-then-not-has_room-clause-room c =
    let bytes = c.len-2.ensures.len ∙ bytes_are c.self.inside.lens.items c.self.inside.bytes c.args.self.now c.self.invariant c.self.view_is in
    c.if-not-has_room.ensures ∙ (λ i. has_room (c.len.ensures.len i) (bytes i) (length c.args.item.now))

pub returns-clause-room : goal.returns-clause-room
returns-clause-room c =
    let bytes = c.len-2.ensures.len ∙ bytes_are c.self.inside.lens.items c.self.inside.bytes c.args.self.now c.self.invariant c.self.view_is in
    c.if-not-has_room.ensures ∙ (λ i. has_room (c.len.ensures.len i) (bytes i) (length c.args.item.now))
