use Rattle.std.proofs.Common.{length, ◌-◌, ◌∙◌, ap, List, set}
use Rattle.nr_model.specs.Bytes.{Bytes}
use Rattle.nr_lists.specs.Packed.{has_room}
use Rattle.nr_lists.proofs.Packed.{bytes_are}
use Rattle.nr_lists.proofs.block.Block.replace.Goals as goal

pub returns-clause-ok : goal.returns-clause-ok
returns-clause-ok c = c.in_ok-put_over.ensures.ok ∙ ap (λ (xs : List Bytes). set xs c.args.place c.args.item.now) c.self.view_is

pub returns-then-not-has_room-clause-room : goal.returns-then-not-has_room-clause-room
returns-then-not-has_room-clause-room c =
    let bytes = c.len-2.ensures.len ∙ bytes_are c.self.inside.lens.items c.self.inside.bytes c.args.self.now c.self.invariant c.self.view_is in
    c.if-not-has_room.ensures ∙ (λ i. has_room (c.len.ensures.len i - 1) (bytes i) (length c.args.item.now))

pub returns-clause-room : goal.returns-clause-room
returns-clause-room c =
    let bytes = c.len-2.ensures.len ∙ bytes_are c.self.inside.lens.items c.self.inside.bytes c.args.self.now c.self.invariant c.self.view_is in
    c.if-not-has_room.ensures ∙ (λ i. has_room (c.len.ensures.len i - 1) (bytes i) (length c.args.item.now))
