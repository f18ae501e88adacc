use Rattle.std.proofs.Common.{rules, ◌≡◌, ◌<◌, length, get_or, ◌∙◌}
use Rattle.nr_world.specs.Served.{entry_seen}
use Rattle.nr_world.proofs.Logged.{opened, no_entry, owner_inside, cell_by, filled_by}
use Rattle.nr_world.proofs.world.World.is_filled.Goals as goal

pub index-requires : goal.index-requires
index-requires c =
    let o = opened _ c.args.self.now c.self.view_is c.requires.still c.self.invariant in
    let there : (entry_seen c.entry.result.now).node < length c.self.inside.nodes.items =
    owner_inside _ _ o c.args.number (entry_seen c.entry.result.now) c.requires.base
    c.requires.tail (c.entry.ensures no_entry) in
    search rules

pub is_filled_by-requires : goal.is_filled_by-requires
is_filled_by-requires c =
    let o = opened _ c.args.self.now c.self.view_is c.requires.still c.self.invariant in
    let at : c.index.result.now ≡ get_or c.self.inside.nodes.items c.entry.result.now.node c.index.result.now = search rules in
    cell_by _ _ o c.args.number c.args.node (entry_seen c.entry.result.now) c.index.result.now
    c.requires.base c.requires.tail
    (c.entry.ensures no_entry) at c.requires.there

pub returns : goal.returns
returns c =
    let o = opened _ c.args.self.now c.self.view_is c.requires.still c.self.invariant in
    let at : c.index.result.now ≡ get_or c.self.inside.nodes.items c.entry.result.now.node c.index.result.now = search rules in
    λ events world past s.
    c.is_filled_by.ensures ∙ filled_by _ _ o world c.args.number c.args.node
    (entry_seen c.entry.result.now) c.index.result.now
    c.requires.base c.requires.tail (c.entry.ensures no_entry) at s
