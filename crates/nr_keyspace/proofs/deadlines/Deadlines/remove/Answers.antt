use Rattle.std.proofs.Common.{◌≡◌, rules}
use Rattle.nr_ordered.specs.Lists.{Item}
use Rattle.nr_keyspace.specs.Deadlines.{due_of}
use Rattle.nr_keyspace.proofs.Ordered.{place_in, found_place, within, removed}
use Rattle.nr_keyspace.proofs.deadlines.Deadlines.remove.Goals as goal

pub remove-requires : goal.remove-requires
remove-requires c =
    let items = c.self.inside.ordered.0 in
    let x : Item = (c.args.name.now, c.args.deadline) in
    let place : c.find-place.result ≡ place_in items x =
    found_place items x c.find-place.result c.self.invariant (search (rules, c.find-place.ensures.place)) in
    within items (due_of x) c.find-place.result c.args.self.now c.self.invariant c.self.view_is place c.requires

pub invariant_of-self : goal.invariant_of-self
invariant_of-self c =
    let items = c.self.inside.ordered.0 in
    let x : Item = (c.args.name.now, c.args.deadline) in
    let place : c.find-place.result ≡ place_in items x =
    found_place items x c.find-place.result c.self.invariant (search (rules, c.find-place.ensures.place)) in
    (removed items c.remove.new.self.0 (due_of x) c.find-place.result c.args.self.now c.self.invariant c.self.view_is place c.requires
    c.remove.ensures.items).ordered

pub returns : goal.returns
returns c =
    let items = c.self.inside.ordered.0 in
    let x : Item = (c.args.name.now, c.args.deadline) in
    let place : c.find-place.result ≡ place_in items x =
    found_place items x c.find-place.result c.self.invariant (search (rules, c.find-place.ensures.place)) in
    (removed items c.remove.new.self.0 (due_of x) c.find-place.result c.args.self.now c.self.invariant c.self.view_is place c.requires
    c.remove.ensures.items).seen
