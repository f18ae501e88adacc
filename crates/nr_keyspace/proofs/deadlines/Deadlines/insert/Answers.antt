use Rattle.std.proofs.Common.{◌≡◌, rules}
use Rattle.std.specs.List as lists
use Rattle.nr_ordered.specs.Lists.{Item}
use Rattle.nr_keyspace.specs.Deadlines.{due_of}
use Rattle.nr_keyspace.proofs.Ordered.{place_in, found_place, added}
use Rattle.nr_keyspace.proofs.deadlines.Deadlines.insert.Goals as goal

pub invariant_of-self-2 : goal.invariant_of-self-2
invariant_of-self-2 c =
    let items = c.self.inside.ordered.0 in
    let x : Item = (c.args.name.now, c.args.deadline) in
    let place : c.find-place.result ≡ place_in items x =
    found_place items x c.find-place.result c.self.invariant (search (rules, c.find-place.ensures.place)) in
    let put : c.insert.new.self.0 ≡ lists.insert items c.find-place.result x = search (rules, c.in_ok-insert.ensures.put) in
    (added items c.insert.new.self.0 (due_of x) c.find-place.result c.args.self.now c.self.invariant c.self.view_is place c.requires put).ordered

pub returns-clause-ok : goal.returns-clause-ok
returns-clause-ok c =
    let items = c.self.inside.ordered.0 in
    let x : Item = (c.args.name.now, c.args.deadline) in
    let place : c.find-place.result ≡ place_in items x =
    found_place items x c.find-place.result c.self.invariant (search (rules, c.find-place.ensures.place)) in
    let put : c.insert.new.self.0 ≡ lists.insert items c.find-place.result x = search (rules, c.in_ok-insert.ensures.put) in
    (added items c.insert.new.self.0 (due_of x) c.find-place.result c.args.self.now c.self.invariant c.self.view_is place c.requires put).seen
