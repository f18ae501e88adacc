use Rattle.std.proofs.Common.{◌≡◌, [], rules}
use Rattle.nr_model.specs.Entries.{left_by_entry}
use Rattle.nr_entry.specs.Jobs.{items_of}
use Rattle.nr_replica.proofs.Kept.{own_left}
use Rattle.nr_replica.proofs.replica.Replica.take_entry.Goals as goal

pub invariant_of-self-then-is_empty : goal.invariant_of-self-then-is_empty
invariant_of-self-then-is_empty c =
    let old = items_of c.self.inside.waiting.jobs in
    let new = items_of c.take_updates.new.waiting.jobs in
    let keeps = c.self.invariant in
    let none : c.take_updates.new.waiting.gaps ≡ [] = search rules in
    let left : new ≡ left_by_entry old = search rules in
    (keeps.0, none, keeps.2, keeps.3, own_left c.self.inside.node old new left keeps.4, keeps.5)

pub invariant_of-self-2 : goal.invariant_of-self-2
invariant_of-self-2 c =
    let old = items_of c.self.inside.waiting.jobs in
    let new = items_of c.take_updates.new.waiting.jobs in
    let keeps = c.self.invariant in
    let none : c.take_updates.new.waiting.gaps ≡ [] = search rules in
    let left : new ≡ left_by_entry old = search rules in
    (keeps.0, none, keeps.2, keeps.3, own_left c.self.inside.node old new left keeps.4, keeps.5)
