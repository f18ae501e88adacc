use Rattle.std.proofs.Common.{◌≡◌, List, ap, ◌∙◌, length, rules, false, cond}
use Rattle.std.specs.Prelude.{◌==◌, ℕ, Option, Some, is_none}
use Rattle.nr_model.specs.Sequential.{for_node}
use Rattle.nr_model.specs.Servers.{after_all, emitted_all}
use Rattle.nr_model.specs.Entries.{entry_items}
use Rattle.nr_entry.specs.Jobs.{items_of}
use Rattle.nr_emission.specs.Emitted.{Written, all_after, written_after}
use Rattle.nr_replica.specs.Members.{texts_of, members_seen}
use Rattle.nr_replica.specs.Replicas.{ReplicaState, owed_from, server_in}
use Rattle.nr_replica.proofs.Kept.{all_back}
use Rattle.nr_replica.proofs.Received.{received_numbered}
use Rattle.nr_replica.proofs.Told.{applied_is, applied_from, unfailed}
use Rattle.nr_replica.proofs.replica.Replica.apply_or_stop.Goals as goal

pub invariant_of-self-2 : goal.invariant_of-self-2
invariant_of-self-2 c =
    let inside = c.self.inside in
    let keeps = c.self.invariant in
    let entry = c.args.entry.now in
    let items = entry_items (items_of entry.jobs.items) in
    let olds = members_seen inside.node inside.members in
    let news = members_seen inside.node c.deliver.new.members in
    let moved : c.stage.new.machine ≡ Some (record { state = after_all (server_in inside.machine) items; failed = false }) = search rules in (
      c.clear-2.ensures,
      keeps.1,
      received_numbered inside.node 0 (λ k. texts_of k c.stage.new.staging) olds news keeps.2 c.deliver.ensures.given,
      unfailed _ _ moved,
      keeps.4,
      c.deliver.ensures.ready,
    )

pub returns-clause-applied : goal.returns-clause-applied
returns-clause-applied c =
    let inside = c.self.inside in
    let keeps = c.self.invariant in
    let counted = c.args.counted in
    let entry = c.args.entry.now in
    let items = entry_items (items_of entry.jobs.items) in
    let olds = members_seen inside.node inside.members in
    let news = members_seen inside.node c.deliver.new.members in
    let same-owed : length c.settle_counted.new.owed ≡ length inside.owed.items = search rules in
    let len-owed : inside.owed.len ≡ length inside.owed.items = search rules in
    let less = all_back inside.owed.len c.settle_counted.new.owed inside.owed.items same-owed len-owed in
    let up : is_none inside.machine ≡ false = ap (λ (r : ReplicaState). r.down) c.self.view_is ∙ c.requires.up in
    let moved : c.stage.new.machine ≡ Some (record { state = after_all (server_in inside.machine) items; failed = false }) = search rules in
    let staged : c.stage.new.staging ≡ all_after written_after inside.staging (for_node inside.node (emitted_all (server_in inside.machine) items)) = search rules in
    let from-none = staged ∙ ap (λ (s : List Written). all_after written_after s (for_node inside.node (emitted_all (server_in inside.machine) items))) keeps.0 in
    let owes : c.settle_counted.new.owed ≡ cond counted (cond (entry.node == inside.node) (owed_from 0 olds (items_of entry.jobs.items) inside.owed.items) inside.owed.items) inside.owed.items =
    c.settle_counted.ensures inside.node
    ∙ ap (λ (owed : List (Option ℕ)). cond counted (cond (entry.node == inside.node) (owed_from 0 olds (items_of entry.jobs.items) owed) owed) owed) c.deref_mut.ensures.value in
    applied_from counted entry _ _ _ c.self.view_is
    (applied_is counted inside.node inside.applied olds news inside.owed.items _ inside.waiting.jobs inside.machine c.stage.new.machine inside.is_refused inside.fell inside.was_lent
    entry c.stage.new.staging up keeps.2 from-none c.deliver.ensures.given (less ∙ owes) moved)
