-- A node applies an entry, falls by it, or runs reads.
use Rattle.std.proofs.Common.{◌≡◌, ℕ, suc, Bool, true, false, cond, inl, inr, List, [], length, refl, ap, sym, ◌∙◌, subst, Some, None, eq-eqb}
use Rattle.std.specs.Prelude.{map, nat_le, ◌==◌, ◌&&◌, ◌||◌}
use Rattle.std.proofs.lemmas.List.Elements.{All-nil}
use Rattle.nr_model.specs.Servers.{Server, after_all, emitted_all}
use Rattle.nr_model.specs.Entries.{Jobs, entry_items, read_jobs}
use Rattle.nr_model.specs.Nodes as nodes
use Rattle.nr_model.specs.Nodes.Steps as steps
use Rattle.nr_entry.specs.Jobs.{items_of}
use Rattle.nr_entry.specs.declared.entry.Entry.{Entry}
use Rattle.nr_replica.specs.declared.fall.Fall.{Fall}
use Rattle.nr_replica.specs.Members.{AreNumbered}
use Rattle.nr_replica.specs.Replicas as replicas
use Rattle.nr_replica.specs.Replicas.{ReplicaState}
use Rattle.nr_world.specs.declared.node.WorldNode.{WorldNode}
use Rattle.nr_world.specs.Served.{clients_seen, workers_seen, node_seen, entry_seen, dropped_node}
use Rattle.nr_world.specs.Whole.{IsWhole}
use Rattle.nr_world.specs.Advanced.{IsEntryCut, IsReadCut, IsAdvanced, IsApplied, HasRun}
use Rattle.nr_world.proofs.Changed.{seen_by}
use Rattle.nr_world.proofs.Cuts.{each_from, grown_from, has_cuts}
use Rattle.nr_world.proofs.Executed.{executed_is}
use Rattle.nr_world.proofs.Batches.{whole_kept}

pub not_true : (b : Bool) → (b ≡ true → ⊥) → b ≡ false
not_true true h = absurd (h refl)
not_true false h = refl

pub or_true : (b : Bool) → (b || true) ≡ true
or_true true = refl
or_true false = refl

-- by whether the entry is the node's own, and counts
by_owner : (counted own : Bool) (node : WorldNode) (jobs : Jobs) (clients : List nodes.Client) (server : Server) → length node.sessions ≡ length node.replica.members
    → record (node_seen node) {
      clients = clients;
      workers = workers_seen node.workers.items
          (cond counted (cond own (replicas.owed_from 0 node.replica.members jobs node.replica.owed) node.replica.owed) node.replica.owed);
      applied = suc node.replica.applied;
      server = server;
    }
    ≡ record (cond (counted && own) (steps.with_executed jobs (node_seen node)) (node_seen node)) {
      applied = suc node.replica.applied;
      server = server;
      clients = clients;
    }
by_owner true true node jobs clients server h =
    ap (λ (workers : List nodes.Worker). record (node_seen node) { clients = clients; workers = workers; applied = suc node.replica.applied; server = server })
    (executed_is 0 node.sessions node.replica.members jobs node.workers.items node.replica.owed h)
by_owner true false node jobs clients server h = refl
by_owner false own node jobs clients server h = refl

pub advanced_is : (node : WorldNode) (counted : Bool) (entry : Entry) (replica : ReplicaState) → length node.sessions ≡ length node.replica.members
    → AreNumbered node.replica.node 0 node.replica.members
    → node.replica.down ≡ false → node.replica.refused ≡ false → counted ≡ nat_le node.resumed node.replica.applied → replicas.IsAppliedAs counted entry node.replica replica
    → IsAdvanced node.replica.node (entry_seen entry) (node_seen node) (seen_by node replica node.workers.items)
advanced_is node counted entry replica h numbered up still counts applied =
    let jobs = items_of entry.jobs.items in
    let es = emitted_all node.replica.server (entry_items jobs) in
    let cuts = has_cuts es node.passed node.replica.node 0 node.sessions node.replica.members replica.members numbered applied.delivered in
    let server = after_all node.replica.server (entry_items jobs) in
    let own : Bool = entry.node == node.replica.node in
    let owed = cond counted (cond own (replicas.owed_from 0 node.replica.members jobs node.replica.owed) node.replica.owed) node.replica.owed in
    let all = map (steps.delivered_to cuts.cuts node.passed es) (clients_seen node.sessions node.replica.members) in
    record {
      refused = record { falls = None; cuts = cuts.cuts; copy = false };
      of_entry = record {
        falls = inl refl;
        cuts = each_from (IsEntryCut node.replica.node (entry_seen entry) None (node_seen node)) es node.passed node.replica.node 0
            (clients_seen node.sessions node.replica.members) cuts.cuts
            (λ cut is. record {
              at_entry = is.of_entry;
              applies = λ i. up i || (still i || false);
              grown = grown_from es node.passed node.replica.node (node_seen node) cut is;
            })
            cuts.from;
        copy = refl;
      };
      state = ap (λ (r : ReplicaState). seen_by node r node.workers.items) applied.state
          ∙ ap (λ (clients : List nodes.Client). record (node_seen node) { clients = clients; workers = workers_seen node.workers.items owed; applied = suc node.replica.applied; server = server }) cuts.clients
          ∙ by_owner counted own node jobs all server h
          ∙ ap (λ (b : Bool). record (cond (b && own) (steps.with_executed jobs (node_seen node)) (node_seen node)) { applied = suc node.replica.applied; server = server; clients = all }) counts
          ∙ ap (λ (b : Bool). cond (b || false) (steps.fallen (node_seen node)) (steps.with_entry cuts.cuts node.replica.node (entry_seen entry) (node_seen node))) (sym still);
    }

-- a node that stopped has the same connections
pub stopped_numbered : (n : ℕ) (fall : Fall) (old new : ReplicaState) → new ≡ replicas.stopped fall old → AreNumbered n 0 old.members → AreNumbered n 0 new.members
stopped_numbered n fall old new e k = subst (λ (r : ReplicaState). AreNumbered n 0 r.members) (sym e) k

pub stopped_whole : (n : ℕ) (fall : Fall) (old new : WorldNode) → new.replica ≡ replicas.stopped fall old.replica → new.sessions ≡ old.sessions
    → length new.workers.items ≡ length old.workers.items → new.in_use ≡ old.in_use → IsWhole n old → IsWhole n new
stopped_whole n fall old new e sessions workers used w =
    whole_kept n old new (ap (λ (r : ReplicaState). r.node) e) sessions (ap (λ (r : ReplicaState). r.members) e)
    (ap (λ (r : ReplicaState). length r.owed) e) workers used w

-- and what it has to do is dropped: it fell
pub fallen_is : (node : WorldNode) (fall : Fall) (entry : Entry) (replica : ReplicaState) (new : nodes.Node) → replica ≡ replicas.stopped fall node.replica
    → new ≡ dropped_node (seen_by node replica node.workers.items)
    → IsAdvanced node.replica.node (entry_seen entry) (node_seen node) new
fallen_is node fall entry replica new e dropped =
    record {
      refused = record { falls = Some node.passed; cuts = []; copy = false };
      of_entry = record {
        falls = inr refl;
        cuts = All-nil (IsEntryCut node.replica.node (entry_seen entry) (Some node.passed) (node_seen node));
        copy = refl;
      };
      state = dropped ∙ ap (λ (r : ReplicaState). dropped_node (seen_by node r node.workers.items)) e
          ∙ ap (λ (b : Bool). cond b (steps.fallen (node_seen node)) (steps.with_entry [] node.replica.node (entry_seen entry) (node_seen node)))
          (sym (ap (λ (b : Bool). node.replica.refused || b) (eq-eqb node.passed node.passed refl) ∙ or_true node.replica.refused));
    }

-- it is passed
pub applied_up : (n : ℕ) (entry : nodes.Logged) (old new passed : nodes.Node) → old.down ≡ false → IsAdvanced n entry old new → passed ≡ steps.passing new → IsApplied n entry old passed
applied_up n entry old new passed up h p =
    record {
      refused = h.refused;
      of_entry = h.of_entry;
      state = p ∙ ap steps.passing (h.state
          ∙ ap (λ (b : Bool). cond b old (cond (old.refused || steps.falls_at h.refused.falls old.passed) (steps.fallen old) (steps.with_entry h.refused.cuts n entry old))) (sym up));
    }

pub applied_down : (n : ℕ) (entry : nodes.Logged) (old passed : nodes.Node) → old.down ≡ true → passed ≡ steps.passing old → IsApplied n entry old passed
applied_down n entry old passed down p =
    record {
      refused = steps.nothing_refused;
      of_entry = record { falls = inl refl; cuts = All-nil (IsEntryCut n entry None old); copy = refl };
      state = p ∙ ap steps.passing
          (ap (λ (b : Bool). cond b old (cond (old.refused || steps.falls_at None old.passed) (steps.fallen old) (steps.with_entry [] n entry old))) (sym down));
    }

pub run_is : (node : WorldNode) (tail : ℕ) (replica : ReplicaState) → length node.sessions ≡ length node.replica.members → AreNumbered node.replica.node 0 node.replica.members
    → replicas.HasRead node.replica replica → HasRun node.replica.node tail (node_seen node) (seen_by node replica node.workers.items)
run_is node tail replica h numbered read =
    let jobs = read_jobs (items_of node.replica.waiting) in
    let es = emitted_all node.replica.server jobs in
    let cuts = has_cuts es tail node.replica.node 0 node.sessions node.replica.members replica.members numbered read.delivered in
    let left = read.left in
    let clients = cuts.clients in
    let workers = executed_is 0 node.sessions node.replica.members jobs node.workers.items node.replica.owed h in
    record {
      cuts = cuts.cuts;
      of_reads = each_from (IsReadCut node.replica.node tail (node_seen node)) es tail node.replica.node 0
          (clients_seen node.sessions node.replica.members) cuts.cuts
          (λ cut is. record { at_tail = is.of_entry; grown = grown_from es tail node.replica.node (node_seen node) cut is }) cuts.from;
      state = ap (λ (r : ReplicaState). seen_by node r node.workers.items) read.state
          ∙ (λ i. record (node_seen node) { clients = clients i; workers = workers i; waiting = left i });
    }
