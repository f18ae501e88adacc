use Rattle.std.proofs.Common.{arith, ◌≡◌, List, length, refl, ap, sym, ◌∙◌, subst}
use Rattle.nr_entry.specs.Jobs.{items_of}
use Rattle.nr_session.specs.SessionState.{SessionState}
use Rattle.nr_replica.specs.Members.{AreNumbered}
use Rattle.nr_replica.specs.Replicas.{ReplicaState}
use Rattle.nr_world.specs.declared.worker.WorldWorker.{WorldWorker}
use Rattle.nr_world.specs.Dropped.{dropped_of, sessions_after}
use Rattle.nr_world.specs.Forgotten.{AreForgotten}
use Rattle.nr_world.specs.Served.{node_seen, dropped_node}
use Rattle.nr_world.proofs.Changed.{seen_from}
use Rattle.nr_world.proofs.Forgotten.{same_length}
use Rattle.nr_world.proofs.Sides.{refill}
use Rattle.nr_world.proofs.Falling.{dropped_is, whole_dropped}
use Rattle.nr_world.proofs.node.WorldNode.drop_jobs.Goals as goal

pub returns-clause-dropped : goal.returns-clause-dropped
returns-clause-dropped c =
    let olds : List WorldWorker = c.args.self.now.workers.items in
    let were : c.deref_mut.result.now ≡ olds = c.deref_mut.ensures.value in
    let forgotten : AreForgotten (length olds) olds c.drop_pending.new.workers =
    subst (λ (workers : List WorldWorker). AreForgotten (length workers) workers c.drop_pending.new.workers) were c.drop_pending.ensures in
    let same = same_length (length olds) olds c.drop_pending.new.workers forgotten in
    let count : c.args.self.now.workers.len ≡ length olds = omega (arith, c.args.self.now.workers.ok.0) in
    let items = refill c.args.self.now.workers.len c.drop_pending.new.workers olds same count in
    let after : List WorldWorker → List SessionState = λ (workers : List WorldWorker).
    sessions_after (dropped_of (items_of c.args.self.now.replica.waiting) workers) c.args.self.now.sessions c.args.self.now.replica.members in
    let noted : c.note_fall.new.sessions ≡ after olds = c.note_fall.ensures ∙ ap after c.deref.ensures.value in
    subst (λ (workers : List WorldWorker).
    seen_from c.args.self.now c.drop_waiting.new.self c.note_fall.new.sessions workers ≡ dropped_node (node_seen c.args.self.now)) (sym items)
    (dropped_is c.args.self.now.replica.node c.args.self.now c.note_fall.new.sessions c.drop_pending.new.workers c.drop_waiting.new.self c.requires.pairs
    c.requires.owed noted forgotten c.drop_waiting.ensures)

pub returns-clause-whole : goal.returns-clause-whole
returns-clause-whole c = λ n w.
    let olds : List WorldWorker = c.args.self.now.workers.items in
    let were : c.deref_mut.result.now ≡ olds = c.deref_mut.ensures.value in
    let forgotten : AreForgotten (length olds) olds c.drop_pending.new.workers =
    subst (λ (workers : List WorldWorker). AreForgotten (length workers) workers c.drop_pending.new.workers) were c.drop_pending.ensures in
    let same = same_length (length olds) olds c.drop_pending.new.workers forgotten in
    let count : c.args.self.now.workers.len ≡ length olds = omega (arith, c.args.self.now.workers.ok.0) in
    let items = refill c.args.self.now.workers.len c.drop_pending.new.workers olds same count in
    whole_dropped n c.args.self.now _ (dropped_of (items_of c.args.self.now.replica.waiting) c.deref.result.now) c.drop_waiting.ensures c.note_fall.ensures
    (ap length items ∙ same) refl w

pub returns-clause-numbered : goal.returns-clause-numbered
returns-clause-numbered c = λ n k. subst (λ (r : ReplicaState). AreNumbered n 0 r.members) (sym c.drop_waiting.ensures) k
