use Rattle.std.proofs.Common.{rules, arith, ap, ◌≡◌, ◌∙◌, ◌<◌, List, get_or, set, length, refl}
use Rattle.std.proofs.lemmas.List.{length-set}
use Rattle.nr_entry.specs.Jobs.{connection_of}
use Rattle.nr_session.specs.SessionState.{SessionState}
use Rattle.nr_replica.specs.Members.{Member, fresh_member}
use Rattle.nr_world.specs.declared.worker.WorldWorker.{WorldWorker}
use Rattle.nr_world.proofs.Sides.{any_default}
use Rattle.nr_world.specs.BySerial.{closed_session}
use Rattle.nr_world.proofs.Changed.{closed_is, seen_from}
use Rattle.nr_world.proofs.Paired.{whole_closed}
use Rattle.nr_world.proofs.node.WorldNode.close.Goals as goal

pub returns-clause-closed : goal.returns-clause-closed
returns-clause-closed c =
    let old : SessionState = get_or c.args.self.now.sessions c.args.conn.serial closed_session in
    let worker : WorldWorker = c.index_mut.result.now in
    let none : Member = fresh_member (connection_of c.args.conn) 0 0 in
    let member : Member = get_or c.args.self.now.replica.members c.args.conn.serial none in
    let atold = any_default c.args.self.now.sessions c.args.conn.serial closed_session old c.requires.is_there in
    let which : c.worker-worker.result ≡ member.worker = c.worker-worker.ensures none in
    let atworker : worker ≡ get_or c.args.self.now.workers.items c.worker-worker.result worker = search rules in
    let within : c.args.conn.serial < length c.args.self.now.replica.members = omega (arith, c.requires.clients, c.requires.is_there) in
    let there : member.worker < length c.args.self.now.workers.items = c.requires.worker none in
    let is_worker : c.worker-worker.result < length c.args.self.now.workers.items = omega (arith, which, there) in
    let x : WorldWorker = record { pending = c.close.new.pending; batches = worker.batches; slot = worker.slot } in
    ap (λ (sessions : List SessionState). seen_from c.args.self.now c.close-2.new.self sessions (set c.args.self.now.workers.items c.worker-worker.result x))
    c.in_ok-close.ensures.closed
    ∙ closed_is c.args.self.now c.args.conn c.args.moment closed_session old member c.worker-worker.result x worker c.close-2.new.self
    c.requires.is_there c.requires.clients c.requires.owed is_worker atold
    (any_default c.args.self.now.replica.members c.args.conn.serial none member within) which atworker refl
    (c.in_ok-close.ensures.jobs closed_session member) refl refl
    (c.close-2.ensures none)

pub returns-clause-whole : goal.returns-clause-whole
returns-clause-whole c = λ d n unclosed whole.
    let old : SessionState = get_or c.args.self.now.sessions c.args.conn.serial closed_session in
    let atold = any_default c.args.self.now.sessions c.args.conn.serial closed_session old c.requires.is_there in
    whole_closed n c.args.self.now _ c.args.conn.serial closed_session old d whole (c.close-2.ensures d) c.in_ok-close.ensures.closed
    (length-set c.args.self.now.workers.items c.worker-worker.result _)
    (omega (arith, c.requires.counts)) c.requires.is_there atold refl unclosed

pub index_mut-requires : goal.index_mut-requires
index_mut-requires c =
    let none : Member = fresh_member (connection_of c.args.conn) 0 0 in
    let which : c.worker-worker.result ≡ (get_or c.args.self.now.replica.members c.args.conn.serial none).worker = c.worker-worker.ensures none in
    let there : (get_or c.args.self.now.replica.members c.args.conn.serial none).worker < length c.args.self.now.workers.items = c.requires.worker none in
    omega (arith, which, there)
