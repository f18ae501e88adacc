use Rattle.std.proofs.Common.{rules, arith, ap, ◌≡◌, ◌<◌, List, get_or, set, length, refl, ◌∙◌}
use Rattle.nr_entry.specs.Jobs.{connection_of}
use Rattle.nr_session.specs.SessionState.{SessionState}
use Rattle.nr_replica.specs.Members.{Member, fresh_member}
use Rattle.nr_world.proofs.Sides.{any_default}
use Rattle.nr_world.specs.declared.worker.WorldWorker.{WorldWorker}
use Rattle.nr_world.specs.BySerial.{closed_session}
use Rattle.nr_world.proofs.Changed.{fed_is, seen_from}
use Rattle.nr_world.proofs.Paired.{whole_fed}
use Rattle.std.proofs.lemmas.List.{length-set}
use Rattle.nr_world.proofs.node.WorldNode.feed.Goals as goal

pub returns-clause-fed : goal.returns-clause-fed
returns-clause-fed c =
    let old : SessionState = get_or c.args.self.now.sessions c.args.conn.serial closed_session in
    let new : SessionState = get_or c.feed.new.self c.args.conn.serial closed_session in
    let none : Member = fresh_member (connection_of c.args.conn) 0 0 in
    let member : Member = get_or c.args.self.now.replica.members c.args.conn.serial none in
    let which : c.worker-worker.result ≡ member.worker = c.worker-worker.ensures none in
    let atworker : c.index_mut.result.now ≡ get_or c.args.self.now.workers.items c.worker-worker.result c.index_mut.result.now = search rules in
    let within : c.args.conn.serial < length c.args.self.now.replica.members = omega (arith, c.requires.clients, c.requires.is_there) in
    let there : member.worker < length c.args.self.now.workers.items = c.requires.worker none in
    let is_worker : c.worker-worker.result < length c.args.self.now.workers.items = omega (arith, which, there) in
    let fed = c.in_ok-feed.ensures.fed closed_session in
    let x : WorldWorker = record {
      pending = c.feed.new.pending;
      batches = c.index_mut.result.now.batches;
      slot = c.index_mut.result.now.slot;
    } in
    ap (λ (sessions : List SessionState). seen_from c.args.self.now c.args.self.now.replica sessions (set c.args.self.now.workers.items c.worker-worker.result x))
    (c.in_ok-feed.ensures.others closed_session)
    ∙ fed_is c.args.self.now c.args.conn c.args.moment c.args.bytes.now new old member c.worker-worker.result x c.index_mut.result.now
    c.requires.is_there c.requires.clients c.requires.owed is_worker
    (any_default c.args.self.now.sessions c.args.conn.serial closed_session old c.requires.is_there)
    (any_default c.args.self.now.replica.members c.args.conn.serial none member within) which atworker (c.requires.named closed_session)
    (fed.client member) (fed.asked member) refl refl

pub returns-clause-whole : goal.returns-clause-whole
returns-clause-whole c = λ n whole.
    let old : SessionState = get_or c.args.self.now.sessions c.args.conn.serial closed_session in
    let new : SessionState = get_or c.feed.new.self c.args.conn.serial closed_session in
    let none : Member = fresh_member (connection_of c.args.conn) 0 0 in
    let fed = c.in_ok-feed.ensures.fed closed_session in
    whole_fed n c.args.self.now _ c.args.conn.serial new old none whole refl (c.in_ok-feed.ensures.others closed_session)
    (length-set c.args.self.now.workers.items c.worker-worker.result _) refl c.requires.is_there
    (any_default c.args.self.now.sessions c.args.conn.serial closed_session old c.requires.is_there)
    (c.requires.going closed_session) fed.named fed.ends

pub index_mut-requires : goal.index_mut-requires
index_mut-requires c =
    let none : Member = fresh_member (connection_of c.args.conn) 0 0 in
    let which : c.worker-worker.result ≡ (get_or c.args.self.now.replica.members c.args.conn.serial none).worker = c.worker-worker.ensures none in
    let there : (get_or c.args.self.now.replica.members c.args.conn.serial none).worker < length c.args.self.now.workers.items = c.requires.worker none in
    omega (arith, which, there)
