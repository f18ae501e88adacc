use Rattle.std.proofs.Common.{[], ◌∷◌, arith}
use Rattle.nr_emission.specs.Emitted.{Written}
use Rattle.nr_entry.specs.Jobs.{connection_of}
use Rattle.nr_replica.specs.Members.{texts_of, members_seen}
use Rattle.nr_replica.proofs.Received.{received_numbered, nothing_received}
use Rattle.nr_replica.proofs.Giving.{given_next}
use Rattle.nr_replica.proofs.delivering.deliver.Goals as goal

pub loop-index-init : goal.loop-index-init
loop-index-init c = (c.requires.numbered, c.requires.ready, nothing_received (members_seen c.args.node c.args.members.now))

pub loop-index-preserved : goal.loop-index-preserved
loop-index-preserved c =
    let one : Written = record { connection = connection_of c.get.result.0; bytes = c.get.result.1.now } in
    let olds = members_seen c.args.node c.args.members.now in
    let mids = members_seen c.args.node c.loop-index.members in
    let news = members_seen c.args.node c.give.new.members in (
      received_numbered c.args.node 0 (λ k. texts_of k (one ∷ [])) mids news c.loop-index.invariant.0 c.give.ensures.given,
      c.give.ensures.ready,
      given_next c.args.staging.now c.loop-index.index one one olds mids news (omega arith) (c.get.ensures one) c.loop-index.invariant.2 c.give.ensures.given,
    )
