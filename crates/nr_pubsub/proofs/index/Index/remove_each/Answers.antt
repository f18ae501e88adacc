use Rattle.std.proofs.Common.{subst}
use Rattle.std.specs.Map.Iter.{deref}
use Rattle.std.proofs.lemmas.Map.Iter.{rest_more}
use Rattle.nr_model.specs.Bytes.{Bytes}
use Rattle.std.specs.Prelude.{List}
use Rattle.nr_entry.specs.Jobs.{connection_of}
use Rattle.nr_pubsub.proofs.Leaving.{IsLeaving, leaving_more}
use Rattle.nr_pubsub.proofs.index.Index.remove_each.Goals as goal

pub loop-name-preserved : goal.loop-name-preserved
loop-name-preserved c =
    let conn = connection_of c.args.conn in
    leaving_more c.args.self.now c.loop-name.self c.remove.new.self c.args.names.now.keys c.next.new.self c.in-Some.name.now conn
    (subst (λ (left : List Bytes). IsLeaving c.args.self.now c.loop-name.self c.args.names.now.keys left conn)
    (rest_more deref c.loop-name.name-iterator c.next.new.self c.next.result c.in-Some.name c.in-Some.is c.next.ensures.steps) c.loop-name.invariant)
    c.remove.ensures
