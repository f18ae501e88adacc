-- The one at this place was served.
use Rattle.std.proofs.Common.{arith, ap}
use Rattle.nr_entry.specs.Jobs.{connection_of}
use Rattle.nr_service.specs.Serving.{connection}
use Rattle.nr_service.proofs.Sending.{writes_none, writes_one}
use Rattle.nr_service.proofs.Heard.{all_as_before, one_heard, at_or_before}
use Rattle.nr_service.proofs.Served.{serves_none}
use Rattle.nr_service.proofs.Working.{map_set_same, served_at}
use Rattle.nr_service.proofs.writing.write_at.Goals as goal

pub returns-then-place-clients-clause-served : goal.returns-then-place-clients-clause-served
returns-then-place-clients-clause-served g c = serves_none _ _ _ _ _ _ _ _

pub returns-clause-served : goal.returns-clause-served
returns-clause-served g c =
    served_at _ _ _ _ _ _ _ _ c.args.clients.now c.args.place c.index-clients-place.result c.write_one.new.client (omega arith) c.write_one.ensures.served

pub returns-clause-same : goal.returns-clause-same
returns-clause-same g c =
    map_set_same connection c.args.clients.now c.args.place c.index-clients-place.result c.write_one.new.client (omega arith)
    (ap connection_of c.write_one.ensures.conn)

pub returns-then-place-clients-clause-sent : goal.returns-then-place-clients-clause-sent
returns-then-place-clients-clause-sent g c = writes_none _ c.args.place _ _ _ (omega arith)

pub returns-clause-sent : goal.returns-clause-sent
returns-clause-sent g c =
    writes_one _ c.args.place _ _ _ _ c.args.clients.now c.index-clients-place.result c.write_one.new.client (omega arith) c.write_one.ensures.calm
    c.write_one.ensures.sent c.write_one.ensures.others

pub returns-then-place-clients-clause-heard : goal.returns-then-place-clients-clause-heard
returns-then-place-clients-clause-heard g c = all_as_before _ _

pub returns-clause-heard : goal.returns-clause-heard
returns-clause-heard g c =
    one_heard _ c.args.clients.now c.args.place c.index-clients-place.result c.write_one.new.client (omega arith) (at_or_before _ _ _ _ _ c.write_one.ensures.heard)
