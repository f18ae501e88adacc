-- The one at this place was served.
use Rattle.std.proofs.Common.{arith, refl, ap, get_or}
use Rattle.nr_entry.specs.Jobs.{connection_of}
use Rattle.nr_service.specs.Serving.{connection}
use Rattle.nr_service.proofs.Left.{leaves_at, on_err}
use Rattle.nr_service.proofs.Heard.{all_as_before, one_heard, read_or_before}
use Rattle.nr_service.proofs.Served.{one_weaker, serves_none}
use Rattle.nr_service.proofs.Working.{map_set_same, served_at, to_one}
use Rattle.nr_service.proofs.reading.read_at.Goals as goal

pub returns-then-place-clients-clause-ok : goal.returns-then-place-clients-clause-ok
returns-then-place-clients-clause-ok g c = serves_none _ _ _ _ _ _ _ _

pub returns-clause-ok : goal.returns-clause-ok
returns-clause-ok g c =
    served_at _ _ _ _ _ _ _ _ c.args.clients.now c.args.place c.index-clients-place.result c.read_one.new.client (omega arith)
    (one_weaker _ _ _ _ _ _ _ _ _ _ _
    (to_one c.args.moment c.args.clients.now c.args.clients.now c.args.place c.index-clients-place.result (omega arith) refl)
    c.in_ok-read_one.ensures.ok)

pub returns-in_err-read_one-clause-err : goal.returns-in_err-read_one-clause-err
returns-in_err-read_one-clause-err g c =
    on_err c.from_residual.result _
    (leaves_at _ _ _ _ _ _ _ _ _ c.args.clients.now c.args.place c.index-clients-place.result c.read_one.new.client (omega arith) c.in_err-read_one.ensures.err)

pub returns-in_err-read_one-clause-same : goal.returns-in_err-read_one-clause-same
returns-in_err-read_one-clause-same g c =
    map_set_same connection c.args.clients.now c.args.place c.index-clients-place.result c.read_one.new.client (omega arith)
    (ap connection_of c.read_one.ensures.conn)

pub returns-clause-same : goal.returns-clause-same
returns-clause-same g c =
    map_set_same connection c.args.clients.now c.args.place c.index-clients-place.result c.read_one.new.client (omega arith)
    (ap connection_of c.read_one.ensures.conn)

pub returns-then-place-clients-clause-heard : goal.returns-then-place-clients-clause-heard
returns-then-place-clients-clause-heard g c = all_as_before _ _

pub returns-clause-heard : goal.returns-clause-heard
returns-clause-heard g c =
    one_heard _ c.args.clients.now c.args.place c.index-clients-place.result c.read_one.new.client (omega arith) (read_or_before (g.A.Backend.listens c.args.answers.now (connection (get_or c.args.clients.now c.args.place c.index-clients-place.result))) _ _ _ _ _ _ c.read_one.ensures.heard)

pub returns-in_err-read_one-clause-heard : goal.returns-in_err-read_one-clause-heard
returns-in_err-read_one-clause-heard g c =
    one_heard _ c.args.clients.now c.args.place c.index-clients-place.result c.read_one.new.client (omega arith) (read_or_before (g.A.Backend.listens c.args.answers.now (connection (get_or c.args.clients.now c.args.place c.index-clients-place.result))) _ _ _ _ _ _ c.read_one.ensures.heard)
