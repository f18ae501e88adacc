-- What the stream received and sent was read and written.
use Rattle.std.proofs.Common.{refl}
use Rattle.nr_server.proofs.Both.{has_run}
use Rattle.nr_server.proofs.line.run_named.Goals as goal

pub returns : goal.returns
returns g c =
    let stream = c.in_ok-stream.field-0.stream in
    has_run _ _ _ c.args.clock c.args.reader c.args.writer _ g.B.Beginning.input g.B.Beginning.output _ _ _ c.in_ok-stream.field-0 _ _ _ _ _
    c.requires.input c.requires.output refl refl refl stream.reads stream.writes stream.ends c.answer_of-done.ensures c.in_ok-stream.ensures
