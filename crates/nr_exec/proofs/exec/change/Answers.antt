use Rattle.nr_resp.proofs.Refusals.{refused_in}
use Rattle.nr_keyspace.proofs.Live.{live_live}
use Rattle.nr_exec.proofs.exec.change.Goals as goal

pub change_in_section-requires : goal.change_in_section-requires
change_in_section-requires g c = rw c.sweep.ensures (live_live c.args.keyspace.now c.args.now)

pub returns-in-Err : goal.returns-in-Err
returns-in-Err g c = rw (← c.sweep.ensures) (refused_in c.reply.result c.in-Err.failure _ c.reply.ensures c.in-Err.ensures)
