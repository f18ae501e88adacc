use Rattle.std.proofs.Common.{arith, ap, ◌∙◌, ◌∷◌, []}
use Rattle.nr_model.specs.Bytes.{Bytes}
use Rattle.nr_model.specs.Servers.{watches_added}
use Rattle.nr_entry.specs.Jobs.{connection_of}
use Rattle.nr_watch.specs.Watching.{Watching}
use Rattle.nr_machine.proofs.Watched.{deadline_is, one_begun}
use Rattle.nr_machine.proofs.watching.watch_all.Goals as goal

pub loop-name-preserved : goal.loop-name-preserved
loop-name-preserved c = record {
  others = ap (λ (w : Watching). w.touched) c.in_ok-watch.ensures.ok ∙ c.loop-name.invariant.others;
  begun =
      one_begun _ _ _ _ _ _ _ _ c.loop-name.name-index _ c.flatten-deadline.result (omega arith) c.name-item.is
      (deadline_is _ _ _ c.deadline.result c.flatten-deadline.result
      c.deadline.ensures c.flatten-deadline.ensures)
      (ap (λ (w : Watching). w.watches) c.in_ok-watch.ensures.ok
      ∙ ap (λ (name : Bytes). watches_added c.loop-name.watches.watches (connection_of c.args.conn)
      (record { key = record { database = c.args.database; name = name }; deadline = c.flatten-deadline.result } ∷ [])) c.in_ok-copy.ensures.copied)
      c.loop-name.invariant.begun;
}
