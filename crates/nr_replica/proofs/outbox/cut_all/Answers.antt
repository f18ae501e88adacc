use Rattle.std.proofs.Common.{rules}
use Rattle.std.proofs.lemmas.Map.Made.{map_same_pairs}
use Rattle.nr_model.specs.Queues.{cut_off}
use Rattle.nr_replica.proofs.outbox.cut_all.Goals as goal

pub returns : goal.returns
returns c = map_same_pairs _ cut_off _ (λ serial outbox kept new f' ran. search rules) c.args.outboxes.now.entries c.retain.new.self.entries c.retain.ensures.filtered
