-- A node may go to another thread, and so may what it offers: by their parts, from the end of the log and the replica on.
use denote.RattleType.{RattleType}
use denote.Param.Send.{IsSend, view_send}
use denote.Param.SendFields.{declared_send}
use Rattle.std.proofs.Crossing.{send}
use Rattle.std.specs.contracts.option.Option as Option
use Rattle.nr_entry.proofs.Crossing.{sent}
use Rattle.nr_oplog.specs.declared.log.LogName.{Ghosts}
use Rattle.nr_oplog.proofs.Crossing.{end_send, token_send}
use Rattle.nr_replica.proofs.Crossing.{offer_send, replica_send}
use Rattle.nr_job_numbers.proofs.job_numbers.JobNumbers.TheSendSync as accounts
use Rattle.nr_node.specs.contracts.own_entries.Kept as Kept
use Rattle.nr_node.specs.contracts.own_entries.OwnEntries as OwnEntries
use Rattle.nr_node.specs.contracts.next.Next as Next
use Rattle.nr_node.specs.contracts.reviving.NodeOffer as NodeOffer
use Rattle.nr_node.specs.contracts.node_core.Core as Core

next_send : IsSend (Option.the_row Next.the_row)
next_send = search sent depth 60 fits 100000

kept_send : IsSend Kept.the_row
kept_send = search sent depth 60 fits 100000

own_send : IsSend OwnEntries.the_row
own_send = view_send OwnEntries.TheInside.the_row _ _ _ _ (declared_send OwnEntries.TheInside.the_type ((search (sent, kept_send) depth 60 fits 100000, (search sent depth 60, tt))))

pub core_send : (B : RattleType) (g : Ghosts B.Denot) → IsSend (Core.the_row B g)
core_send B g = view_send (Core.TheInside.the_row B g) _ _ _ _ (declared_send (Core.TheInside.the_type B g)
    (send, (search sent, (end_send B g, (own_send, (replica_send, (accounts.the_send, (next_send, tt))))))))

pub node_offer_send : (B : RattleType) (g : Ghosts B.Denot) → IsSend (NodeOffer.the_row B g)
node_offer_send B g = view_send (NodeOffer.TheInside.the_row B g) _ _ _ _ (declared_send (NodeOffer.TheInside.the_type B g)
    (offer_send, (token_send B g, (search sent depth 60, tt))))
