-- A lane may go to a thread of its own, and what it leaves may come back.
use denote.RattleType.{RattleType}
use denote.Param.Send.{IsSend, sendable, view_send}
use denote.Param.SendFields.{as_row_send, declared_send}
use denote.Struct.Field.{row_field}
use Rattle.std.proofs.Crossing.{crosses}
use Rattle.nr_oplog.specs.declared.log.LogName as log_name
use Rattle.nr_oplog.specs.contracts.token.Token as Token
use Rattle.nr_oplog.proofs.Crossing.{token_send}
use Rattle.nr_taps.specs.contracts.mark.Mark as Mark
use Rattle.nr_combiner.specs.declared.name.ServerName as server_name
use Rattle.nr_combiner.proofs.Crossing.{worker_send}
use Rattle.nr_crew.specs.contracts.lane.Lane as Lane
use Rattle.nr_crew.specs.contracts.lane.Leaving as Leaving
use Rattle.nr_crew.proofs.lane.WorkerEnd.TheSendSync as left

module _ (B : RattleType) (s : server_name.Ghosts B.Denot) (g : log_name.Ghosts B.Denot) where
  pub lane_send : (D M : RattleType) → IsSend D → IsSend M → IsSend (Lane.the_row B D M s g)
  lane_send D M device clock =
      declared_send (Lane.the_type B D M s g)
      (worker_send B s g, (as_row_send (row_field D) device, (as_row_send (row_field M) clock, (search (sendable, crosses), tt))))

module _ (B : RattleType) (g : log_name.Ghosts B.Denot) where
  token_sent : IsSend (Token.the_field B g).row
  token_sent = token_send B g

  mark_send : IsSend (Mark.the_row B g)
  mark_send = view_send (Mark.TheInside.the_row B g) _ _ _ _ (declared_send (Mark.TheInside.the_type B g) (search (sendable, crosses, token_sent) depth 20, tt))

  pub leaving_send : (S D M : RattleType) → IsSend S → IsSend D → IsSend M → IsSend (Leaving.the_row B S D M g)
  leaving_send S D M stream device clock = declared_send (Leaving.the_type B S D M g) (mark_send, (left.the_send S D M stream device clock, tt))
