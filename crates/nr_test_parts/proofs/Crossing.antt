-- A worker's station may go to another thread.
use denote.RattleType.{RattleType}
use denote.Param.Send.{IsSend}
use denote.Param.SendFields.{declared_send}
use Rattle.nr_combiner.proofs.Crossing.{worker_send}
use Rattle.nr_entry.proofs.Crossing.{sent}
use Rattle.nr_combiner.specs.declared.name.ServerName as server_name
use Rattle.nr_oplog.specs.declared.log.LogName as log_name
use Rattle.nr_test_parts.specs.contracts.station.Station as Station

module _ (B : RattleType) (s : server_name.Ghosts B.Denot) (g : log_name.Ghosts B.Denot) where
  pub station_send : IsSend (Station.the_row B s g)
  station_send = declared_send (Station.the_type B s g) (search sent, (worker_send B s g, (search sent, (search sent, tt))))
