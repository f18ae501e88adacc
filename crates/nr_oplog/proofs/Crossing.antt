-- A log may be shared by threads, and its seats, ends and tokens may go to other threads.
use denote.RattleType.{RattleType}
use denote.Param.Send.{IsSend, IsSync, view_send}
use denote.Param.SendFields.{declared_send, declared_sync}
use Rattle.std.proofs.Crossing.{send, sync, frees, Arc-send}
use Rattle.std.proofs.marker.PhantomData.TheSendSync as phantom
use Rattle.std.specs.contracts.alloc.Global as Heap
use Rattle.std.specs.contracts.impls.GlobalAllocator.TheImpl.{ghosts}
use Rattle.std.specs.contracts.option.Option as Option
use Rattle.std.specs.contracts.sync.Arc as Arc
use Rattle.atomic_table.proofs.owned.Table.TheSendSync as table
use Rattle.atomic_table.proofs.shared.Seat.TheSendSync as seat
use Rattle.nr_entry.proofs.Crossing.{sent}
use Rattle.nr_entry.specs.contracts.entry.Entry as Entry
use Rattle.nr_entry.specs.contracts.shares.Shares as Shares
use Rattle.nr_oplog.specs.declared.log.LogName.{Ghosts}
use Rattle.nr_oplog.specs.contracts.log.Oplog as Oplog
use Rattle.nr_oplog.specs.contracts.seat.LogSeat as LogSeat
use Rattle.nr_oplog.specs.contracts.end.End as End
use Rattle.nr_oplog.specs.contracts.token.Token as Token
use Rattle.nr_oplog.specs.contracts.view.LogView as View
use Rattle.nr_oplog.specs.contracts.view.LogLaw as Law
use Rattle.nr_oplog.specs.contracts.view.LogShape as LogShape
use Rattle.nr_oplog.specs.contracts.view.LogLawTableRuleOptionArcEntryGlobalLogViewLogShape.TheImpl as law

abbrev Share : RattleType
Share = Option.the_row (Arc.the_row Entry.the_row Heap.the_row ghosts)

share_send : IsSend Share
share_send = search sent depth 60 fits 100000

shares_send : IsSend Shares.the_row
shares_send = search sent depth 60 fits 100000

module _ (B : RattleType) (g : Ghosts B.Denot) where
  pub seat_send : IsSend (LogSeat.the_row B g)
  seat_send = view_send (LogSeat.TheInside.the_row B g) _ _ _ _ (declared_send (LogSeat.TheInside.the_type B g)
      (seat.the_send Share View.the_row share_send, (search sent, (search sent, (search sent, (search sent, (search sent, (shares_send, (search sent, (phantom.the_send B, tt))))))))))

  pub log_send : IsSend (Oplog.the_row B g)
  log_send =
      let in_table = table.the_send Share View.the_row LogShape.the_row Law.the_row Heap.the_row law.ghosts ghosts share_send send frees in
      declared_send (Oplog.the_type B g) (in_table, (search sent, (search sent, (phantom.the_send B, tt))))

  pub log_sync : IsSync (Oplog.the_row B g)
  log_sync =
      let in_table = table.the_sync Share View.the_row LogShape.the_row Law.the_row Heap.the_row law.ghosts ghosts share_send send sync frees in
      declared_sync (Oplog.the_type B g) (in_table, (search sent, (search sent, (phantom.the_sync B, tt))))

  pub end_send : IsSend (End.the_row B g)
  end_send = view_send (End.TheInside.the_row B g) _ _ _ _ (declared_send (End.TheInside.the_type B g) (seat_send, (Arc-send (Oplog.the_row B g) log_send log_sync, tt)))

  pub token_send : IsSend (Token.the_row B g)
  token_send = view_send (Token.TheInside.the_row B g) _ _ _ _ (declared_send (Token.TheInside.the_type B g)
      (seat.the_send Share View.the_row share_send, (search sent, (phantom.the_send B, tt))))
