use Rattle.std.proofs.Common.{rules}
use Rattle.nr_oplog.proofs.Calls.{put_loads, put_took, put_now, put_stores}
use Rattle.nr_oplog.proofs.log.Oplog.put.Goals as goal

pub load-requires : goal.load-requires
load-requires g c = let q = c.requires in
    (search rules, search rules, put_loads _ _ _ _ _ c.args.node c.args.at _ q.share.0 q.seat.1 q.seat.2 q.number.2 q.share.2 q.number.0 c.stamp_word-word.ensures.word)

pub store-requires : goal.store-requires
store-requires g c = let q = c.requires in (
  search rules,
  search rules,
  put_stores _ _ _ _ c.exchange.new.seat.me c.args.seat.now.me.0 c.args.seat.now.me.1 c.args.node c.args.at c.stamp_word-word.result c.args.share q.share.0 q.seat.1 q.number.2 q.share.2 q.share.1 q.number.0 c.stamp_word-word.ensures.word
      (put_now c.args.self.now.table.shared.key.nodes c.args.self.now.table.shared.key.places c.args.seat.now.me c.load.new.seat.me c.exchange.new.seat.me c.args.node c.args.at c.slot.result c.args.share
      (put_took c.args.self.now.table.shared.key.nodes c.args.self.now.table.shared.key.places c.args.self.now.table.shared.table_id.slots c.load.result c.args.seat.now.me c.load.new.seat.me c.args.node c.args.at c.stamp_word-word.result q.seat.1 q.number.2 q.number.0 c.stamp_word-word.ensures.word c.load.ensures.2)
      c.slot.ensures c.exchange.ensures.3),
)
