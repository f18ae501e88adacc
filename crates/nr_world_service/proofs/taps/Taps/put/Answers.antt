use Rattle.std.proofs.Common.{rules, Some, ap}
use Rattle.nr_model.specs.Bytes.{Bytes}
use Rattle.nr_world_service.proofs.Found.{put_by, put_then, piece_kept}
use Rattle.nr_world_service.proofs.taps.Taps.put.Goals as goal

pub returns-in_ok-put : goal.returns-in_ok-put
returns-in_ok-put c =
    let changes = (c.get_mut.follows.holds c.put.new.self).3 (search rules) in
    let old = c.args.self.now.by_conn.entries in
    let new = (c.get_mut.follows.lender c.put.new.self).entries in
    piece_kept old new c.args.handed.conn c.args.handed.bytes.items c.in-Some.tap.now c.in-Some.ensures.value
    (put_then old new c.args.handed.conn (Some c.put.new.self) _
    (put_by old new c.args.handed.conn (Some c.put.new.self) changes.0) (ap (λ (b : Bytes). Some b) c.in_ok-put.ensures))
