use Rattle.std.proofs.Common.{rules, Some, drop, ap, ◌∙◌}
use Rattle.std.specs.Option.{option_map}
use Rattle.nr_model.specs.Bytes.{Bytes}
use Rattle.nr_world_service.proofs.Found.{put_by, put_then}
use Rattle.nr_world_service.proofs.taps.Taps.let_go.Goals as goal

pub returns-in-Some : goal.returns-in-Some
returns-in-Some c =
    let changes = (c.get_mut.follows.holds c.let_go.new.self).3 (search rules) in
    let old = c.args.self.now.by_conn.entries in
    let new = (c.get_mut.follows.lender c.let_go.new.self).entries in
    put_then old new c.args.conn (Some c.let_go.new.self) _
    (put_by old new c.args.conn (Some c.let_go.new.self) changes.0)
    (ap (λ (b : Bytes). Some b) c.let_go.ensures ∙ ap (option_map (λ (b : Bytes). drop c.args.count b)) c.in-Some.ensures.value)
