use Rattle.std.proofs.Common.{◌≡◌, ◌≤◌, ap, sym, ◌∙◌, length, arith, rules}
use Rattle.std.proofs.lemmas.List.{length-map}
use Rattle.nr_world.specs.Served.{node_seen}
use Rattle.nr_world_service.proofs.Downs.{all_by}
use Rattle.nr_world_service.proofs.moving.is_down.Goals as goal

pub returns : goal.returns
returns c = λ shown shows.
    let many : length shown.nodes ≡ length c.args.world.now.nodes = sym (ap length shows.nodes) ∙ length-map c.args.world.now.nodes node_seen in
    let sized : length c.args.world.now.nodes ≡ c.args.world.now.setup.nodes = c.requires in
    let end : c.args.world.now.setup.nodes ≤ c.loop-node.node = search rules in
    sym (all_by (λ node. node.down) shown.nodes (λ i below. c.loop-node.invariant shown shows i (omega arith)))
